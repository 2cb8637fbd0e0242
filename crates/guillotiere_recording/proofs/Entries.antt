-- The entries of live ids: what is counted, and the names that they give.
use Rattle.std.proofs.Common.{◌≡◌, ℕ, ◌+◌, ◌<◌, ◌≤◌, ◌==◌, eqb, Bool, true, false, cond, get_or, List, [], ◌∷◌, ◌++◌, length, take, drop}
use Rattle.std.proofs.Common.{suc, refl, ap, sym, ◌∙◌, arith, All, Contains}
use Rattle.std.specs.List.{remove}
use Rattle.std.proofs.lemmas.Bool.{eqb-true, eq-eqb}
use Rattle.std.proofs.lemmas.List.Elements.{All-contains, All-contains_itself, All-append, All-take, All-drop, Contains-append_left}
use Rattle.std.proofs.lemmas.List.Elements.{Contains-push}
use Rattle.std.proofs.lemmas.List.Sums.{sum_by-remove}
use Rattle.guillotiere.proofs.ListLemmas.ListCounts.{count_by-cons, count_by-append, count_some, counted_once}
use Rattle.guillotiere.proofs.TreeLemmas.TreeBasics.{one_if}
use Rattle.guillotiere.proofs.TreeLemmas.TreeIds.{Contains-first, Contains-later}
use Rattle.guillotiere_recording.specs.declared.names.LiveName.{LiveName as Entry}
use Rattle.guillotiere_recording.specs.Names.{entries_of, name_among}

-- Live ids are those that are counted.

-- An id that has entries: one of them gives its name.
pub entry_of : (id : ℕ) (ns : List Entry) → 1 ≤ entries_of id ns
    → (n : Entry) × Contains ns n × (n.id ≡ id) × (name_among ns id ≡ n.name)
entry_of id [] some = absurd (omega arith)
entry_of id (n ∷ ns) some = by_test (eqb n.id id) refl (count_by-cons (λ (m : Entry). m.id == id) n ns) (entry_of id ns)
  where
    by_test : (b : Bool) → eqb n.id id ≡ b → entries_of id (n ∷ ns) ≡ one_if b + entries_of id ns
        → (1 ≤ entries_of id ns → (m : Entry) × Contains ns m × (m.id ≡ id) × (name_among ns id ≡ m.name))
        → (m : Entry) × Contains (n ∷ ns) m × (m.id ≡ id) × (name_among (n ∷ ns) id ≡ m.name)
    by_test true is count later = (n, Contains-first n ns, eqb-true n.id id is, ap (λ b. cond b n.name (name_among ns id)) is)
    by_test false is count later =
        let r = later (omega arith) in
        (r.0, Contains-later n ns r.0 r.1, r.2, ap (λ b. cond b n.name (name_among ns id)) is ∙ r.3)

-- An id that has one entry has its name.
pub name_of : (id : ℕ) (ns : List Entry) (n : Entry) → entries_of id ns ≤ 1 → Contains ns n → n.id ≡ id
    → name_among ns id ≡ n.name
name_of id ns n few at is =
    let test : n.id == id ≡ true = eq-eqb n.id id is in
    let r = entry_of id ns (count_some (λ (m : Entry). m.id == id) ns n at test) in
    let same : n ≡ r.0 = counted_once (λ (m : Entry). m.id == id) ns n r.0 few at r.1 test (eq-eqb r.0.id id r.2) in
    r.3 ∙ sym (ap (λ (m : Entry). m.name) same)

-- An entry more.

pub entries_pushed : (id : ℕ) (ns : List Entry) (n : Entry)
    → entries_of id (ns ++ n ∷ []) ≡ entries_of id ns + one_if (n.id == id)
entries_pushed id ns n =
    let e = count_by-append (λ (m : Entry). m.id == id) ns (n ∷ []) in
    let f = count_by-cons (λ (m : Entry). m.id == id) n [] in
    omega (arith, e, f)

pub name_pushed : (ns : List Entry) (n : Entry) → entries_of n.id ns ≡ 0 → name_among (ns ++ n ∷ []) n.id ≡ n.name
name_pushed ns n none =
    let e = entries_pushed n.id ns n in
    let one : one_if (n.id == n.id) ≤ 1 = at_most (n.id == n.id) in
    name_of n.id (ns ++ n ∷ []) n (omega arith) (Contains-push ns n) refl
  where
    at_most : (b : Bool) → one_if b ≤ 1
    at_most true = omega arith
    at_most false = omega arith

pub names_pushed : (ns : List Entry) (n : Entry) (id : ℕ) → 1 ≤ entries_of id ns → entries_of id (ns ++ n ∷ []) ≤ 1
    → name_among (ns ++ n ∷ []) id ≡ name_among ns id
names_pushed ns n id some few =
    let r = entry_of id ns some in
    name_of id (ns ++ n ∷ []) r.0 few (Contains-append_left ns (n ∷ []) r.0 r.1) r.2 ∙ sym r.3

-- An entry less.

pub All-removed : (P : Entry → Type 0) (ns : List Entry) (at : ℕ) → All P ns → All P (remove ns at)
All-removed P ns at h = All-append P (take at ns) (drop (suc at) ns) (All-take P at ns h) (All-drop P (suc at) ns h)

pub names_removed : (ns : List Entry) (at id : ℕ) → 1 ≤ entries_of id (remove ns at) → entries_of id ns ≤ 1
    → name_among (remove ns at) id ≡ name_among ns id
names_removed ns at id some few =
    let r = entry_of id (remove ns at) some in
    let there : Contains ns r.0 = All-contains (Contains ns) (remove ns at) r.0 (All-removed (Contains ns) ns at (All-contains_itself ns))
    r.1 in
    r.3 ∙ sym (name_of id ns r.0 few there r.2)

pub entries_removed : (id : ℕ) (ns : List Entry) (at : ℕ) (d : Entry) → at < length ns
    → entries_of id (remove ns at) + one_if ((get_or ns at d).id == id) ≡ entries_of id ns
entries_removed id ns at d below = sum_by-remove (λ (m : Entry). one_if (m.id == id)) ns at d below
