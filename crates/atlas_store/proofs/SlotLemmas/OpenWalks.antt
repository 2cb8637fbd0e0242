-- Walks along the members of a sequence, in both directions.
use Rattle.std.proofs.Common.{ℕ, ◌+◌, ◌<◌, ◌≤◌, ◌≡◌, ◌==◌, ◌⊎◌, inl, inr, List, Bool, true, false, refl, sym, ap, subst, ◌∙◌, arith}
use Rattle.std.proofs.Common.{length, zero, suc, if◌then◌else◌}
use Rattle.std.proofs.lemmas.Bool.{cases_eq, ne_eqb, true≢false}
use Rattle.std.proofs.lemmas.List.{get_or_past}
use Rattle.atlas_store.specs.declared.slots.Node.{Node}
use Rattle.atlas_store.specs.Slots.{node_at, use_count, blank_node}
use Rattle.atlas_search.specs.Numbers.{no_slot}
use Rattle.atlas_store.specs.Slots.Numbered.{Numbered, tally, numbers, End, Free, Alloc, Seq}
use Rattle.atlas_store.specs.Slots.Standing.{Sequence, Standing, IsTree, IsSlot, inside}
use Rattle.atlas_store.specs.Slots.Rehearsing.{IsUsedAt, OpenLine, is_open}
use Rattle.atlas_store.proofs.SlotLemmas.Frames.{same-ne, split_pos, used-le, ne-from_same}
use Rattle.atlas_store.proofs.SlotLemmas.JoinWrites.{used-inside, none-unused}
use Rattle.atlas_store.proofs.SlotLemmas.ReadTrees.{numbers-few, tallies-le, tallies-numbers}
use Rattle.atlas_store.proofs.SlotLemmas.MemberLinks.{next-in}
use Rattle.atlas_store.proofs.SlotLemmas.Suffixes.{suffix-at}
use Rattle.atlas_store.proofs.SlotLemmas.SettledTrees.{before-in}
use Rattle.atlas_store.proofs.SlotLemmas.Followers.{followers, followers-outermost, outermost, outermost-numbers}

-- The slots that lead back from slot i, as far as a bound.
abbrev pub leaders : (bound : ℕ) → List Node → (i : ℕ) → ℕ
leaders zero ns i = 0
leaders (suc bound) ns i = if i == no_slot then 0 else 1 + leaders bound ns (node_at ns i).previous.number

-- They are d, whatever greater bound there is.
record AreLeaders (ns : List Node) (i d : ℕ) : Type 0 where
  pub all : (bound : ℕ) → d ≤ bound → leaders bound ns i ≡ d

none-leads : (ns : List Node) (bound : ℕ) → leaders bound ns no_slot ≡ 0
none-leads ns zero = refl
none-leads ns (suc bound) = refl

one_leads : (ns : List Node) (i b d : ℕ) → (i ≡ no_slot → ⊥) → (node_at ns i).previous.number ≡ b → AreLeaders ns b d
    → (bound : ℕ) → d + 1 ≤ bound → leaders bound ns i ≡ d + 1
one_leads ns i b d ne e h zero l = absurd (omega arith)
one_leads ns i b d ne e h (suc bound) l = rw (ne_eqb i no_slot ne, e) (omega (arith, h.all bound (omega arith)))

record HasLeaders (ns : List Node) (i most : ℕ) : Type 0 where
  pub count : ℕ
  pub few : count ≤ most
  pub leads : AreLeaders ns i count

wider : (ns : List Node) (i m n : ℕ) → m ≤ n → HasLeaders ns i m → HasLeaders ns i n
wider ns i m n l h = record { count = h.count; few = omega (arith, h.few); leads = h.leads }

module _ (ns : List Node) (i : ℕ) where
  leaders-here : (j b d most : ℕ) → i ≡ j → (j ≡ no_slot → ⊥) → (node_at ns j).previous.number ≡ b → AreLeaders ns b d
      → d + 1 ≤ most → HasLeaders ns i most
  leaders-here j b d most q ne e h l = rw q (record { count = d + 1; few = l; leads = record { all = one_leads ns j b d ne e h } })

  leaders-in : (s : Sequence) (b p d : ℕ) (n : Numbered) → Standing ns s b p n → tally no_slot n ≡ 0
      → AreLeaders ns b d → 0 < tally i n → HasLeaders ns i (d + numbers n)
  leaders-in s b p d End h none x l = absurd (omega arith)
  leaders-in s b p d (Free j e rest) h none x l =
      let nj : j ≡ no_slot → ⊥ = ne-from_same no_slot j (omega arith) in
      let y : AreLeaders ns j (d + 1) = record { all = one_leads ns j b d nj h.0.previous x } in
      elim (cases_eq i j) [
        | inl q ↦ leaders-here j b d _ q nj h.0.previous x (omega arith)
        | inr ne ↦ wider ns i _ _ (omega arith) (leaders-in s j (p + e) (d + 1) rest h.2 (omega arith) y (omega (arith, same-ne i j ne)))
      ]
  leaders-in s b p d (Alloc j g e rest) h none x l =
      let nj : j ≡ no_slot → ⊥ = ne-from_same no_slot j (omega arith) in
      let y : AreLeaders ns j (d + 1) = record { all = one_leads ns j b d nj h.0.previous x } in
      elim (cases_eq i j) [
        | inl q ↦ leaders-here j b d _ q nj h.0.previous x (omega arith)
        | inr ne ↦ wider ns i _ _ (omega arith) (leaders-in s j (p + e) (d + 1) rest h.3 (omega arith) y (omega (arith, same-ne i j ne)))
      ]
  leaders-in s b p d (Seq j e inner rest) h none x l =
      let nj : j ≡ no_slot → ⊥ = ne-from_same no_slot j (omega arith) in
      let y : AreLeaders ns j (d + 1) = record { all = one_leads ns j b d nj h.0.previous x } in
      let z : AreLeaders ns no_slot 0 = record { all = λ bound _. none-leads ns bound } in
      elim (cases_eq i j) [
        | inl q ↦ leaders-here j b d _ q nj h.0.previous x (omega arith)
        | inr ne ↦ elim (split_pos (tally i inner) (tally i rest) (omega (arith, same-ne i j ne))) [
          | inl a ↦ wider ns i _ _ (omega arith) (leaders-in (inside s j p e) no_slot s.start 0 inner h.2 (omega arith) z a)
          | inr a ↦ wider ns i _ _ (omega arith) (leaders-in s j (p + e) (d + 1) rest h.3 (omega arith) y a)
        ]
      ]

-- Slots that stand for a tree, with room for none.
module _ (ns : List Node) (short : length ns ≤ 16777216) (tree : IsTree ns) (i : ℕ) (used : IsUsedAt ns i) where
  none : use_count (node_at ns no_slot).kind ≡ 0
  none = ap use_count (none-unused ns (omega arith))

  here : 0 < tally i tree.1
  here = omega (arith, tree.2.numbered i, used)

  some : i ≡ no_slot → ⊥
  some e = omega (arith, none, used, ap (λ x. use_count (node_at ns x).kind) e)

  use_of : (k : ℕ) → 0 < tally k tree.1 → IsUsedAt ns k
  use_of k l = omega (arith, tree.2.numbered k)

  once_in : (k : ℕ) (m : Numbered) → tally k m ≤ tally k tree.1 → tally k m ≤ 1
  once_in k m l = omega (arith, tree.2.numbered k, used-le (node_at ns k).kind)

  -- The one before, if there is one, is used, and leads here.
  pub previous-used : ((node_at ns i).previous.number ≡ no_slot)
      ⊎ (IsUsedAt ns (node_at ns i).previous.number × ((node_at ns (node_at ns i).previous.number).next.number ≡ i))
  previous-used = elim (before-in ns i tree.0 no_slot 0 tree.1 tree.2.standing here) [
    | inl x ↦ inl x.1
    | inr (inl x) ↦ inl x
    | inr (inr x) ↦ inr (use_of _ x.0, x.1)
  ]

  pub next-used : ((node_at ns i).next.number ≡ no_slot) ⊎ IsUsedAt ns (node_at ns i).next.number
  next-used = elim (next-in ns i tree.0 no_slot 0 tree.1 tree.2.standing here) [ inl x ↦ inl x | inr x ↦ inr (use_of _ x) ]

  pub previous-falls : leaders (length ns) ns (node_at ns i).previous.number < leaders (length ns) ns i
  previous-falls =
      let no_tally : tally no_slot tree.1 ≡ 0 = omega (arith, tree.2.numbered no_slot, none) in
      let z : AreLeaders ns no_slot 0 = record { all = λ bound _. none-leads ns bound } in
      let x = leaders-in ns i tree.0 no_slot 0 0 tree.1 tree.2.standing no_tally z here in
      let few : x.count ≤ length ns = omega (arith, x.few, numbers-few ns tree.0 tree.1 tree.2) in
      let y : leaders (suc (length ns)) ns i ≡ 1 + leaders (length ns) ns (node_at ns i).previous.number =
      rw (ne_eqb i no_slot some) refl in
      omega (arith, y, x.leads.all (length ns) few, x.leads.all (suc (length ns)) (omega arith))

  pub next-falls : followers (length ns) ns (node_at ns i).next.number < followers (length ns) ns i
  next-falls =
      let f = suffix-at ns i tree.0 no_slot 0 tree.1 tree.2.standing here in
      let no_tally : tally no_slot f.members ≡ 0 = omega (arith, f.within no_slot, tree.2.numbered no_slot, none) in
      let most = tallies-le (length ns) f.members (λ k. once_in k f.members (f.within k)) in
      let inside = λ (k : ℕ) (l : 0 < tally k f.members). used-inside ns k (use_of k (omega (arith, f.within k, l))) in
      let all = tallies-numbers (length ns) f.members inside in
      let few : outermost f.members ≤ length ns = omega (arith, outermost-numbers f.members, most, all) in
      let y : followers (suc (length ns)) ns i ≡ 1 + followers (length ns) ns (node_at ns i).next.number =
      rw (ne_eqb i no_slot some) refl in
      let l = (λ (bound : ℕ) (l : outermost f.members ≤ bound).
      subst (λ k. followers bound ns k ≡ outermost f.members) f.begins
      (followers-outermost bound ns f.at f.before f.start f.members f.standing no_tally l)) in
      omega (arith, y, l (length ns) few, l (suc (length ns)) (omega arith))

  -- The slots beside it are slots, or none.
  pub slot-before : (m x : ℕ) → x ≡ (node_at ns i).previous.number → m ≡ length ns → IsSlot m x
  slot-before m x ex em =
      rw (ex, em) (elim previous-used [ inl y ↦ inl y | inr y ↦ inr (used-inside ns _ y.0) ])

  pub slot-after : (m x : ℕ) → x ≡ (node_at ns i).next.number → m ≡ length ns → IsSlot m x
  slot-after m x ex em = rw (ex, em) (elim next-used [ inl y ↦ inl y | inr y ↦ inr (used-inside ns _ y) ])

  -- An open one before it goes on a line of open members.
  pub goes-before : (o : ℕ → Bool) (count at : ℕ) → o no_slot ≡ false → o (node_at ns i).previous.number ≡ true
      → OpenLine ns o count i at
      → IsUsedAt ns (node_at ns i).previous.number × OpenLine ns o (suc count) (node_at ns i).previous.number at
  goes-before o count at closed open_there line = elim previous-used [
    | inl e ↦ absurd (true≢false (sym open_there ∙ ap o e ∙ closed))
    | inr x ↦ (x.0, (open_there, rw x.1 line))
  ]

  pub used-after : (o : ℕ → Bool) → o no_slot ≡ false → o (node_at ns i).next.number ≡ true
      → IsUsedAt ns (node_at ns i).next.number
  used-after o closed open_there = elim next-used [
    | inl e ↦ absurd (true≢false (sym open_there ∙ ap o e ∙ closed))
    | inr x ↦ x
  ]

-- A line of open members that goes on.
pub line-after : (ns : List Node) (o : ℕ → Bool) (count low high : ℕ) → o high ≡ true → OpenLine ns o count low high
    → OpenLine ns o (suc count) low (node_at ns high).next.number
line-after ns o zero low high t line = rw line (t, refl)
line-after ns o (suc count) low high t line = (line.0, line-after ns o count (node_at ns low).next.number high t line.1)

-- No slot is not open.
pub none-closed : (ns : List Node) (marks : List Bool) → length marks ≡ length ns → length ns ≤ 16777216
    → is_open ns marks no_slot ≡ false
none-closed ns marks e short =
    let a : (node_at ns no_slot) ≡ blank_node = get_or_past ns no_slot blank_node (omega arith) in
    let b = get_or_past marks no_slot false (omega arith) in
    rw (a, b) refl
