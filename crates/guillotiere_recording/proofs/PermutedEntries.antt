-- Entries in another order give the same names.
use Rattle.std.proofs.Common.{◌≡◌, ℕ, ◌≤◌, ◌==◌, get_or, List, map, ap, sym, subst, ◌∙◌, arith, All, IsPermutation}
use Rattle.std.proofs.lemmas.List.Elements.{All-contains}
use Rattle.std.proofs.lemmas.List.Sorted.{Contains-permutation}
use Rattle.guillotiere.specs.declared.Allocation.{Allocation}
use Rattle.guillotiere.specs.declared.Change.{Change}
use Rattle.guillotiere.proofs.ListLemmas.CallerLemmas.{count_by-permutation}
use Rattle.guillotiere_recording.specs.declared.names.LiveName.{LiveName as Entry}
use Rattle.guillotiere_recording.specs.Names.{entries_of, name_among}
use Rattle.guillotiere_recording.specs.Moves.{failure_under}
use Rattle.guillotiere_recording.proofs.Counts.{map_alike}
use Rattle.guillotiere_recording.proofs.Entries.{entry_of, name_of}

pub entries_permuted : (ns ms : List Entry) → IsPermutation ns ms → (id : ℕ) → entries_of id ms ≡ entries_of id ns
entries_permuted ns ms h id = count_by-permutation (λ (n : Entry). n.id == id) ns ms h

pub names_permuted : (ns ms : List Entry) → IsPermutation ns ms → (id : ℕ) → entries_of id ns ≤ 1 → 1 ≤ entries_of id ns
    → name_among ms id ≡ name_among ns id
names_permuted ns ms h id once some =
    let r = entry_of id ns some in
    let few = entries_permuted ns ms h id in
    name_of id ms r.0 (omega (arith, few, once)) (Contains-permutation ns ms r.0 h r.1) r.2 ∙ sym r.3

-- Entries that are copied, sorted and read.
pub read_back : (ns xs ms read : List Entry) → xs ≡ ns → IsPermutation xs ms → read ≡ ms → IsPermutation ns read
read_back ns xs ms read copied sorted is =
    subst (λ zs. IsPermutation zs read) copied (subst (λ zs. IsPermutation xs zs) (sym is) sorted)

abbrev renamed : ℕ → Allocation → Allocation
renamed n c = record { id = n; rectangle = c.rectangle }

module _ (ns ms : List Entry) (h : IsPermutation ns ms) where
  pub once_permuted : ((id : ℕ) → entries_of id ns ≤ 1) → (id : ℕ) → entries_of id ms ≤ 1
  once_permuted once id = let e = entries_permuted ns ms h id in let o = once id in omega (arith, e, o)

  pub changes_entered : (cs ds : List Change) → ds ≡ cs → All (λ (c : Change). 1 ≤ entries_of c.old.id ns) cs
      → All (λ (c : Change). 1 ≤ entries_of c.old.id ms) ds
  changes_entered cs ds is all k d below =
      let some : 1 ≤ entries_of (get_or ds k d).old.id ns =
      subst (λ xs. All (λ (c : Change). 1 ≤ entries_of c.old.id ns) xs) (sym is) all k d below in
      let e = entries_permuted ns ms h (get_or ds k d).old.id in
      omega (arith, e, some)

  pub failures_entered : (cs ds : List Allocation) → ds ≡ cs → All (λ (c : Allocation). 1 ≤ entries_of c.id ns) cs
      → All (λ (c : Allocation). 1 ≤ entries_of c.id ms) ds
  failures_entered cs ds is all k d below =
      let some : 1 ≤ entries_of (get_or ds k d).id ns =
      subst (λ xs. All (λ (c : Allocation). 1 ≤ entries_of c.id ns) xs) (sym is) all k d below in
      let e = entries_permuted ns ms h (get_or ds k d).id in
      omega (arith, e, some)

  pub changes_alike : {Y : Type 0} (under : (ℕ → ℕ) → Change → Y)
      → ((f g : ℕ → ℕ) (c : Change) → f c.old.id ≡ g c.old.id → under f c ≡ under g c)
      → ((id : ℕ) → entries_of id ns ≤ 1) → (cs ds : List Change) → ds ≡ cs
      → All (λ (c : Change). 1 ≤ entries_of c.old.id ns) cs
      → map (under (name_among ms)) ds ≡ map (under (name_among ns)) cs
  changes_alike under reads once cs ds is all =
      ap (map (under (name_among ms))) is
      ∙ map_alike (under (name_among ms)) (under (name_among ns)) cs
      (λ c at. reads (name_among ms) (name_among ns) c
      (names_permuted ns ms h c.old.id (once c.old.id) (All-contains (λ (c : Change). 1 ≤ entries_of c.old.id ns) cs c all at)))

  pub failures_alike : ((id : ℕ) → entries_of id ns ≤ 1) → (cs ds : List Allocation) → ds ≡ cs
      → All (λ (c : Allocation). 1 ≤ entries_of c.id ns) cs
      → map (failure_under (name_among ms)) ds ≡ map (failure_under (name_among ns)) cs
  failures_alike once cs ds is all =
      ap (map (failure_under (name_among ms))) is
      ∙ map_alike (failure_under (name_among ms)) (failure_under (name_among ns)) cs
      (λ c at. ap (λ n. renamed n c)
      (names_permuted ns ms h c.id (once c.id) (All-contains (λ (c : Allocation). 1 ≤ entries_of c.id ns) cs c all at)))
