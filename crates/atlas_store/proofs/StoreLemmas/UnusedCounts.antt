-- How many slots are unused.
use Rattle.std.proofs.Common.{ℕ, ◌+◌, ◌<◌, ◌≤◌, ◌≡◌, List, [], ◌∷◌, length, refl, arith}
use Rattle.std.proofs.lemmas.List.{length-map}
use Rattle.atlas_store.specs.declared.slots.Ring.{Ring}
use Rattle.atlas_store.specs.Slots.{nodes, rings}
use Rattle.atlas_store.specs.Slots.Numbered.{tally, numbers}
use Rattle.atlas_search.specs.Numbers.{same, occurs}
use Rattle.atlas_store.specs.Slots.Lists.{Line}
use Rattle.atlas_store.specs.Stored.{Shelf, Holding, Holds}
use Rattle.atlas_store.proofs.SlotLemmas.JoinWrites.{used-inside}
use Rattle.atlas_store.proofs.SlotLemmas.ReadTrees.{sums-same, tallies-numbers}
use Rattle.atlas_model.proofs.ListLemmas.Sums.{sums, sums-add, sums-none, sums-all}

sums-occurs : (rs : List Ring) (m : ℕ) (xs : List ℕ) → length rs ≤ m → Line rs xs
    → sums (λ i. occurs i xs) m ≡ length xs
sums-occurs rs m [] l line = sums-none (λ i. 0) m (λ i b. refl)
sums-occurs rs m (x ∷ xs) l line =
    omega (arith, sums-add (λ i. same i x) (λ i. occurs i xs) m, sums-same x m (omega (arith, line.0)), sums-occurs rs m xs l line.2)

-- Each slot is unused or a member.
pub unused_list-count : (v : Shelf) (h : Holding) → Holds v h → length h.unused_list + numbers h.tree ≡ length v.slots
unused_list-count v h holds =
    let ns = nodes v.slots in
    let m : ℕ = length v.slots in
    let nl : length ns ≡ length v.slots = simp length-map in
    let rl : length (rings v.slots) ≡ length v.slots = simp length-map in
    let all : sums (λ i. occurs i h.unused_list + tally i h.tree) m ≡ m =
    sums-all (λ i. occurs i h.unused_list + tally i h.tree) (length v.slots)
    (λ i l. omega (arith, holds.filed.each i (omega arith), holds.stands.numbered i)) in
    let below : (k : ℕ) → 0 < tally k h.tree → k < length v.slots = (λ k l. let inside : k < length (nodes v.slots) =
    used-inside (nodes v.slots) k (rw (← holds.stands.numbered k) l) in omega arith) in
    omega (
      arith,
      all,
      sums-add (λ i. occurs i h.unused_list) (λ i. tally i h.tree) m,
      sums-occurs (rings v.slots) m h.unused_list (omega arith) holds.filed.line,
      tallies-numbers m h.tree below,
    )
