-- Entries by rising name.
use Rattle.std.proofs.Common.{◌≡◌, ℕ, ◌<◌, ◌≤◌, ◌⊎◌, inl, inr, get_or, ltb, ltb-true, ltb-false, true, false, List, length, subst, arith}
use Rattle.std.specs.List.Sorted.{IsNonDecreasingBy, IsPartitionPoint}
use Rattle.std.proofs.lemmas.Bool.{cases_lt, cases_order}
use Rattle.guillotiere_recording.specs.declared.names.LiveName.{LiveName as Entry}
use Rattle.guillotiere_recording.specs.Names.{AreRisingNames}

pub rising_order : (ns : List Entry) → AreRisingNames ns → IsNonDecreasingBy (λ (n : Entry). n.name) ns
rising_order ns rising i j d before below = by_place (cases_lt i j)
  where
    by_place : (i < j) ⊎ (j ≤ i) → (get_or ns i d).name ≤ (get_or ns j d).name
    by_place (inl less) = let h : (get_or ns i d).name < (get_or ns j d).name = rising i j d less below in omega arith
    by_place (inr more) = let same : i ≡ j = omega arith in subst (λ k. (get_or ns i d).name ≤ (get_or ns k d).name) same (omega arith)

-- The first entry that isn't below a name is the only one that may have it.
pub found_at : (ns : List Entry) (at name : ℕ) → AreRisingNames ns
    → IsPartitionPoint (λ (n : Entry). ltb n.name name ≡ true) (λ (n : Entry). ltb n.name name ≡ false) ns at
    → (k : ℕ) (d : Entry) → k < length ns → (get_or ns k d).name ≡ name → k ≡ at
found_at ns at name rising point k d below is = by_place (cases_order k at)
  where
    before : k < at → ⊥
    before less = let h : (get_or ns k d).name < name = ltb-true _ _ (point.0 k d (omega arith) less) in omega arith

    after : at < k → ⊥
    after less =
        let h : (get_or ns at d).name < (get_or ns k d).name = rising at k d less below in
        let q : name ≤ (get_or ns at d).name = ltb-false _ _ (point.1 at d (omega arith) (omega arith)) in
        omega arith

    by_place : (k ≡ at) ⊎ ((k < at) ⊎ (at < k)) → k ≡ at
    by_place (inl same) = same
    by_place (inr (inl less)) = absurd (before less)
    by_place (inr (inr more)) = absurd (after more)
