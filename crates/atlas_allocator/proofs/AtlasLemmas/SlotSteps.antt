-- Steps of a walk that stops at each leaf.
use Rattle.std.proofs.Common.{◌≡◌, ◌+◌, ◌<◌, ◌≤◌, ◌∙◌, ℕ, zero, suc, Bool, true, cond, List, [], ◌∷◌, get_or, drop, length, refl, ap}
use Rattle.std.proofs.Common.{sym, arith}
use Rattle.std.proofs.lemmas.List.{at_drop_more, get_or_default}
use Rattle.atlas_store.specs.Slots.{node_of, nodes}
use Rattle.atlas_store.specs.Visits.{is_alloc, allocation_at, allocated_from, free_areas}
use Rattle.atlas_store.specs.contracts.slots.NodeKind.{the_type}
use Rattle.std.proofs.lemmas.Bool.{true≢false}
use Rattle.atlas_store.specs.declared.slots.NodeKind.{NodeKind}
use Rattle.atlas_store.specs.declared.slots.Slot.{Slot}
use denote.Enum.Bare.{sameb}
use Rattle.atlas_store.specs.declared.slots.NodeKind.TheVariants as kind
use Rattle.atlas_store.proofs.WalkLemmas.WalkSteps.{free-next}

-- A kind that the test of the code finds.
told_free : (k : NodeKind) (b : Bool) → b ≡ sameb the_type k kind.Free → b ≡ true → k ≡ kind.Free
told_free kind.Free b e f = refl
told_free kind.Alloc b e f = absurd (true≢false (sym f ∙ e))
told_free kind.Container b e f = absurd (true≢false (sym f ∙ e))
told_free kind.Unused b e f = absurd (true≢false (sym f ∙ e))

told_alloc : (k : NodeKind) (b : Bool) → b ≡ sameb the_type k kind.Alloc → b ≡ true → k ≡ kind.Alloc
told_alloc kind.Alloc b e f = refl
told_alloc kind.Free b e f = absurd (true≢false (sym f ∙ e))
told_alloc kind.Container b e f = absurd (true≢false (sym f ∙ e))
told_alloc kind.Unused b e f = absurd (true≢false (sym f ∙ e))

module _ (xs : List Slot) (i : ℕ) (d e : Slot) (low : i < length xs) (b : Bool) where
  pub free-step : b ≡ sameb the_type (get_or xs i d).kind kind.Free → b ≡ true
      → free_areas (nodes (drop i xs)) ≡ (get_or xs i e).area ∷ free_areas (nodes (drop (i + 1) xs))
  free-step test is =
      free-next xs i e low (ap (λ (s : Slot). s.kind) (get_or_default xs i e d low) ∙ told_free _ b test is)

  pub live-step : b ≡ sameb the_type (get_or xs i d).kind kind.Alloc → b ≡ true
      → allocated_from i (nodes (drop i xs))
      ≡ allocation_at i (node_of (get_or xs i e)) ∷ allocated_from (i + 1) (nodes (drop (i + 1) xs))
  live-step test is =
      at_drop_more (λ ys. allocated_from i (nodes ys)) xs i e low
      ∙ ap (λ k. cond (is_alloc k) (allocation_at i (node_of (get_or xs i e)) ∷ allocated_from (i + 1) (nodes (drop (i + 1) xs)))
      (allocated_from (i + 1) (nodes (drop (i + 1) xs))))
      (ap (λ (s : Slot). s.kind) (get_or_default xs i e d low) ∙ told_alloc _ b test is)

-- Past all slots.
pub free-past_all : (xs : List Slot) (i : ℕ) → length xs ≤ i → free_areas (nodes (drop i xs)) ≡ []
free-past_all [] zero h = refl
free-past_all [] (suc i) h = refl
free-past_all (x ∷ xs) zero h = absurd (omega (arith, h))
free-past_all (x ∷ xs) (suc i) h = free-past_all xs i (omega (arith, h))
