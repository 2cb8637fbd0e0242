-- What a rearranging makes of an atlas.
use Rattle.std.proofs.Common.{rules, arith, ◌≡◌, List, map, All, IsPermutation, ap, sym, subst, [], ◌∷◌}
use Rattle.std.proofs.lemmas.List.Elements.{All-nil, All-cons, All-head, All-tail}
use Rattle.std.proofs.lemmas.List.Sorted.{All-permutation, IsPermutation-map}
use Rattle.atlas_model.specs.Boxes.{Sides, IsPositive, box_sides}
use Rattle.atlas_model.specs.Laws.StepLaws.{IsRearrangingStep}
use Rattle.atlas_model.specs.Rearranging.{transfer_of, KeepsSides}
use Rattle.atlas_model.specs.Refits.{Transfer, Rearrangement, IsRanked, IsRefitOrder}
use Rattle.atlas_model.specs.Refits.Refitted.{HasExactRectangle, IsRefitOf}
use Rattle.atlas_model.specs.Replies.{grant_of, AreRising}
use Rattle.atlas_model.specs.States.{State, live_in, started, IsSound}
use Rattle.atlas_model.specs.Steps.{Rearranges}
use Rattle.atlas_model.specs.Steps.AtlasReply.{Changed}
use Rattle.atlas_store.specs.Stored.{AtlasValue, state_of}
use Rattle.atlas_model.specs.Trees.{Grant}
use Rattle.atlas_store.specs.Visits.{AreGrants}
use Rattle.atlas_model.specs.declared.allocation.Allocation.{Allocation}
use Rattle.atlas_model.specs.declared.change.Change.{Change}
use Rattle.atlas_allocator.proofs.AtlasLemmas.RefitRanks.{refit_order_of}
use Rattle.atlas_model.proofs.StepLemmas.StepEffects.{rearranging_step}

-- What is allocated, put into order.
pub order-sorted : (s : State) (found sorted : List Allocation) → AreGrants s found → IsPermutation found sorted
    → (AreRising (map grant_of found) → IsRanked (map grant_of sorted)) → IsRefitOrder (live_in s) (map grant_of sorted)
order-sorted s found sorted grants moved ranked = grind (arith, refit_order_of, IsPermutation-map)

module _ (old : State) (n : Sides) (start : State) (order : List Grant) (positive : IsPositive n)
    (is_start : start ≡ started n old.options old.limit) (ordered : IsRefitOrder (live_in old) order) where
  rearranged : (list : Rearrangement) (new : State) → IsRefitOf start order list new
      → Rearranges old n (Changed list) new
  rearranged list new made = search rules

  rearranged-step : (list : Rearrangement) (new : State) → IsSound old → IsRefitOf start order list new
      → IsRearrangingStep old list new
  rearranged-step list new sound made = rearranging_step old new n list sound (rearranged list new made)

-- Each rectangle stays exact in another order.
pub exact-sorted : (s : State) (found sorted : List Allocation) → AreGrants s found → IsPermutation found sorted
    → All HasExactRectangle sorted
exact-sorted s found sorted grants moved = All-permutation HasExactRectangle found sorted moved grants.exact

-- What holds of each transfer of a list, of each of its changes.
pub changes_of : (P : Transfer → Type 0) (changes : List Change) → All P (map transfer_of changes)
    → All (λ c. P (transfer_of c)) changes
changes_of P [] all = All-nil (λ c. P (transfer_of c))
changes_of P (c ∷ rest) all =
    All-cons (λ k. P (transfer_of k)) c rest (All-head P (transfer_of c) (map transfer_of rest) all)
    (changes_of P rest (All-tail P (transfer_of c) (map transfer_of rest) all))

-- A state is read from what is stored.
same_state : (v w : AtlasValue) → v.stored ≡ w.stored → state_of v ≡ state_of w
same_state v w is = ap (λ s. state_of (record { stored = s; turns = 0; capacity = 0 })) is

-- In the words of the calls: `start` is the fresh atlas, `placed` the same with all boxes placed, and `new` stores that.
module _ (old start placed new : AtlasValue) (n : Sides) (positive : IsPositive n)
    (is_start : state_of start ≡ started n (state_of old).options (state_of old).limit)
    (order : List Grant) (ordered : IsRefitOrder (live_in (state_of old)) order) (list : Rearrangement)
    (made : IsRefitOf (state_of start) order list (state_of placed)) (stored : new.stored ≡ placed.stored) where
  pub atlas-rearranged : Rearranges (state_of old) n (Changed list) (state_of new)
  atlas-rearranged = search rules

  pub atlas-moved : IsSound (state_of old) → IsRearrangingStep (state_of old) list (state_of new)
  atlas-moved sound =
      subst (IsRearrangingStep (state_of old) list) (sym (same_state new placed stored))
      (rearranged-step (state_of old) n (state_of start) order positive is_start ordered list (state_of placed) sound made)

  -- Boxes keep their sides.
  pub atlas-sides : IsSound (state_of old) → (changes : List Change) → list.changes ≡ map transfer_of changes
      → All KeepsSides changes
  atlas-sides sound changes is =
      let P : Transfer → Type 0 = λ t. box_sides t.new.box ≡ box_sides t.old.box in
      changes_of P changes (subst (All P) is (atlas-moved sound).sides)
