-- A request that the simple allocator grants, and one whose sides are too great.
use Rattle.std.proofs.Common.{◌≡◌, ◌<◌, ◌≤◌, ◌⊎◌, inl, inr, refl, List, ◌∷◌, ◌++◌, Option, Some, None, Result, Ok, Err, arith}
use Rattle.atlas_model.specs.declared.error.AtlasError.{AtlasError}
use Rattle.atlas_model.specs.declared.error.AtlasError.TheVariants.{Memory, Slots, NotLive}
use Rattle.atlas_model.specs.declared.geometry.Rectangle.{Rectangle}
use Rattle.atlas_model.specs.declared.geometry.Size.{Size}
use Rattle.atlas_model.specs.declared.options.AllocatorOptions.{AllocatorOptions}
use Rattle.atlas_model.specs.Boxes.{Sides, box_at, AreSameBoxes}
use Rattle.guillotiere.specs.FreeBoxes.BoxShelves.{free_item_boxes}
use Rattle.atlas_model.specs.Choice.{rounded, HasNoRoom, IsPick}
use Rattle.guillotiere.specs.FreeBoxes.FreeLists.{state_of_items}
use Rattle.atlas_search.specs.Items.{Item}
use Rattle.atlas_model.specs.Pixels.{box_of, rectangle_of, sides_of, size_of, options_of}
use Rattle.atlas_search.specs.Requests.{CanBeRounded}
use Rattle.atlas_model.specs.Simple.{kept_rest, simple_answer, IsSimple, SimpleState, SimpleStep, SimplyGrants}
use Rattle.atlas_model.specs.Simple.SimpleAtlasCall.{Allocate}
use Rattle.atlas_search.proofs.SearchLemmas.Picks.{no_room_unrounded}

pub simply_grants : (old new : List Item) (whole : Sides) (options : AllocatorOptions) (s : Sides) (size : Size)
    (picked granted : Rectangle)
    → CanBeRounded (options_of options) s × (size ≡ size_of (rounded (options_of options) s))
    → IsPick (free_item_boxes old) (options_of options) (sides_of size) (box_of picked)
    → granted ≡ rectangle_of (box_at (box_of picked).min (sides_of size))
    → AreSameBoxes (box_of picked ∷ free_item_boxes new) (kept_rest (options_of options) (box_of picked) (sides_of size) ++ free_item_boxes
    old)
    → SimplyGrants (state_of_items old whole options) s (box_of granted) (state_of_items new whole options)
simply_grants old new whole options s size picked granted h pick is boxes = grind arith

-- Where a rounded side passes an `i32`, and no side of the allocator does, nothing is granted and no memory is asked for.
module _ (old new : SimpleState) (r : Sides) (simple : IsSimple old) (wide : old.size.width ≤ 2147483647)
    (high : old.size.height ≤ 2147483647)
    (past : (2147483647 < (rounded old.options r).width) ⊎ (2147483647 < (rounded old.options r).height)) where
  no_room : HasNoRoom old.free old.options r
  no_room =
      no_room_unrounded old.free old.options r old.size (λ can. elim past [
        | inl w ↦ omega (arith, w, can.width)
        | inr h ↦ omega (arith, h, can.height)
      ]) simple.boxes wide high

  pub past_is_none : (result : Result (Option Rectangle) AtlasError) → SimpleStep old (Allocate r) (simple_answer result) new
      → result ≡ Ok None
  past_is_none (Ok None) step = refl
  past_is_none (Ok (Some a)) step =
      absurd (no_room (record { positive = step.positive; box = step.picked; fitting = step.pick.best.candidate.fitting }))
  past_is_none (Err Memory) step = absurd (no_room step.0)
  past_is_none (Err Slots) step = absurd step
  past_is_none (Err NotLive) step = absurd step
