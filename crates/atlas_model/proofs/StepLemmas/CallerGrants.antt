-- What a request is granted and denied, and what stays of an atlas's frame.
use Rattle.std.proofs.Common.{◌≡◌, ℕ, ◌<◌, ℤ, pos, negsuc, Bool, [], refl, ap, subst, sym, ◌∙◌, arith, Option, Some, None, Result, Ok, Err}
use Rattle.std.proofs.Common.{IfSome, option_map, inl, inr}
use Rattle.std.proofs.lemmas.Int.{ints}
use Rattle.atlas_model.specs.Boxes.{Sides, Box, box_sides, whole_box, IsNonempty, IsWithin}
use Rattle.atlas_model.specs.Callers.{rectangle_in, LiesWithin, IsGranted, IsAnswer, IdleHasRoom, KeepsFrame}
use Rattle.atlas_model.specs.Choice.{rounded}
use Rattle.atlas_model.specs.Pixels.{natural, sides_of, box_of, rectangle_of, IsMeasurable}
use Rattle.atlas_model.specs.Replies.{live_box, IsExact, allocate_reply}
use Rattle.atlas_model.specs.States.{State, IsSound, after_freeing}
use Rattle.atlas_model.specs.Steps.{Step}
use Rattle.atlas_model.specs.Steps.AtlasCall.{Allocate}
use Rattle.atlas_model.specs.Steps.AtlasReply.{Allocated, NoRoom}
use Rattle.atlas_model.specs.Trees.{grant}
use Rattle.atlas_model.specs.declared.allocation.Allocation.{Allocation}
use Rattle.atlas_model.specs.declared.geometry.Rectangle.{Rectangle}
use Rattle.atlas_model.specs.declared.geometry.Size.{Size}
use Rattle.atlas_model.specs.declared.error.AtlasError.{AtlasError}
use Rattle.atlas_model.specs.declared.error.AtlasError.TheVariants.{Memory, Slots, NotLive}
use Rattle.atlas_model.proofs.StepLemmas.CallerSteps.{grant_adds}
use Rattle.atlas_model.proofs.StepLemmas.LiveBoxes.{sound_is_tiled}
use Rattle.atlas_model.proofs.StepLemmas.ApartBoxes.{live_lie_within}
use Rattle.atlas_model.proofs.StepLemmas.RefittedTrees.{sides_at}
use Rattle.atlas_model.proofs.StepLemmas.StepEffects.{grants_lie_inside}
use Rattle.atlas_model.proofs.StepLemmas.SoundSteps.{steps_keep}
use Rattle.atlas_model.proofs.TreeLemmas.TreeCounts.{release_nodes}
use Rattle.atlas_model.proofs.TreeLemmas.TreeIds.{Contains-first}
use Rattle.atlas_model.proofs.StepLemmas.Alike.{has_room}

-- The rectangle of a box that isn't empty and lies within.
pub rectangle_within : (s : Sides) (b : Box) → IsNonempty b → IsWithin s b → LiesWithin s (rectangle_of b)
rectangle_within s b some within = record {
  left = omega (arith, ints);
  top = omega (arith, ints);
  wide = omega (arith, ints, some.0);
  high = omega (arith, ints, some.1);
  right = omega (arith, ints, within.0);
  bottom = omega (arith, ints, within.1);
}

-- A side that isn't empty is a whole number.
pub whole_side : (n : ℤ) → 0 < natural n → n ≡ pos (natural n)
whole_side (pos n) some = refl
whole_side (negsuc n) some = absurd (omega (arith, some))

pub request_granted : (old new : State) → IsSound old → (request : Size) (id : ℕ) (area : Rectangle)
    → Step old (Allocate (sides_of request)) (Allocated (grant id (box_of area))) new → IsExact area
    → IsMeasurable area → IsGranted old request area
request_granted old new sound request id area step exact measurable =
    let b = box_of area in
    let r = sides_of request in
    let does = grants_lie_inside old new r (grant id b) sound step in
    let sound_new = steps_keep old new (Allocate r) (Allocated (grant id b)) sound step in
    let lies = live_lie_within new id b sound_new (grant_adds old new sound r (grant id b) step).here in
    let width = whole_side request.width step.1.takes.positive.0 in
    let height = whole_side request.height step.1.takes.positive.1 in
    let within : IsWithin old.size b = subst (λ (s : State). IsWithin s.size b) step.1.state lies.1 in
    subst (IsGranted old request) (sym exact)
    (record {
      positive = (omega (arith, ints, step.1.takes.positive.0, width), omega (arith, ints, step.1.takes.positive.1, height));
      left = omega (arith, ints);
      top = omega (arith, ints);
      wide = omega (arith, ints, does.width.0, lies.0.0, width);
      high = omega (arith, ints, does.height.0, lies.0.1, height);
      right = omega (arith, ints, within.0);
      bottom = omega (arith, ints, within.1);
      barely_wide = omega (arith, ints, does.width.1, lies.0.0, width);
      barely_high = omega (arith, ints, does.height.1, lies.0.1, height);
      sides = ap box_sides step.1.box ∙ sides_at step.0.min (rounded old.options r);
      measurable = subst IsMeasurable exact measurable;
    })

-- A shown rectangle lies within the atlas.
pub shown_lies : (s : State) → IsSound s → (id : ℕ) (o : Option Rectangle) → o ≡ rectangle_in s id
    → IfSome o (LiesWithin s.size)
shown_lies s sound id o is = subst (λ k. IfSome k (LiesWithin s.size)) (sym is) (by_box (live_box s id) refl)
  where
    by_box : (b : Option Box) → live_box s id ≡ b → IfSome (option_map rectangle_of b) (LiesWithin s.size)
    by_box None none = tt
    by_box (Some b) here = let lies = live_lie_within s id b sound here in rectangle_within s.size b lies.0 lies.1

-- An atlas in which nothing is live has room.
pub idle_has_room : IdleHasRoom
idle_has_room s r sound idle positive fits = record {
  positive = positive;
  box = whole_box s.size;
  fitting = record {
    is_free = rw ((sound_is_tiled s sound).alone idle) (Contains-first (whole_box s.size) []);
    fits = (omega (arith, fits.0), omega (arith, fits.1));
  };
}

pub no_room_answer : (old new : State) (request : Size) → Step old (Allocate (sides_of request)) NoRoom new
    → IsAnswer old request (Ok None)
no_room_answer old new request step = step.0

pub refused_answer : (old new : State) (request : Size) (result : Result (Option Allocation) AtlasError)
    (error : AtlasError)
    → result ≡ Err error → Step old (Allocate (sides_of request)) (allocate_reply result) new
    → IsAnswer old request result
refused_answer old new request (Ok o) error is step = cc
refused_answer old new request (Err Memory) error is step = (inl refl, has_room old (sides_of request) step.0 step.1)
refused_answer old new request (Err Slots) error is step = (inr refl, has_room old (sides_of request) step.0 step.1)
refused_answer old new request (Err NotLive) error is step = absurd step

-- A freeing keeps the frame, and the number of kept slots.
pub freeing_frame : (old new : State) (set : ℕ → Bool) → new ≡ after_freeing old set → KeepsFrame old new
freeing_frame old new set is = subst (KeepsFrame old) (sym is) (record { size = refl; options = refl; limit = refl })

pub freeing_kept : (old new : State) (set : ℕ → Bool) → IsSound old → new ≡ after_freeing old set → new.kept ≡ old.kept
freeing_kept old new set sound is =
    ap (λ (s : State). s.kept) is ∙ omega (arith, release_nodes set old.tree, sound.counted)
