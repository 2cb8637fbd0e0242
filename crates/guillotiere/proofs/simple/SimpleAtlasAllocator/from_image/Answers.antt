use Rattle.std.proofs.Common.{List, [], ◌++◌, All, map, refl, sym, ap, subst, ◌∙◌, arith}
use Rattle.std.proofs.lemmas.Bool.{false≢true}
use Rattle.atlas_model.specs.declared.geometry.Rectangle.{Rectangle}
use Rattle.atlas_model.specs.declared.options.AllocatorOptions.{AllocatorOptions}
use Rattle.atlas_model.specs.Boxes.{AreSameBoxes}
use Rattle.atlas_model.specs.Choice.{AreValid}
use Rattle.atlas_model.specs.Pixels.{box_of, options_of, sides_of}
use Rattle.atlas_search.specs.Items.{Item}
use Rattle.guillotiere.specs.Apart.{IsSolidWithin}
use Rattle.guillotiere.specs.FreeBoxes.BoxShelves.{box_shelf, free_item_boxes}
use Rattle.guillotiere.proofs.SimpleLemmas.EntryCounts.{used-free}
use Rattle.guillotiere.proofs.SimpleLemmas.ImagedBoxes.{areas-exact, made-image, made-simple}
use Rattle.guillotiere.proofs.simple.SimpleAtlasAllocator.from_image.Goals as goal

pub returns-then-not-branch-clause-accepted : goal.returns-then-not-branch-clause-accepted
returns-then-not-branch-clause-accepted g c = (
  λ some. absurd (false≢true some),
  λ simple. absurd (false≢true (sym c.if-not-branch.true ∙ c.in_ok-is_simple.ensures.1 simple)),
)

pub file_areas-requires-clause-exact : goal.file_areas-requires-clause-exact
file_areas-requires-clause-exact g c =
    let simple = c.in_ok-is_simple.ensures.0 c.if-not-branch.false in
    let size = sides_of c.args.image.now.size in
    areas-exact size c.deref.result.now (subst (All (IsSolidWithin size)) (sym c.deref.ensures.value) simple.within)

pub file_areas-requires-clause-kept : goal.file_areas-requires-clause-kept
file_areas-requires-clause-kept g c =
    let simple = c.in_ok-is_simple.ensures.0 c.if-not-branch.false in
    c.in_ok-boxes.ensures.kept _ (subst (λ (o : AllocatorOptions). AreValid (options_of o)) (sym c.new-options.ensures) simple.valid)

pub invariant_of-result : goal.invariant_of-result
invariant_of-result g c =
    let simple = c.in_ok-is_simple.ensures.0 c.if-not-branch.false in
    let new = free_item_boxes (box_shelf c.file_areas.new.boxes).entries in
    let boxes = subst (λ (l : List Rectangle). AreSameBoxes new (map box_of l ++ [])) c.deref.ensures.value
    (subst (λ (es : List Item). AreSameBoxes new (map box_of c.deref.result.now ++ free_item_boxes es)) c.in_ok-boxes.ensures.empty
    c.in_ok-file_areas.ensures.boxes) in
    record {
      state = record {
        simple = made-simple c.args.image.now simple (box_shelf c.file_areas.new.boxes).entries boxes c.new-options.result
            (ap options_of c.new-options.ensures);
        kept = c.in_ok-file_areas.ensures.kept;
      };
      room = omega (arith, c.in_ok-boxes.ensures.room, c.in_ok-file_areas.ensures.capacity);
    }

pub returns-clause-image : goal.returns-clause-image
returns-clause-image g c =
    let simple = c.in_ok-is_simple.ensures.0 c.if-not-branch.false in
    let new = free_item_boxes (box_shelf c.file_areas.new.boxes).entries in
    let boxes = subst (λ (l : List Rectangle). AreSameBoxes new (map box_of l ++ [])) c.deref.ensures.value
    (subst (λ (es : List Item). AreSameBoxes new (map box_of c.deref.result.now ++ free_item_boxes es)) c.in_ok-boxes.ensures.empty
    c.in_ok-file_areas.ensures.boxes) in
    made-image c.args.image.now simple (box_shelf c.file_areas.new.boxes).entries boxes c.new-options.result
    (ap options_of c.new-options.ensures)

pub returns-clause-entries : goal.returns-clause-entries
returns-clause-entries g c =
    sym c.in_ok-file_areas.ensures.used ∙ used-free (options_of c.new-options.result) (box_shelf c.file_areas.new.boxes)
    c.in_ok-file_areas.ensures.kept

pub returns-clause-accepted : goal.returns-clause-accepted
returns-clause-accepted g c = (λ some. c.in_ok-is_simple.ensures.0 c.if-not-branch.false, λ simple. refl)
