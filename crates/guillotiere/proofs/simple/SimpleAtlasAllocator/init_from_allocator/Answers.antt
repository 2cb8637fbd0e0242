use Rattle.std.proofs.Common.{◌++◌, ◌∙◌, ap, map, sym, subst, arith}
use Rattle.atlas_model.specs.Boxes.{AreSameBoxes}
use Rattle.atlas_model.specs.Choice.{AreValid}
use Rattle.atlas_model.specs.Pixels.{box_of, options_of}
use Rattle.atlas_store.specs.Slots.{nodes}
use Rattle.atlas_store.specs.Stored as atlas
use Rattle.atlas_store.specs.Visits.{free_areas}
use Rattle.guillotiere.specs.FreeBoxes.BoxShelves.{box_shelf, free_item_boxes}
use Rattle.atlas_model.proofs.SimpleLemmas.SimpleSteps.{starts-guarded}
use Rattle.guillotiere.proofs.SimpleLemmas.EntryCounts.{used-free}
use Rattle.guillotiere.proofs.SimpleLemmas.SimpleStarts.{areas-filed, starts-from, started-stored}
use Rattle.guillotiere.proofs.simple.SimpleAtlasAllocator.init_from_allocator.Goals as goal

pub file_free-requires-clause-areas : goal.file_free-requires-clause-areas
file_free-requires-clause-areas g c = grind (arith, areas-filed (atlas.state_of c.args.source.now))

pub file_free-requires-clause-kept : goal.file_free-requires-clause-kept
file_free-requires-clause-kept g c =
    let same = ap options_of c.scale-options.ensures ∙ c.store_of-store.ensures.options in
    c.in_ok-boxes.ensures.kept _ (subst AreValid (sym same) c.size-size.ensures.sound.valid)

pub invariant_of-self : goal.invariant_of-self
invariant_of-self g c =
    let boxes = subst (λ slots. AreSameBoxes (free_item_boxes (box_shelf c.file_free.new.boxes).entries)
    (map box_of (free_areas (nodes slots)) ++ free_item_boxes (box_shelf c.in_ok-boxes.boxes).entries)) c.slots.ensures
    c.in_ok-file_free.ensures.boxes in
    let same = ap options_of c.scale-options.ensures ∙ c.store_of-store.ensures.options in
    let kept = c.in_ok-file_free.ensures.kept in
    record {
      state = started-stored (atlas.state_of c.args.source.now) _ (box_shelf c.in_ok-boxes.boxes).entries (box_shelf c.file_free.new.boxes)
          c.size-size.result c.scale-options.result
          c.size-size.ensures.sound c.store_of-store.ensures.areas c.in_ok-boxes.ensures.empty boxes c.size-size.ensures.size same kept;
      room = omega (arith, c.in_ok-boxes.ensures.room, c.in_ok-file_free.ensures.capacity);
    }

pub returns-clause-step : goal.returns-clause-step
returns-clause-step g c =
    let boxes = subst (λ slots. AreSameBoxes (free_item_boxes (box_shelf c.file_free.new.boxes).entries)
    (map box_of (free_areas (nodes slots)) ++ free_item_boxes (box_shelf c.in_ok-boxes.boxes).entries)) c.slots.ensures
    c.in_ok-file_free.ensures.boxes in
    let same = ap options_of c.scale-options.ensures ∙ c.store_of-store.ensures.options in
    starts-from (atlas.state_of c.args.source.now) _ (box_shelf c.in_ok-boxes.boxes).entries (box_shelf c.file_free.new.boxes).entries
    c.size-size.result c.scale-options.result
    c.size-size.ensures.sound c.store_of-store.ensures.areas c.in_ok-boxes.ensures.empty boxes c.size-size.ensures.size same

pub returns-clause-guarded : goal.returns-clause-guarded
returns-clause-guarded g c =
    let boxes = subst (λ slots. AreSameBoxes (free_item_boxes (box_shelf c.file_free.new.boxes).entries)
    (map box_of (free_areas (nodes slots)) ++ free_item_boxes (box_shelf c.in_ok-boxes.boxes).entries)) c.slots.ensures
    c.in_ok-file_free.ensures.boxes in
    let same = ap options_of c.scale-options.ensures ∙ c.store_of-store.ensures.options in
    starts-guarded (atlas.state_of c.args.source.now) _
    (starts-from (atlas.state_of c.args.source.now) _ (box_shelf c.in_ok-boxes.boxes).entries (box_shelf c.file_free.new.boxes).entries
    c.size-size.result c.scale-options.result
    c.size-size.ensures.sound c.store_of-store.ensures.areas c.in_ok-boxes.ensures.empty boxes c.size-size.ensures.size same)

pub returns-clause-simple : goal.returns-clause-simple
returns-clause-simple g c =
    let boxes = subst (λ slots. AreSameBoxes (free_item_boxes (box_shelf c.file_free.new.boxes).entries)
    (map box_of (free_areas (nodes slots)) ++ free_item_boxes (box_shelf c.in_ok-boxes.boxes).entries)) c.slots.ensures
    c.in_ok-file_free.ensures.boxes in
    let same = ap options_of c.scale-options.ensures ∙ c.store_of-store.ensures.options in
    let kept = c.in_ok-file_free.ensures.kept in
    (started-stored (atlas.state_of c.args.source.now) _ (box_shelf c.in_ok-boxes.boxes).entries (box_shelf c.file_free.new.boxes)
    c.size-size.result c.scale-options.result
    c.size-size.ensures.sound c.store_of-store.ensures.areas c.in_ok-boxes.ensures.empty boxes c.size-size.ensures.size same kept).simple

pub returns-clause-entries : goal.returns-clause-entries
returns-clause-entries g c =
    sym c.in_ok-file_free.ensures.used ∙ used-free (options_of c.scale-options.result) (box_shelf c.file_free.new.boxes)
    c.in_ok-file_free.ensures.kept
