use Rattle.std.proofs.Common.{rules, ◌≤◌, length, [], List, ◌∷◌, map, subst, ap, arith}
use Rattle.std.proofs.lemmas.Bool.{cond_both}
use Rattle.std.proofs.lemmas.List.{length-map}
use Rattle.atlas_model.specs.Boxes.{Box, AreSameBoxes}
use Rattle.guillotiere.specs.FreeBoxes.BoxShelves.{BoxShelf, box_shelf, free_item_boxes, stored_item}
use Rattle.atlas_model.specs.Choice.{Options}
use Rattle.atlas_model.specs.Simple.{is_kept}
use Rattle.guillotiere.specs.FreeBoxes.FreeLists.{kept_of}
use Rattle.atlas_model.specs.Pixels.{box_of, options_of, sides_of}
use Rattle.atlas_allocator.proofs.AtlasLemmas.UnsignedRectangles.{unsigned-fits, unsigned-measurable}
use Rattle.guillotiere.proofs.SimpleLemmas.CutBoxes.{at_error, picked-exact, cut-same, length-kept}
use Rattle.guillotiere.proofs.SimpleLemmas.EntryCounts.{used-few}
use Rattle.guillotiere.proofs.simple.cut_picked.Goals as goal

pub guillotine-rest-requires-clause-measurable : goal.guillotine-rest-requires-clause-measurable
guillotine-rest-requires-clause-measurable g c =
    let exact = picked-exact (options_of c.args.options.now) c.args.boxes.now.table.heads (map stored_item c.args.boxes.now.entries.items)
    c.args.found c.requires.kept.listed c.requires.standing in
    unsigned-measurable c.args.found.rectangle exact.unsigned (search rules) (search rules) (search rules) (search rules)

pub guillotine-rest-requires-clause-fits : goal.guillotine-rest-requires-clause-fits
guillotine-rest-requires-clause-fits g c =
    let exact = picked-exact (options_of c.args.options.now) c.args.boxes.now.table.heads (map stored_item c.args.boxes.now.entries.items)
    c.args.found c.requires.kept.listed c.requires.standing in
    unsigned-fits c.args.size c.args.found.rectangle exact.unsigned c.requires.positive c.requires.fits

-- One box is kept or none.
kept-few : (o : Options) (b : Box) → length (kept_of o b) ≤ 1
kept-few o b = cond_both (is_kept o b) (b ∷ []) [] (λ bs. length bs ≤ 1) (λ _. omega arith) (λ _. omega arith)

pub make_room-requires-clause-few : goal.make_room-requires-clause-few
make_room-requires-clause-few g c =
    let o = options_of c.args.options.now in
    omega (
      arith,
      c.saturating_sub.ensures,
      c.kept_count.ensures,
      kept-few o (box_of c.guillotine-rest.result.split),
      kept-few o (box_of c.guillotine-rest.result.leftover),
    )

pub returns-clause-ok : goal.returns-clause-ok
returns-clause-ok g c =
    let o = options_of c.args.options.now in
    let r = c.args.found.rectangle in
    let es = map stored_item c.args.boxes.now.entries.items in
    let exact = picked-exact o c.args.boxes.now.table.heads es c.args.found c.requires.kept.listed c.requires.standing in
    let took = subst (λ (bs : List Box). AreSameBoxes (box_of r ∷ free_item_boxes (map stored_item c.remove.new.self.entries.items)) bs)
    (ap (λ (v : BoxShelf). free_item_boxes v.entries) c.in_ok-make_room.ensures.same) c.remove.ensures.boxes in
    cut-same o r (sides_of c.args.size) c.guillotine-rest.result (free_item_boxes es)
    (free_item_boxes (map stored_item c.remove.new.self.entries.items))
    (free_item_boxes (map stored_item c.keep.new.boxes.entries.items)) (free_item_boxes (map stored_item c.keep-2.new.boxes.entries.items))
    (c.guillotine-rest.ensures.boxes (box_of r) exact.unsigned) took c.keep.ensures.boxes.boxes c.keep-2.ensures.boxes.boxes

pub returns-in_err-make_room-clause-needed : goal.returns-in_err-make_room-clause-needed
returns-in_err-make_room-clause-needed g c =
    let o = options_of c.args.options.now in
    let bs = c.args.boxes.now.entries.items in
    let exact = picked-exact o c.args.boxes.now.table.heads (map stored_item bs) c.args.found c.requires.kept.listed c.requires.standing in
    let kept = length-kept o (box_of c.args.found.rectangle) (sides_of c.args.size) c.guillotine-rest.result
    (c.guillotine-rest.ensures.boxes (box_of c.args.found.rectangle) exact.unsigned) in
    at_error c.from_residual.result
    (omega (
      arith,
      kept,
      c.kept_count.ensures,
      c.saturating_sub.ensures,
      c.in_err-make_room.ensures.lacks,
      length-map bs stored_item,
      c.args.boxes.now.entries.ok,
      c.requires.kept.listed.short,
      used-few (λ i. 0) o (box_shelf c.args.boxes.now) c.requires.kept,
    ))
