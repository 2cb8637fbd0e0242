use Rattle.std.proofs.Common.{◌≡◌, ◌∙◌, ◌++◌, ap, subst, List, arith}
use Rattle.std.proofs.lemmas.List.{length-map}
use Rattle.atlas_model.specs.Boxes.{Box, whole_box, AreSameBoxes}
use Rattle.guillotiere.specs.FreeBoxes.BoxShelves.{BoxShelf, box_shelf, free_item_boxes, stored_item}
use Rattle.guillotiere.specs.FreeBoxes.FreeLists.{kept_of}
use Rattle.atlas_model.specs.Pixels.{box_of, options_of, sides_of}
use Rattle.atlas_model.proofs.TreeLemmas.TreeKept.{longer_positive}
use Rattle.guillotiere.proofs.SimpleLemmas.CutBoxes.{at_error, length-kept}
use Rattle.guillotiere.proofs.SimpleLemmas.SimpleLists.{rest-boxes, whole-exact}
use Rattle.guillotiere.proofs.simple.changes.add_rest.Goals as goal

pub returns-clause-ok : goal.returns-clause-ok
returns-clause-ok g c =
    let o = options_of c.args.options.now in
    let f = whole_box (sides_of c.args.new_size) in
    let is = c.guillotine-rest.ensures.boxes f
    (c.from.ensures ∙ whole-exact c.args.new_size (longer_positive (sides_of c.args.size) (sides_of c.args.new_size) c.requires.sizes.0
    c.requires.sizes.1)) in
    let old = free_item_boxes (box_shelf c.args.boxes.now).entries in
    let split = free_item_boxes (box_shelf c.keep.new.boxes).entries in
    let same : free_item_boxes (box_shelf c.make_room.new.self).entries ≡ old = ap (λ (v : BoxShelf). free_item_boxes v.entries)
    c.in_ok-make_room.ensures.same in
    record {
      kept = c.keep-2.ensures.boxes.kept;
      boxes = rest-boxes o f (sides_of c.args.size) c.guillotine-rest.result old split
          (free_item_boxes (box_shelf c.keep-2.new.boxes).entries) is
          (subst (λ (l : List Box). AreSameBoxes split (kept_of o (box_of c.guillotine-rest.result.split) ++ l)) same
          c.keep.ensures.boxes.boxes) c.keep-2.ensures.boxes.boxes;
    }

pub returns-in_err-make_room-clause-needed : goal.returns-in_err-make_room-clause-needed
returns-in_err-make_room-clause-needed g c =
    let o = options_of c.args.options.now in
    let bs = c.args.boxes.now.entries.items in
    let f = whole_box (sides_of c.args.new_size) in
    let is = c.guillotine-rest.ensures.boxes f
    (c.from.ensures ∙ whole-exact c.args.new_size (longer_positive (sides_of c.args.size) (sides_of c.args.new_size) c.requires.sizes.0
    c.requires.sizes.1)) in
    at_error c.from_residual.result
    (omega (
      arith,
      length-kept o f (sides_of c.args.size) c.guillotine-rest.result is,
      c.kept_count.ensures,
      c.in_err-make_room.ensures.lacks,
      length-map bs stored_item,
      c.args.boxes.now.entries.ok,
    ))
