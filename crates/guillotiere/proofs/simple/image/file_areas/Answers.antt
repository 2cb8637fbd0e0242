use Rattle.std.proofs.Common.{arith}
use Rattle.guillotiere.specs.FreeBoxes.BoxShelves.{box_shelf, free_item_boxes}
use Rattle.atlas_model.specs.Pixels.{box_of}
use Rattle.std.proofs.Common.{◌++◌, map}
use Rattle.guillotiere.proofs.SimpleLemmas.ImagedBoxes.{next-area}
use Rattle.guillotiere.proofs.simple.image.file_areas.Goals as goal

pub loop-area-preserved : goal.loop-area-preserved
loop-area-preserved g c =
    let old = free_item_boxes (box_shelf c.loop-area.boxes).entries in
    let all = map box_of c.args.areas.now ++ free_item_boxes (box_shelf c.args.boxes.now).entries in (
      c.in_ok-file_area.ensures.kept,
      next-area c.args.areas.now c.loop-area.area-index _ old (free_item_boxes (box_shelf c.file_area.new.boxes).entries) all
          c.loop-area-test.true c.loop-area.invariant.1 c.in_ok-file_area.ensures.boxes,
      c.in_ok-file_area.ensures.used,
      omega (arith, c.loop-area.invariant.3, c.in_ok-file_area.ensures.capacity),
    )
