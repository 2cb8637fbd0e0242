use Rattle.std.proofs.Common.{◌≡◌, ◌≤◌, ◌++◌, length, map, drop, vec_capacity}
use Rattle.atlas_model.specs.Boxes.{AreSameBoxes}
use Rattle.atlas_model.specs.Pixels.{box_of, options_of}
use Rattle.guillotiere.specs.FreeBoxes.BoxShelves.{AreKept, box_shelf, free_item_boxes}
use Rattle.guillotiere.proofs.simple.image.file_areas.Given as goal

abbrev pub invariant-loop-area : goal.invariant-loop-area
invariant-loop-area g l =
    AreKept (options_of l.options) (box_shelf l.boxes)
    × AreSameBoxes (map box_of (drop l.area-index l.areas) ++ free_item_boxes (box_shelf l.boxes).entries)
    (map box_of l.areas ++ free_item_boxes (box_shelf l.initial.boxes).entries)
    × (l.boxes.used ≡ length (box_shelf l.boxes).entries)
    × (vec_capacity l.initial.boxes.entries ≤ vec_capacity l.boxes.entries)
