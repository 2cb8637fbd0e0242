use Rattle.std.proofs.Common.{◌≡◌, ◌≤◌, ◌++◌, length, map, drop, vec_capacity}
use Rattle.std.specs.List.{All}
use Rattle.atlas_model.specs.Boxes.{AreSameBoxes, IsNonempty}
use Rattle.guillotiere.specs.FreeBoxes.BoxShelves.{AreKept, box_shelf, free_item_boxes}
use Rattle.atlas_model.specs.Pixels.{box_of, options_of}
use Rattle.atlas_search.specs.Rectangles.{IsUnsigned}
use Rattle.atlas_store.specs.Slots.{nodes}
use Rattle.atlas_store.specs.Visits.{free_areas}
use Rattle.guillotiere.proofs.simple.changes.file_free.Given as goal

abbrev pub invariant-loop-slot : goal.invariant-loop-slot
invariant-loop-slot g l =
    AreKept (options_of l.options) (box_shelf l.boxes)
    × All (λ r. IsUnsigned r × IsNonempty (box_of r)) (free_areas (nodes (drop l.slot-index l.slots)))
    × AreSameBoxes (map box_of (free_areas (nodes (drop l.slot-index l.slots))) ++ free_item_boxes (box_shelf l.boxes).entries)
    (map box_of (free_areas (nodes l.slots)) ++ free_item_boxes (box_shelf l.initial.boxes).entries)
    × (l.boxes.used ≡ length (box_shelf l.boxes).entries)
    × (vec_capacity l.initial.boxes.entries ≤ vec_capacity l.boxes.entries)
