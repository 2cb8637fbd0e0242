-- Areas of the leaves that slots hold. No public clause cites this module.
use Rattle.std.specs.Prelude.{ℕ, List, [], ◌∷◌, sum_by, if◌then◌else◌}
use Rattle.atlas_store.specs.declared.slots.Node.{Node}
use Rattle.atlas_model.specs.declared.geometry.Rectangle.{Rectangle}
use Rattle.atlas_model.specs.Boxes.{area}
use Rattle.atlas_model.specs.Pixels.{box_of}
use Rattle.atlas_store.specs.Visits.{is_alloc}

-- The rectangles of the allocated slots, in order.
abbrev pub live_areas : List Node → List Rectangle
live_areas [] = []
live_areas (n ∷ ns) = if is_alloc n.kind then n.area ∷ live_areas ns else live_areas ns

-- The areas of rectangles, added up.
abbrev pub area_sum : List Rectangle → ℕ
area_sum rs = sum_by (λ r. area (box_of r)) rs
