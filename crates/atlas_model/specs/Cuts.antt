-- How a chosen box is cut for a request that fits it.
use Rattle.std.specs.Prelude.{ℕ, ◌+◌, ◌-◌, ◌*◌, ◌==◌, nat_lt, min, ◌&&◌, ◌||◌, if◌then◌else◌, List, [], ◌∷◌}
use Rattle.atlas_model.specs.Boxes.{Axis, Sides, Box, Horizontal, Vertical, box_sides}
use Rattle.atlas_model.specs.Boxes.Axis.{Horizontal, Vertical}

-- Nothing is left; one part along an axis; or one part along an axis and another beside the request.
pub data Cut : Type 0 where
  Whole : Cut
  Strip : (axis : Axis) → Cut
  Corner : (axis : Axis) → Cut

-- Areas count up to 2147483647 and no further.
abbrev pub cap : ℕ → ℕ
cap n = min n 2147483647

-- Horizontal if what remains to the right of the request is larger than what remains below it.
abbrev pub cut_axis : (whole r : Sides) → Axis
cut_axis whole r =
    if nat_lt (cap (r.width * (whole.height - r.height))) (cap ((whole.width - r.width) * r.height))
    then Horizontal
    else Vertical

abbrev pub cut : (whole r : Sides) → Cut
cut whole r =
    if (whole.width == r.width) && (whole.height == r.height) then Whole
    else if (whole.width == r.width) || (whole.height == r.height) then Strip (cut_axis whole r)
    else Corner (cut_axis whole r)

-- The part of a box that lies beyond the request along an axis, as wide across as the box.
abbrev pub split_along : Axis → Box → Sides → Box
split_along Horizontal f r = record { min = record { x = f.min.x + r.width; y = f.min.y }; max = f.max }
split_along Vertical f r = record { min = record { x = f.min.x; y = f.min.y + r.height }; max = f.max }

-- The part of a box beside the request, as long along the axis as the request.
abbrev pub leftover_along : Axis → Box → Sides → Box
leftover_along Horizontal f r =
    record {
      min = record { x = f.min.x; y = f.min.y + r.height };
      max = record { x = f.min.x + r.width; y = f.max.y };
    }
leftover_along Vertical f r =
    record {
      min = record { x = f.min.x + r.width; y = f.min.y };
      max = record { x = f.max.x; y = f.min.y + r.height };
    }

-- The split and the leftover of a box cut for a request; a part without area is a part all the same.
abbrev pub rest_of : Box → Sides → List Box
rest_of f r =
    let axis = cut_axis (box_sides f) r in
    split_along axis f r ∷ leftover_along axis f r ∷ []
