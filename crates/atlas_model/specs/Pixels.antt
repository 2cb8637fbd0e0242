-- Where the `i32` of the code and the whole numbers of the model meet: a side below 0 counts as 0, and a box is given
-- back as the rectangle with the same coordinates.
use Rattle.std.specs.Prelude.{ℕ, ℤ, pos, negsuc, ◌-ℤ◌, FitsSigned}
use Rattle.std.specs.Int.{w32}
use Rattle.atlas_model.specs.declared.geometry.Point.{Point}
use Rattle.atlas_model.specs.declared.geometry.Size.{Size}
use Rattle.atlas_model.specs.declared.geometry.Rectangle.{Rectangle}
use Rattle.atlas_model.specs.declared.options.AllocatorOptions.{AllocatorOptions}
use Rattle.atlas_model.specs.Boxes.{Position, Sides, Box}
use Rattle.atlas_model.specs.Choice.{Options}

-- A number below 0 counts as 0.
abbrev pub natural : ℤ → ℕ
natural (pos n) = n
natural (negsuc n) = 0

abbrev pub sides_of : Size → Sides
sides_of s = record { width = natural s.width; height = natural s.height }

abbrev pub position_of : Point → Position
position_of p = record { x = natural p.x; y = natural p.y }

abbrev pub box_of : Rectangle → Box
box_of r = record { min = position_of r.min; max = position_of r.max }

abbrev pub options_of : AllocatorOptions → Options
options_of o =
    record {
      alignment = sides_of o.alignment;
      small_threshold = o.small_size_threshold;
      large_threshold = o.large_size_threshold;
    }

abbrev pub size_of : Sides → Size
size_of s = record { width = pos s.width; height = pos s.height }

-- The options that have this alignment and these thresholds.
abbrev pub allocator_options_of : Options → AllocatorOptions
allocator_options_of o =
    record {
      alignment = size_of o.alignment;
      small_size_threshold = o.small_threshold;
      large_size_threshold = o.large_threshold;
    }

abbrev pub rectangle_of : Box → Rectangle
rectangle_of b =
    record {
      min = record { x = pos b.min.x; y = pos b.min.y };
      max = record { x = pos b.max.x; y = pos b.max.y };
    }

-- Both differences of the sides fit an `i32`.
abbrev pub IsMeasurable : Rectangle → Type 0
IsMeasurable r = FitsSigned w32 (r.max.x -ℤ r.min.x) × FitsSigned w32 (r.max.y -ℤ r.min.y)
