-- Sprites in their places, and how full their sheet is.
use Rattle.std.specs.Prelude.{ℕ, ◌*◌, ◌/◌, min, max, List}
use Rattle.std.specs.List.{sum_by}
use Rattle.atlas_model.specs.declared.geometry.Size.{Size}
use Rattle.atlas_model.specs.Pixels.{sides_of}
use Rattle.atlas_pack.specs.declared.frames.Frame.{Frame}

-- How many pixels a size has.
abbrev pub pixel_count : Size → ℕ
pixel_count size = (sides_of size).width * (sides_of size).height

-- How many pixels the sprites have together.
abbrev pub used_pixels : List Frame → ℕ
used_pixels frames = sum_by (λ frame. pixel_count frame.sprite.size) frames

-- How many thousandths of the sheet's pixels they have, rounded down. An empty sheet counts as one pixel.
abbrev pub fullness : (sheet : Size) → List Frame → ℕ
fullness sheet frames = 1000 * min (used_pixels frames) (pixel_count sheet) / max (pixel_count sheet) 1
