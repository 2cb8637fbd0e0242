-- Several sheets as lines.
use Rattle.std.specs.Prelude.{ℕ, ◌*◌, ◌/◌, min, max, List, ◌++◌, codes, decimal, flat_map, string_bytes}
use Rattle.std.specs.List.{sum_by}
use Rattle.atlas_model.specs.declared.geometry.Size.{Size}
use Rattle.atlas_pack.specs.declared.pages.PageFrame.{PageFrame}
use Rattle.atlas_pack.specs.Frames.{pixel_count}
use Rattle.atlas_pack.specs.Texts.{full_text, frame_place_text, sheet_line, spelled}

-- How many pixels the sheets have together.
abbrev pub all_pixels : (sheets : List Size) → ℕ
all_pixels sheets = sum_by pixel_count sheets

-- How many pixels the sprites have together.
abbrev pub used_on_pages : List PageFrame → ℕ
used_on_pages sprites = sum_by (λ p. pixel_count p.frame.sprite.size) sprites

-- How many thousandths of the sheets' pixels they have, rounded down. No pixels count as one.
abbrev pub pages_fullness : (sheets : List Size) → List PageFrame → ℕ
pages_fullness sheets sprites = 1000 * min (used_on_pages sprites) (all_pixels sheets) / max (all_pixels sheets) 1

-- The number of a sheet, after a space.
abbrev pub page_number_text : ℕ → List ℕ
page_number_text page = codes " " ++ decimal page

-- A sprite: its name, the number of its sheet, and its place there.
abbrev pub page_line : PageFrame → List ℕ
page_line p = spelled (string_bytes p.frame.sprite.name) ++ (page_number_text p.page ++ frame_place_text p.frame)

-- The sheets, a line for each sprite, each in order, and how full the sheets are.
abbrev pub pages_text_of : (sheets : List Size) → List PageFrame → List ℕ
pages_text_of sheets sprites =
    flat_map sheet_line sheets ++ (flat_map page_line sprites ++ full_text (pages_fullness sheets sprites))
