-- The orders in which sprites are placed, and how they choose among free boxes.
use Rattle.std.specs.Prelude.{◌≡◌, ℕ, ◌*◌, ◌≤◌, ◌==◌, pos, min, max, List, length, count_by, IsPermutation}
use Rattle.std.specs.List.{AllAdjacentBelow, enumerate_from, range_with_len}
use Rattle.guillotiere.specs.declared.Size.{Size}
use Rattle.guillotiere.specs.Boxes.{Sides}
use Rattle.guillotiere.specs.Choice.{Options}
use Rattle.guillotiere.specs.Pixels.{sides_of}
use Rattle.atlas_sheet.specs.declared.options.Spacing.{Spacing}
use Rattle.atlas_sheet.specs.declared.orders.Key.{Key}
use Rattle.atlas_sheet.specs.declared.orders.Key.TheVariants as key
use Rattle.atlas_sheet.specs.declared.ways.Choice.{Choice}
use Rattle.atlas_sheet.specs.declared.ways.Choice.TheVariants as choice

-- What a sprite counts by a key.
abbrev pub key_of : Key → Sides → ℕ
key_of key.Height s = s.height
key_of key.Area s = s.width * s.height
key_of key.LesserSide s = min s.width s.height
key_of key.GreaterSide s = max s.width s.height
key_of key.HeightTimesGreaterSide s = s.height * max s.width s.height

-- A numbered sprite counts no less than another; where they count alike its number isn't the greater one.
abbrev pub MayComeBefore : Key → (s t : ℕ × Size) → Type 0
MayComeBefore key s t =
    (key_of key (sides_of t.1) ≤ key_of key (sides_of s.1))
    × (key_of key (sides_of s.1) ≡ key_of key (sides_of t.1) → s.0 ≤ t.0)

-- No numbered sprite counts less than one after it, and those that count alike keep the order of their numbers.
abbrev pub AreGreatestFirst : Key → List (ℕ × Size) → Type 0
AreGreatestFirst key order = AllAdjacentBelow (MayComeBefore key) order (length order)

-- The options of an allocator that chooses so, with the thresholds in pixels.
abbrev pub choice_options : Spacing → Choice → Options
choice_options spacing choice.Roomiest =
    record { alignment = sides_of spacing.alignment; small_threshold = pos 0; large_threshold = pos 0 }
choice_options spacing choice.Tightest =
    record { alignment = sides_of spacing.alignment; small_threshold = pos 0; large_threshold = pos 2147483647 }

-- Each of the sprites once, with its number.
abbrev pub IsOrderOf : (sprites : List Size) → List (ℕ × Size) → Type 0
IsOrderOf sprites order = IsPermutation (enumerate_from 0 sprites) order

-- The numbers from 0 on of so many sprites, each once.
abbrev pub IsOrder : (count : ℕ) → List ℕ → Type 0
IsOrder count order = IsPermutation (range_with_len 0 count) order

-- No two of the sprites have one number.
abbrev pub AreNumberedOnce : List (ℕ × Size) → Type 0
AreNumberedOnce order = (k : ℕ) → count_by (λ s. s.0 == k) order ≤ 1
