-- Sheets of sprites: what the places on a sheet keep to, and how sprites find them.
use Rattle.std.specs.Prelude.{◌≡◌, ℕ, ◌+◌, ◌-◌, ◌%◌, ◌≤◌, max, ⊤, Bool, false, List, [], ◌∷◌, map, length}
use Rattle.std.specs.Prelude.{slice_index_or}
use Rattle.std.specs.Prelude.{Option, Some, None, IfSome, All}
use Rattle.std.specs.List.{AllZip, count_by, sum_by}
use Rattle.guillotiere.specs.declared.Size.{Size}
use Rattle.guillotiere.specs.declared.Rectangle.{Rectangle}
use Rattle.guillotiere.specs.Boxes.{Position, Sides, Box, IsPositive, box_at, box_sides, area, covers}
use Rattle.guillotiere.specs.Choice.{HasNoRoom}
use Rattle.guillotiere.specs.Pixels.{box_of, sides_of}
use Rattle.guillotiere.specs.Replies.{IsExact}
use Rattle.guillotiere.specs.Simple.{SimpleState, SimplyGrants, simple_start}
use Rattle.atlas_sheet.specs.declared.options.Spacing.{Spacing}
use Rattle.atlas_sheet.specs.declared.ways.Way.{Way}
use Rattle.atlas_sheet.specs.Orders.{AreGreatestFirst, IsOrderOf, choice_options}

-- A sprite that isn't empty, and with the padding at both its sides has sides of at most 2147483647.
pub record IsPackable (spacing : Spacing) (sprite : Size) : Type 0 where
  pub positive : IsPositive (sides_of sprite)
  pub wide : (sides_of sprite).width + spacing.padding + spacing.padding ≤ 2147483647
  pub high : (sides_of sprite).height + spacing.padding + spacing.padding ≤ 2147483647

-- The alignment is positive, and none of the sprites is empty or too large.
pub record ArePackable (spacing : Spacing) (sprites : List Size) : Type 0 where
  pub aligned : IsPositive (sides_of spacing.alignment)
  pub packable : All (IsPackable spacing) sprites

-- A place with its padding at the left and above.
abbrev pub padded : (padding : ℕ) → Rectangle → Box
padded padding place =
    record {
      min = record { x = (box_of place).min.x - padding; y = (box_of place).min.y - padding };
      max = (box_of place).max;
    }

-- A position whose coordinates are multiples of the alignment.
abbrev pub IsOnGrid : (alignment : Sides) → Position → Type 0
IsOnGrid alignment p = (p.x % alignment.width ≡ 0) × (p.y % alignment.height ≡ 0)

-- A place for a sprite in a sheet: it has the sprite's sides, keeps the padding to the border, and with it begins on
-- multiples of the alignment.
pub record IsPlaceFor (sheet : Sides) (spacing : Spacing) (sprite : Size) (place : Rectangle) : Type 0 where
  pub sides : box_sides (box_of place) ≡ sides_of sprite
  pub left : spacing.padding ≤ (box_of place).min.x
  pub above : spacing.padding ≤ (box_of place).min.y
  pub right : (box_of place).max.x + spacing.padding ≤ sheet.width
  pub below : (box_of place).max.y + spacing.padding ≤ sheet.height
  pub aligned : IsOnGrid (sides_of spacing.alignment) (padded spacing.padding place).min
  pub exact : IsExact place

-- Whether the unit square (x, y) lies in a place with its padding.
abbrev pub covers_place : (spacing : Spacing) (x y : ℕ) → Option Rectangle → Bool
covers_place spacing x y None = false
covers_place spacing x y (Some place) = covers x y (padded spacing.padding place)

-- A place or none a sprite, in the order of the sprites; no unit square lies in two places with their padding.
pub record ArePlaces (sheet : Sides) (spacing : Spacing) (sprites : List Size)
    (places : List (Option Rectangle)) : Type 0 where
  pub each : AllZip (λ sprite place. IfSome place (IsPlaceFor sheet spacing sprite)) sprites places
  pub apart : (x y : ℕ) → count_by (covers_place spacing x y) places ≤ 1

-- How many pixels a place has.
abbrev pub place_area : Option Rectangle → ℕ
place_area None = 0
place_area (Some place) = area (box_of place)

-- How many pixels the places have together.
abbrev pub used_area : List (Option Rectangle) → ℕ
used_area places = sum_by place_area places

-- What a sprite asks for: its sides with a padding.
abbrev pub asked_sides : (padding : ℕ) → Size → Sides
asked_sides padding sprite =
    record { width = (sides_of sprite).width + padding; height = (sides_of sprite).height + padding }

-- What is left of a sheet without the padding at its right and below, and at least 1.
abbrev pub inner_sides : (spacing : Spacing) → Sides → Sides
inner_sides spacing sheet =
    record { width = max (sheet.width - spacing.padding) 1; height = max (sheet.height - spacing.padding) 1 }

-- A request is granted a box, or finds no room.
abbrev pub GivesBox : SimpleState → Sides → Option Rectangle → SimpleState → Type 0
GivesBox old asked None new = HasNoRoom old.free old.options asked × (new ≡ old)
GivesBox old asked (Some area) new = SimplyGrants old asked (box_of area) new × IsExact area

-- A sprite that asks is granted a box, in whose corner its place lies with its padding, or finds no room.
abbrev pub FindsPlace : (spacing : Spacing) → SimpleState → Size → Option Rectangle → SimpleState → Type 0
FindsPlace spacing old sprite None new = HasNoRoom old.free old.options (asked_sides spacing.padding sprite)
    × (new ≡ old)
FindsPlace spacing old sprite (Some place) new =
    (box : Box) × SimplyGrants old (asked_sides spacing.padding sprite) box new
    × (padded spacing.padding place ≡ box_at box.min (asked_sides spacing.padding sprite))
    × (spacing.padding ≤ (box_of place).min.x) × (spacing.padding ≤ (box_of place).min.y) × IsExact place

-- Sprites ask one after another, each with what it finds.
abbrev pub FindPlaces : (spacing : Spacing) → SimpleState → List (Size × Option Rectangle) → Type 0
FindPlaces spacing s [] = ⊤
FindPlaces spacing s (asked ∷ rest) =
    (next : SimpleState) × FindsPlace spacing s asked.0 asked.1 next × FindPlaces spacing next rest

-- The place of a numbered sprite.
abbrev pub place_of_sprite : List (Option Rectangle) → ℕ × Size → Option Rectangle
place_of_sprite places sprite = slice_index_or places sprite.0 None

-- Numbered sprites, each with its place.
abbrev pub with_places : List (Option Rectangle) → List (ℕ × Size) → List (Size × Option Rectangle)
with_places places order = map (λ s. (s.1, place_of_sprite places s)) order

-- What sprites find in a new sheet in some way: they come in this order, which is one by the way's key.
pub record AreFoundBy (sheet : Sides) (spacing : Spacing) (sprites : List Size) (way : Way) (order : List (ℕ × Size))
    (places : List (Option Rectangle)) : Type 0 where
  pub count : length places ≡ length sprites
  pub permuted : IsOrderOf sprites order
  pub greatest : AreGreatestFirst way.key order
  pub found : FindPlaces spacing (simple_start (inner_sides spacing sheet) (choice_options spacing way.choice))
      (with_places places order)
