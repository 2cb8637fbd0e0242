-- Sprites that may lie turned by 90 degrees, and what a result says of them.
use Rattle.std.specs.Prelude.{◌≡◌, ◌≢◌, ℕ, Bool, true, false, ◌⊎◌, List, map, All, Option, Some, None, IfSome, IsSome}
use Rattle.std.specs.List.{AllZip}
use Rattle.guillotiere.specs.declared.Size.{Size}
use Rattle.guillotiere.specs.declared.Rectangle.{Rectangle}
use Rattle.guillotiere.specs.Boxes.{Sides}
use Rattle.guillotiere.specs.Pixels.{sides_of}
use Rattle.guillotiere.specs.Simple.{simple_start}
use Rattle.atlas_sheet.specs.declared.arrangement.Arrangement.{Arrangement}
use Rattle.atlas_sheet.specs.declared.options.SheetOptions.{SheetOptions}
use Rattle.atlas_sheet.specs.declared.options.Spacing.{Spacing}
use Rattle.atlas_sheet.specs.declared.placed.Placed.{Placed}
use Rattle.atlas_sheet.specs.declared.ways.Choice.{Choice}
use Rattle.atlas_sheet.specs.Allowances.{IsAllowed}
use Rattle.atlas_sheet.specs.Orders.{IsOrderOf, choice_options}
use Rattle.atlas_sheet.specs.Settings.{spacing_of}
use Rattle.atlas_sheet.specs.Sheets.{ArePlaces, FindPlaces, IsPlaceFor, inner_sides, with_places}

-- A sprite's sides when it is turned.
abbrev pub turned_size : Size → Size
turned_size s = record { width = s.height; height = s.width }

-- A sprite's sides as it lies: turned or not.
abbrev pub lie : (turned : Bool) → Size → Size
lie true s = turned_size s
lie false s = s

-- How a sprite may lie: as it is, or turned where that is allowed.
abbrev pub MayLie : (turn : Bool) → (sprite lying : Size) → Type 0
MayLie turn sprite lying = (lying ≡ sprite) ⊎ ((turn ≡ true) × (lying ≡ turned_size sprite))

-- A place for a sprite as it lies. It is turned only where that is allowed, and only where its sides differ.
pub record IsPlacedFor (sheet : Sides) (spacing : Spacing) (turn : Bool) (sprite : Size)
    (placed : Placed) : Type 0 where
  pub place : IsPlaceFor sheet spacing (lie placed.turned sprite) placed.area
  pub allowed : placed.turned ≡ true → turn ≡ true
  pub needed : placed.turned ≡ true → turned_size sprite ≢ sprite

-- The place alone.
abbrev pub placed_area : Option Placed → Option Rectangle
placed_area None = None
placed_area (Some p) = Some p.area

abbrev pub areas_of : List (Option Placed) → List (Option Rectangle)
areas_of placed = map placed_area placed

-- Sprites as they lie, in an order, and what they find in a new sheet.
pub record IsArrangement (sheet : Sides) (spacing : Spacing) (turn : Bool) (sprites : List Size) (choice : Choice)
    (lying : List Size) (order : List (ℕ × Size)) (places : List (Option Rectangle)) : Type 0 where
  pub lies : AllZip (MayLie turn) sprites lying
  pub good : ArePlaces sheet spacing lying places
  pub permuted : IsOrderOf lying order
  pub found : FindPlaces spacing (simple_start (inner_sides spacing sheet) (choice_options spacing choice))
      (with_places places order)

-- An arrangement of these sprites that keeps to the options.
abbrev pub IsArranged : {A : Type 0} → SheetOptions → List Size → Arrangement A → Type 0
IsArranged o sprites a =
    IsArrangement (sides_of a.size) (spacing_of o) o.turn sprites a.choice a.lying.items a.order.items a.places.items

-- A sheet of this size is allowed, and in an arrangement on it each sprite has a place.
pub record HoldsAll (o : SheetOptions) (sprites : List Size) (size : Size) : Type 0 where
  pub allowed : IsAllowed o.allowed (sides_of size)
  pub choice : Choice
  pub lying : List Size
  pub order : List (ℕ × Size)
  pub places : List (Option Rectangle)
  pub whole : All IsSome places
  pub arranged : IsArrangement (sides_of size) (spacing_of o) o.turn sprites choice lying order places

-- What a sheet shows: a place or none for each sprite as it lies. They are what the sprites find one after another in
-- the order of these numbers, with one choice among free boxes.
pub record IsShown (sheet : Sides) (spacing : Spacing) (turn : Bool) (sprites : List Size) (order : List ℕ)
    (placed : List (Option Placed)) : Type 0 where
  pub each : AllZip (λ sprite p. IfSome p (IsPlacedFor sheet spacing turn sprite)) sprites placed
  pub lying : List Size
  pub numbered : List (ℕ × Size)
  pub numbers : map (λ s. s.0) numbered ≡ order
  pub choice : Choice
  pub arranged : IsArrangement sheet spacing turn sprites choice lying numbered (areas_of placed)
