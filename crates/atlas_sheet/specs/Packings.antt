-- Sheets that take all sprites.
use Rattle.std.specs.Prelude.{◌≡◌, ℕ, ◌+◌, ◌<◌, ◌≤◌, ◌⊎◌, ◌++◌, List, [], ◌∷◌, map, take, All, Contains, Option, Some, None}
use Rattle.std.specs.List.{FoldsTo}
use Rattle.guillotiere.specs.declared.Size.{Size}
use Rattle.guillotiere.specs.declared.Rectangle.{Rectangle}
use Rattle.guillotiere.specs.Boxes.{Sides}
use Rattle.guillotiere.specs.Pixels.{sides_of}
use Rattle.guillotiere.specs.Simple.{simple_start}
use Rattle.atlas_sheet.specs.declared.options.Spacing.{Spacing}
use Rattle.atlas_sheet.specs.declared.allowed.Allowed.{Allowed}
use Rattle.atlas_sheet.specs.declared.ways.Choice.{Choice}
use Rattle.atlas_sheet.specs.declared.ways.Way.{Way}
use Rattle.atlas_sheet.specs.Allowances.{ComesBefore, IsAllowed, IsGreatest, IsShapedBefore, pixels, power_sides}
use Rattle.atlas_sheet.specs.Firsts.{StandsAfter}
use Rattle.atlas_sheet.specs.Orders.{AreGreatestFirst, IsOrderOf, choice_options}
use Rattle.atlas_sheet.specs.Sheets.{ArePlaces, FindPlaces, inner_sides, place_of_sprite, with_places}

-- An order of the sprites by a way's key.
pub record IsOrderBy (way : Way) (sprites : List Size) (order : List (ℕ × Size)) : Type 0 where
  pub permuted : IsOrderOf sprites order
  pub greatest : AreGreatestFirst way.key order

-- Places for all sprites of an order, which they find one after another in a new sheet.
abbrev pub AllFindPlaces : (sheet : Sides) (spacing : Spacing) → Choice → List (ℕ × Size) → List Rectangle → Type 0
AllFindPlaces sheet spacing choice order places =
    FindPlaces spacing (simple_start (inner_sides spacing sheet) (choice_options spacing choice))
    (with_places (map Some places) order)

-- The first `many` of an order ask one after another in a new sheet, and one of them has no place then.
pub record LeavesOne (sheet : Sides) (spacing : Spacing) (choice : Choice) (order : List (ℕ × Size)) : Type 0 where
  pub many : ℕ
  pub places : List (Option Rectangle)
  pub found : FindPlaces spacing (simple_start (inner_sides spacing sheet) (choice_options spacing choice))
      (with_places places (take many order))
  pub left : Contains (map (place_of_sprite places) (take many order)) None

-- In this way a sprite finds no place.
abbrev pub LeavesSprite : (sheet : Sides) (spacing : Spacing) → List Size → Way → Type 0
LeavesSprite sheet spacing sprites way =
    (order : List (ℕ × Size)) × IsOrderBy way sprites order × LeavesOne sheet spacing way.choice order

-- In none of the ways all sprites find places.
abbrev pub NoWayPacks : List Way → (sheet : Sides) (spacing : Spacing) → List Size → Type 0
NoWayPacks ways sheet spacing sprites = All (LeavesSprite sheet spacing sprites) ways

-- A way with its order, and the places that it finds, in the order of the sprites.
pub record Packed : Type 0 where
  pub way : Way
  pub order : List (ℕ × Size)
  pub places : List Rectangle

-- Places for all sprites, which the first of the ways that finds them all finds.
pub record ArePacked (ways : List Way) (sheet : Sides) (spacing : Spacing) (sprites : List Size) (packed : Packed)
    : Type 0 where
  pub good : ArePlaces sheet spacing sprites (map Some packed.places)
  pub tried : Contains ways packed.way
  pub by : IsOrderBy packed.way sprites packed.order
  pub found : AllFindPlaces sheet spacing packed.way.choice packed.order packed.places
  pub first : StandsAfter (LeavesSprite sheet spacing sprites) ways packed.way

-- An allowed sheet into which one of the ways packs all sprites; into an allowed sheet that comes before it none does.
pub record IsLeastFound (ways : List Way) (by : Allowed) (spacing : Spacing) (sprites : List Size) (sheet : Sides)
    (packed : Packed) : Type 0 where
  pub allowed : IsAllowed by sheet
  pub good : ArePacked ways sheet spacing sprites packed
  pub least : (s : Sides) → IsAllowed by s → ComesBefore by s sheet → NoWayPacks ways s spacing sprites

-- A sheet of 2 ^ sum pixels with sides up to 2 ^ most, into which one of the ways packs all sprites; into one of as many
-- pixels that comes before it none does.
pub record IsPowerPacked (ways : List Way) (most sum : ℕ) (spacing : Spacing) (sprites : List Size) (sheet : Sides)
    (packed : Packed) : Type 0 where
  pub wide : ℕ
  pub high : ℕ
  pub together : wide + high ≡ sum
  pub inside : (wide ≤ most) × (high ≤ most)
  pub sides : sheet ≡ power_sides wide high
  pub good : ArePacked ways sheet spacing sprites packed
  pub first : (x y : ℕ) → x + y ≡ sum → x ≤ most → y ≤ most
      → IsShapedBefore (power_sides x y) (power_sides wide high) → NoWayPacks ways (power_sides x y) spacing sprites

-- Into no such sheet one of the ways packs all sprites.
abbrev pub NoShapePacks : List Way → (most sum : ℕ) (spacing : Spacing) → List Size → Type 0
NoShapePacks ways most sum spacing sprites =
    (wide high : ℕ) → wide + high ≡ sum → wide ≤ most → high ≤ most
    → NoWayPacks ways (power_sides wide high) spacing sprites

-- None of the ways packs all sprites into the greatest sheet that is allowed.
pub record NoneIsFound (ways : List Way) (by : Allowed) (spacing : Spacing) (sprites : List Size) : Type 0 where
  pub sheet : Sides
  pub greatest : IsGreatest by sheet
  pub fails : NoWayPacks ways sheet spacing sprites

-- A sheet with no more pixels than the first one that is found, if one of the ways finds one.
abbrev pub IsNoLarger : List Way → Allowed → Spacing → List Size → (sheet : Sides) → Type 0
IsNoLarger ways by spacing sprites sheet =
    NoneIsFound ways by spacing sprites
    ⊎ ((first : Sides) × (packed : Packed) × IsLeastFound ways by spacing sprites first packed
    × (pixels sheet ≤ pixels first))

-- A sheet with fewer pixels than the first one that is found, if one of the ways finds one.
abbrev pub IsSmaller : List Way → Allowed → Spacing → List Size → (sheet : Sides) → Type 0
IsSmaller ways by spacing sprites sheet =
    NoneIsFound ways by spacing sprites
    ⊎ ((first : Sides) × (packed : Packed) × IsLeastFound ways by spacing sprites first packed
    × (pixels sheet < pixels first))

-- A sheet that one of the ways finds first, with these places and in the order of these numbers.
abbrev pub IsFirstFound : List Way → Allowed → Spacing → List Size → (sheet : Sides) → (order : List ℕ)
    → List (Option Rectangle) → Type 0
IsFirstFound ways by spacing sprites sheet order places =
    (packed : Packed) × IsLeastFound ways by spacing sprites sheet packed
    × (map (λ s. s.0) packed.order ≡ order) × (map Some packed.places ≡ places)

-- Each size has fewer pixels than the one before it.
abbrev pub AreFalling : List Size → Type 0
AreFalling [] = Unit {0}
AreFalling (s ∷ []) = Unit {0}
AreFalling (s ∷ (t ∷ sizes)) = (pixels (sides_of t) < pixels (sides_of s)) × AreFalling (t ∷ sizes)

-- Steps that were taken one after another from a start, each at a good size with fewer pixels than the one before, the last
-- at this one.
abbrev pub IsToldLast : {F : Type 0} → (step : F → Size → F → Type 0) → (good : Size → Type 0) → (start : F) → Size → Type 0
IsToldLast {F} step good start size =
    (before : List Size) × (last : F) × FoldsTo step start (before ++ size ∷ []) last × AreFalling (before ++ size ∷ [])
    × All good (before ++ size ∷ [])
