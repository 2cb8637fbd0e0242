-- Sprites that are placed in a grid of cells, and sheets that are packed so.
use Rattle.std.specs.Prelude.{◌≡◌, ℕ, ◌+◌, ◌-◌, ◌*◌, ◌/◌, ◌<◌, ◌≤◌, ◌⊎◌, ⊤, false, List, [], ◌∷◌, ◌++◌, length, map, take, All}
use Rattle.std.specs.Prelude.{Contains, Option, Some, None, IfSome}
use Rattle.std.specs.List.{AllAdjacentBelow, AllZip, count_by, sum_by}
use Rattle.atlas_maxrects.specs.Placing.{HasNoPlace, LieApart, PlacesTopmost, Placing}
use Rattle.guillotiere.specs.declared.Size.{Size}
use Rattle.guillotiere.specs.declared.Rectangle.{Rectangle}
use Rattle.guillotiere.specs.Boxes.{Box, Sides, IsWithin, box_at}
use Rattle.guillotiere.specs.Pixels.{box_of, sides_of}
use Rattle.guillotiere.specs.Replies.{IsExact}
use Rattle.atlas_sheet.specs.declared.options.Spacing.{Spacing}
use Rattle.atlas_sheet.specs.declared.options.SheetOptions.{SheetOptions}
use Rattle.atlas_sheet.specs.declared.placed.Placed.{Placed}
use Rattle.atlas_sheet.specs.declared.sheets.Sheet.{Sheet}
use Rattle.atlas_sheet.specs.declared.ways.TheConstants.{WAYS}
use Rattle.atlas_sheet.specs.Allowances.{IsAllowed, IsGreatest, IsNextSmaller, pixels}
use Rattle.atlas_sheet.specs.Lying.{IsPlacedFor, IsShown, areas_of}
use Rattle.atlas_sheet.specs.Orders.{IsOrder, IsOrderOf}
use Rattle.atlas_sheet.specs.Packings.{IsFirstFound, IsNoLarger, IsSmaller, NoneIsFound}
use Rattle.atlas_sheet.specs.Settings.{spacing_of}
use Rattle.atlas_sheet.specs.Sheets.{asked_sides, covers_place, inner_sides, padded, place_of_sprite, used_area, with_places}
use Rattle.atlas_sheet.specs.Turnings.{InEach, InFirst, InOne}

-- A grid of cells of the alignment's sides lies in what is left of a sheet without the padding at one end.
abbrev pub IsGridIn : (grid : Sides) (spacing : Spacing) (sheet : Sides) → Type 0
IsGridIn grid spacing sheet =
    (grid.width * (sides_of spacing.alignment).width ≤ (inner_sides spacing sheet).width)
    × (grid.height * (sides_of spacing.alignment).height ≤ (inner_sides spacing sheet).height)

-- No side of a grid passes 2147483647 pixels.
abbrev pub IsSmallGrid : (grid : Sides) (spacing : Spacing) → Type 0
IsSmallGrid grid spacing =
    (grid.width * (sides_of spacing.alignment).width ≤ 2147483647)
    × (grid.height * (sides_of spacing.alignment).height ≤ 2147483647)

-- The box of a sprite with its padding, from a corner of a cell on.
abbrev pub box_from : (spacing : Spacing) (cells : Box) (sprite : Size) → Box
box_from spacing cells sprite =
    box_at
    (record {
      x = cells.min.x * (sides_of spacing.alignment).width;
      y = cells.min.y * (sides_of spacing.alignment).height;
    })
    (asked_sides spacing.padding sprite)

-- How many cells a side takes, and how many a box with these sides.
abbrev pub cells_over : (side cell : ℕ) → ℕ
cells_over side cell = (side + (cell - 1)) / cell

abbrev pub cell_sides : (cell asked : Sides) → Sides
cell_sides cell asked = record { width = cells_over asked.width cell.width; height = cells_over asked.height cell.height }

-- How many whole cells lie in a sheet, without the padding at its right and below.
abbrev pub grid_of : (spacing : Spacing) (sheet : Sides) → Sides
grid_of spacing sheet =
    record {
      width = (inner_sides spacing sheet).width / (sides_of spacing.alignment).width;
      height = (inner_sides spacing sheet).height / (sides_of spacing.alignment).height;
    }

-- How many cells a sprite takes with its padding.
abbrev pub sprite_cells : Spacing → Size → Sides
sprite_cells spacing sprite = cell_sides (sides_of spacing.alignment) (asked_sides spacing.padding sprite)

-- A sprite takes these cells, which lie in the grid and apart from those that are taken.
pub record TakesCells (spacing : Spacing) (old : Placing) (sprite : Size) (place : Rectangle) (new : Placing)
    : Type 0 where
  pub cells : Box
  pub within : IsWithin old.sheet cells
  pub apart : All (LieApart cells) old.placed
  pub taken : new ≡ record { sheet = old.sheet; placed = old.placed ++ cells ∷ [] }
  pub padded : padded spacing.padding place ≡ box_from spacing cells sprite
  pub wide : (box_from spacing cells sprite).max.x ≤ cells.max.x * (sides_of spacing.alignment).width
  pub high : (box_from spacing cells sprite).max.y ≤ cells.max.y * (sides_of spacing.alignment).height
  pub left : spacing.padding ≤ (box_of place).min.x
  pub above : spacing.padding ≤ (box_of place).min.y
  pub exact : IsExact place

-- A sprite takes its cells at the topmost position that is free for them, and of these at the leftmost, and with its
-- padding begins in their corner; or it finds none that is free.
abbrev pub FindsTopmost : (spacing : Spacing) → (old : Placing) → Size → Option Rectangle → (new : Placing) → Type 0
FindsTopmost spacing old sprite None new = HasNoPlace old (sprite_cells spacing sprite) × (new ≡ old)
FindsTopmost spacing old sprite (Some place) new =
    (cells : Rectangle) × PlacesTopmost old (sprite_cells spacing sprite) (Some cells) new
    × (padded spacing.padding place ≡ box_from spacing (box_of cells) sprite)

-- Sprites look for such places one after another, each with what it finds.
abbrev pub FindAllTopmost : (spacing : Spacing) → Placing → List (Size × Option Rectangle) → Type 0
FindAllTopmost spacing s [] = ⊤
FindAllTopmost spacing s (asked ∷ rest) =
    (next : Placing) × FindsTopmost spacing s asked.0 asked.1 next × FindAllTopmost spacing next rest

-- The grid of a sheet in which nothing lies.
abbrev pub empty_grid : (spacing : Spacing) (sheet : Sides) → Placing
empty_grid spacing sheet = record { sheet = grid_of spacing sheet; placed = [] }

-- The first `many` of an order look for such places in a new sheet, and one of them finds none.
pub record LeavesTopmost (spacing : Spacing) (sheet : Sides) (order : List (ℕ × Size)) : Type 0 where
  pub many : ℕ
  pub places : List (Option Rectangle)
  pub found : FindAllTopmost spacing (empty_grid spacing sheet) (with_places places (take many order))
  pub left : Contains (map (place_of_sprite places) (take many order)) None

-- What a sprite counts: its height, and among those as high its width, since no side reaches 4294967296.
abbrev pub height_rank : Size → ℕ
height_rank s = (sides_of s).height * 4294967296 + (sides_of s).width

-- All sprites once, with their numbers: the highest first, of those as high the widest, and alike ones in the order of
-- their numbers.
pub record IsByHeight (sprites : List Size) (order : List (ℕ × Size)) : Type 0 where
  pub permuted : IsOrderOf sprites order
  pub highest : AllAdjacentBelow (λ s t. (height_rank t.1 ≤ height_rank s.1) × (height_rank s.1 ≡ height_rank t.1 → s.0 ≤ t.0))
      order (length order)

-- A place or none for each sprite of a sheet.
abbrev pub AreAllPlaced : SheetOptions → (sheet : Sides) → List Size → List (Option Placed) → Type 0
AreAllPlaced o sheet sprites placed =
    AllZip (λ sprite p. IfSome p (IsPlacedFor sheet (spacing_of o) o.turn sprite)) sprites placed

-- The sprite isn't turned, if it has a place.
abbrev pub IsUpright : Option Placed → Type 0
IsUpright p = IfSome p (λ q. q.turned ≡ false)

-- No pixel lies in two places with the padding to their left and above them.
abbrev pub ArePaddedApart : Spacing → List (Option Placed) → Type 0
ArePaddedApart spacing placed = (x y : ℕ) → count_by (covers_place spacing x y) (areas_of placed) ≤ 1

-- A sheet with no more pixels than the first one that a way finds, however sprites that may be turned are laid.
abbrev pub IsNoLargerThanWays : SheetOptions → List Size → (sheet : Sides) → Type 0
IsNoLargerThanWays o sprites sheet = InEach o sprites (λ lying. IsNoLarger WAYS o.allowed (spacing_of o) lying sheet)

-- None of the ways finds a sheet, however sprites that may be turned are laid.
abbrev pub NoWayFinds : SheetOptions → List Size → Type 0
NoWayFinds o sprites = InEach o sprites (λ lying. NoneIsFound WAYS o.allowed (spacing_of o) lying)

-- A sheet with fewer pixels than the first one that a way finds, if one does, however sprites that may be turned are laid.
abbrev pub IsSmallerThanWays : SheetOptions → List Size → (sheet : Sides) → Type 0
IsSmallerThanWays o sprites sheet = InEach o sprites (λ lying. IsSmaller WAYS o.allowed (spacing_of o) lying sheet)

-- What `pack` gives: these places in the order of these numbers, and without effort they are what a way finds first; however
-- the sprites are laid before that, each sheet that a way finds first is larger.
pub record IsAsPacked (o : SheetOptions) (sprites : List Size) (sheet : Sides) (order : List ℕ) (places : List Placed)
    : Type 0 where
  pub shown : IsShown sheet (spacing_of o) o.turn sprites order (map Some places)
  pub first : o.effort ≡ 0 → InOne o sprites (λ lying.
      IsFirstFound WAYS o.allowed (spacing_of o) lying sheet order (areas_of (map Some places)))
  pub earliest : o.effort ≡ 0 → InFirst o sprites
      (λ lying. IsFirstFound WAYS o.allowed (spacing_of o) lying sheet order (areas_of (map Some places)))
      (λ lying. IsSmaller WAYS o.allowed (spacing_of o) lying sheet)

-- A sheet that is smaller than those of the ways, and on which the sprites lie as they find topmost places by height. None is
-- turned.
pub record IsDense (o : SheetOptions) (sprites : List Size) (sheet : Sides) (order : List ℕ) (places : List Placed)
    : Type 0 where
  pub smaller : IsSmallerThanWays o sprites sheet
  pub numbered : List (ℕ × Size)
  pub by : IsByHeight sprites numbered
  pub numbers : order ≡ map (λ s. s.0) numbered
  pub found : FindAllTopmost (spacing_of o) (empty_grid (spacing_of o) sheet) (with_places (areas_of (map Some places)) numbered)
  pub upright : All IsUpright (map Some places)

-- A sheet of this size has fewer pixels than the sprites together, or leaves one of them, which are placed so by height.
abbrev pub LeavesDense : SheetOptions → List Size → (sheet : Sides) → Type 0
LeavesDense o sprites sheet =
    (pixels sheet < sum_by (λ s. pixels (sides_of s)) sprites)
    ⊎ ((order : List (ℕ × Size)) × IsByHeight sprites order × LeavesTopmost (spacing_of o) sheet order)

-- The sheet that is one step smaller leaves a sprite so.
abbrev pub IsLeastDense : SheetOptions → List Size → (sheet : Sides) → Type 0
IsLeastDense o sprites sheet =
    (s : Sides) → IsAllowed o.allowed s → IsNextSmaller o.allowed sheet s → LeavesDense o sprites s

-- The greatest sheet leaves a sprite so.
abbrev pub NoneIsDense : SheetOptions → List Size → Type 0
NoneIsDense o sprites = (sheet : Sides) × IsGreatest o.allowed sheet × LeavesDense o sprites sheet

-- What `pack` gives, or a smaller sheet on which the sprites lie so.
abbrev pub IsPackedOrDense : SheetOptions → List Size → (sheet : Sides) → (order : List ℕ) → List Placed → Type 0
IsPackedOrDense o sprites sheet order places = IsAsPacked o sprites sheet order places ⊎ IsDense o sprites sheet order places

-- An allowed sheet with a place for each sprite, an order of all of them, and no more pixels than the first one that a way
-- finds.
pub record IsWholeSheet {A : Type 0} (o : SheetOptions) (sprites : List Size) (sheet : Sheet A) : Type 0 where
  pub allowed : IsAllowed o.allowed (sides_of sheet.size)
  pub each : AreAllPlaced o (sides_of sheet.size) sprites (map Some sheet.places.items)
  pub apart : ArePaddedApart (spacing_of o) (map Some sheet.places.items)
  pub area : sheet.used_area ≡ used_area (areas_of (map Some sheet.places.items))
  pub numbers : IsOrder (length sprites) sheet.order.items
  pub larger : IsNoLargerThanWays o sprites (sides_of sheet.size)
  pub way : IsPackedOrDense o sprites (sides_of sheet.size) sheet.order.items sheet.places.items
