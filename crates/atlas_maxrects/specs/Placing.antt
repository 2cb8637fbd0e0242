-- Boxes that are placed in a sheet one after another, each as high up as it can lie, and there as far left.
use Rattle.std.specs.Prelude.{◌≡◌, ◌<◌, ◌≤◌, ◌⊎◌, List, [], ◌∷◌, ◌++◌, All, Option, Some, None}
use Rattle.atlas_model.specs.declared.geometry.Rectangle.{Rectangle}
use Rattle.atlas_model.specs.Boxes.{Position, Sides, Box, IsPositive, IsWithin, box_at}
use Rattle.atlas_model.specs.Pixels.{box_of}
use Rattle.atlas_model.specs.Replies.{IsExact}

-- A sheet, and the boxes that lie in it, the first one first.
pub record Placing : Type 0 where
  pub sheet : Sides
  pub placed : List Box

-- The first box lies left of the second, right of it, above it or below it.
abbrev pub LieApart : Box → Box → Type 0
LieApart b c =
    (b.max.x ≤ c.min.x) ⊎ ((c.max.x ≤ b.min.x) ⊎ ((b.max.y ≤ c.min.y) ⊎ (c.max.y ≤ b.min.y)))

-- A box may lie here: it is inside the sheet, and apart from each box that lies there.
abbrev pub IsFree : Placing → Box → Type 0
IsFree s b = IsWithin s.sheet b × All (LieApart b) s.placed

-- The first position is higher up, or as high and no further right.
abbrev pub LiesBefore : Position → Position → Type 0
LiesBefore p q = (p.y < q.y) ⊎ ((p.y ≡ q.y) × (p.x ≤ q.x))

-- Of all positions at which a box of these sides may lie, the topmost, and of these the leftmost.
pub record IsTopmost (s : Placing) (sides : Sides) (p : Position) : Type 0 where
  pub free : IsFree s (box_at p sides)
  pub first : (q : Position) → IsFree s (box_at q sides) → LiesBefore p q

-- A box of these sides may lie nowhere.
abbrev pub HasNoPlace : Placing → Sides → Type 0
HasNoPlace s sides = (q : Position) → IsFree s (box_at q sides) → ⊥

-- From old a box of these sides is placed, or isn't since it is empty or may lie nowhere.
abbrev pub PlacesTopmost : (old : Placing) → Sides → Option Rectangle → (new : Placing) → Type 0
PlacesTopmost old sides None new = (IsPositive sides → HasNoPlace old sides) × (new ≡ old)
PlacesTopmost old sides (Some r) new = IsPositive sides × IsTopmost old sides (box_of r).min
    × (box_of r ≡ box_at (box_of r).min sides) × IsExact r
    × (new ≡ record { sheet = old.sheet; placed = old.placed ++ box_of r ∷ [] })
