-- Boxes that are disjoint, within a slab. Of this module public clauses cite `IsSolidWithin` alone.
use Rattle.std.specs.Prelude.{ℕ, ℤ, pos, ◌≡◌, ◌⊎◌, ◌≤◌, ◌<◌, ◌≤ℤ◌, ◌<ℤ◌, ◌&&◌, Bool, true, false, not, List, All, AllPairs, count_by}
use Rattle.std.specs.Prelude.{int_le, int_lt, map}
use Rattle.atlas_model.specs.declared.geometry.Rectangle.{Rectangle}
use Rattle.atlas_model.specs.declared.geometry.Size.{Size}
use Rattle.atlas_model.specs.Boxes.{Box, IsWithin, Sides, covers}
use Rattle.atlas_model.specs.Pixels.{box_of, natural}
use Rattle.atlas_search.specs.Rectangles.{IsSolid}

-- The columns from `low` on and before `high`: one at least.
pub record IsSlab (low high : ℤ) : Type 0 where
  pub least : pos 0 ≤ℤ low
  pub some : low <ℤ high

-- A column inside a slab.
pub record IsMiddle (low middle high : ℤ) : Type 0 where
  pub after : low <ℤ middle
  pub before : middle <ℤ high

-- The slab from a to b and that from c to d are the two parts of one.
pub record AreHalves (low high : ℤ) (a b c d : ℤ) : Type 0 where
  pub middle : IsMiddle low b high
  pub begins : a ≡ low
  pub meets : c ≡ b
  pub ends : d ≡ high

-- A box goes through the slab from side to side.
abbrev pub is_full : (low high : ℤ) → Rectangle → Bool
is_full low high r = int_le r.min.x low && int_le high r.max.x

-- A box that doesn't, and reaches into a part.
abbrev pub is_part : (low high from to : ℤ) → Rectangle → Bool
is_part low high from to r = (not (is_full low high r) && int_lt r.min.x to) && int_lt from r.max.x

-- Where one of two goes through, the second begins where the first ends or below.
abbrev pub AreStacked : (low high : ℤ) → List Rectangle → Type 0
AreStacked low high rs =
    AllPairs (λ r s. (is_full low high r ≡ true) ⊎ (is_full low high s ≡ true) → r.max.y ≤ℤ s.min.y) rs

-- An end, and the same with a box's, if that counts.
abbrev pub IsEndWith : (end : ℤ) (counts : Bool) → Rectangle → (end' : ℤ) → Type 0
IsEndWith end counts r end' =
    ((counts ≡ true) × (end ≤ℤ r.max.y) × (end' ≡ r.max.y)) ⊎ ((counts ≡ true → r.max.y ≤ℤ end) × (end' ≡ end))

-- No unit square from column `low` to column `high` lies in two boxes.
abbrev pub AreApartIn : (low high : ℕ) → List Box → Type 0
AreApartIn low high bs = (x y : ℕ) → low ≤ x → x < high → count_by (covers x y) bs ≤ 1

-- Boxes in their order from the top, each of which reaches into the slab.
pub record AreFrom (low high : ℤ) (rs : List Rectangle) : Type 0 where
  pub order : AllPairs (λ r s. r.min.y ≤ℤ s.min.y) rs
  pub reach : All (λ r. (r.min.x <ℤ high) × (low <ℤ r.max.x)) rs

-- Whether boxes are apart in a slab, as a test tells that needs them in their order.
pub record TellsApart (low high : ℤ) (rs : List Rectangle) (answer : Bool) : Type 0 where
  pub apart : answer ≡ true → AreApartIn (natural low) (natural high) (map box_of rs)
  pub crossed : answer ≡ false → AreFrom low high rs → AreApartIn (natural low) (natural high) (map box_of rs) → ⊥

-- A box has sides above 0, and lies within a size.
pub record IsSolidWithin (size : Sides) (r : Rectangle) : Type 0 where
  pub solid : IsSolid r
  pub within : IsWithin size (box_of r)

-- The same, by the coordinates from side to side, and from top to bottom.
pub record LiesAcross (r : Rectangle) (s : Size) : Type 0 where
  pub left : pos 0 ≤ℤ r.min.x
  pub wide : r.min.x <ℤ r.max.x
  pub right : r.max.x ≤ℤ s.width

pub record LiesAlong (r : Rectangle) (s : Size) : Type 0 where
  pub top : pos 0 ≤ℤ r.min.y
  pub high : r.min.y <ℤ r.max.y
  pub bottom : r.max.y ≤ℤ s.height

pub record LiesAcrossAndAlong (r : Rectangle) (s : Size) : Type 0 where
  pub across : LiesAcross r s
  pub along : LiesAlong r s
