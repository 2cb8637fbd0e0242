-- Which requests the code can round, and how it compares two boxes.
use Rattle.std.specs.Prelude.{◌≡◌, ◌≢◌, ◌≤◌, ℤ, pos, ◌<ℤ◌, Bool, true, false, ◌⊎◌}
use Rattle.atlas_model.specs.declared.geometry.Point.{Point}
use Rattle.atlas_model.specs.Boxes.{Sides, IsPositive}
use Rattle.atlas_model.specs.Choice.{Options, rounded}

-- A positive request whose rounded sides an `i32` can hold.
pub record CanBeRounded (o : Options) (s : Sides) : Type 0 where
  pub positive : IsPositive s
  pub width : (rounded o s).width ≤ 2147483647
  pub height : (rounded o s).height ≤ 2147483647

-- A box with the one least margin is strictly better than a box with the other.
abbrev pub IsBetterMargin : (is_large : Bool) (margin other : ℤ) → Type 0
IsBetterMargin true margin other = (other ≢ pos 0) × ((margin ≡ pos 0) ⊎ (other <ℤ margin))
IsBetterMargin false margin other = margin <ℤ other

-- One point lies above another, or at the same height and left of it.
abbrev pub IsBefore : (point other : Point) → Type 0
IsBefore point other = (point.y <ℤ other.y) ⊎ ((point.y ≡ other.y) × (point.x <ℤ other.x))

-- A box with this least margin and this `min` is kept rather than another.
abbrev pub PrecedesBox : (is_large : Bool) (margin other : ℤ) (point other_point : Point) → Type 0
PrecedesBox is_large margin other point other_point =
    IsBetterMargin is_large margin other ⊎ ((margin ≡ other) × IsBefore point other_point)
