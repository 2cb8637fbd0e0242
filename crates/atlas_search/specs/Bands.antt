-- The 52 bands of a side, and the 52 x 52 lists of free slots by the bands of both sides. No public clause cites this
-- module.
use Rattle.std.specs.Prelude.{ℕ, ◌+◌, ◌-◌, ◌*◌, ◌/◌, ◌<◌, ◌≤◌, ◌==◌, ◌⊎◌, ℤ, pos, int_le, nat_lt, if◌then◌else◌}
use Rattle.atlas_search.specs.declared.bands.Place.{Place}
use Rattle.atlas_model.specs.Boxes.{Sides}
use Rattle.atlas_model.specs.Pixels.{natural}
use Rattle.atlas_model.specs.Choice.{Options}

-- The step of a side: one pixel each below 16, then 2 below 64, 8 below 128 and 64 below 256, and one for all above.
unfoldable pub step_of : ℕ → ℕ
step_of n =
    if nat_lt n 16 then n - 1
    else if nat_lt n 64 then 15 + (n - 16) / 2
    else if nat_lt n 128 then 39 + (n - 64) / 8
    else if nat_lt n 256 then 47 + (n - 128) / 64
    else 49

-- 1 if a side is at least a threshold.
abbrev pub passes : ℤ → ℕ → ℕ
passes threshold n = if int_le threshold (pos n) then 1 else 0

-- The band of a side: a new one begins at each step and at each threshold.
unfoldable pub band_of : Options → ℕ → ℕ
band_of o n = step_of n + passes o.small_threshold n + passes o.large_threshold n

-- The number of the list in a row and a column.
abbrev pub number_of : Place → ℕ
number_of p = 52 * p.row + p.column

-- The list of a box with these sides: its row is the band of the width, its column that of the height.
abbrev pub list_of : Options → Sides → ℕ
list_of o s = 52 * band_of o s.width + band_of o s.height

-- The first band of the sides from a threshold on.
abbrev pub border_of : Options → ℤ → ℕ
border_of o threshold = if int_le threshold (pos 1) then 0 else band_of o (natural threshold)

-- The first band of the sides that reach a class; from 3 on there is none.
abbrev pub start_of : Options → ℕ → ℕ
start_of o class =
    if class == 0 then 0
    else if class == 1 then border_of o o.small_threshold
    else if class == 2 then border_of o o.large_threshold
    else 52

-- The boxes of a class are those with both bands before the next class, and one of them not before its own.
pub record IsInWindow (o : Options) (class row column : ℕ) : Type 0 where
  pub row_ends : row < start_of o (class + 1)
  pub column_ends : column < start_of o (class + 1)
  pub begins : (start_of o class ≤ row) ⊎ (start_of o class ≤ column)
