-- The rank of a box among those that a request fits. No public clause cites this module.
use Rattle.std.specs.Prelude.{◌≡◌, ℕ, ◌+◌, ◌*◌, ◌-◌, ◌<◌, ◌&&◌, nat_lt, Bool, true, if◌then◌else◌}
use Rattle.atlas_model.specs.Boxes.{Box}

-- A rank that no box has.
abbrev pub no_rank : ℕ
no_rank = 2147483647

-- The rank of a box with this least margin: the lesser the better, and 0 for an equal side.
abbrev pub rank_of : (is_large : Bool) → (margin : ℕ) → ℕ
rank_of is_large margin = if is_large && nat_lt 0 margin then 2147483647 - margin else margin

-- By exclusive or with this a margin above 0 is its rank.
abbrev pub flip_of : Bool → ℕ
flip_of is_large = if is_large then 2147483647 else 0

-- The `min` of a box as one number, the greater the later the box comes: the y, and below it the x.
abbrev pub corner_of : Box → ℕ
corner_of b = b.min.y * 4294967296 + b.min.x

-- A corner that no box has.
abbrev pub no_corner : ℕ
no_corner = 18446744073709551615

-- By the best's rank no box is better with a greater least margin than this: where the request isn't large, or an equal side was found.
pub record IsReach (reach rank : ℕ) (is_large : Bool) : Type 0 where
  pub same : reach ≡ rank
  pub below : rank < no_rank
  pub ends : is_large ≡ true → rank ≡ 0
