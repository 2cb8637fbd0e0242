-- The best free box that a search was shown: what it keeps of it. No public clause cites this module.
use Rattle.std.specs.Prelude.{◌≡◌, ℕ, ◌<◌, ◌⊎◌, ◌++◌, ◌∷◌, [], Bool, List, Contains}
use Rattle.atlas_search.specs.declared.best.Best.{Best}
use Rattle.atlas_search.specs.declared.cells.Cell.{Cell}
use Rattle.atlas_model.specs.Boxes.{Box, Sides, IsPositive, box_sides}
use Rattle.atlas_model.specs.Choice.{least_margin}
use Rattle.atlas_model.specs.Pixels.{size_of}
use Rattle.atlas_search.specs.Forks.{IsIn}
use Rattle.atlas_search.specs.Ranks.{corner_of, rank_of, no_rank}
use Rattle.atlas_search.specs.Searches.{Shown, shown_at, IsBestShown, FitsNone}

-- A box of this rank with this corner is kept rather than the best one.
abbrev pub IsAhead : (rank corner : ℕ) → Best → Type 0
IsAhead rank corner s = (rank < s.rank) ⊎ ((rank ≡ s.rank) × (corner < s.corner))

-- What is kept of the best box shown: its rank, its corner and its number.
pub record IsKeptOf (is_large : Bool) (r : Sides) (shown : List Shown) (rank corner at : ℕ) : Type 0 where
  pub box : Box
  pub narrow : box.min.x < 4294967296
  pub below : least_margin r box < no_rank
  pub ranked : rank ≡ rank_of is_large (least_margin r box)
  pub cornered : corner ≡ corner_of box
  pub best : IsBestShown is_large r shown (shown_at box at)

-- What is known once these boxes were shown.
pub record HasSeen (s : Best) (is_large : Bool) (r : Sides) (shown : List Shown) : Type 0 where
  pub positive : IsPositive r
  pub size : s.size ≡ size_of r
  pub large : s.is_large ≡ is_large
  pub best : ((s.rank ≡ no_rank) × FitsNone r shown)
      ⊎ ((s.rank < no_rank) × IsKeptOf is_large r shown s.rank s.corner s.at.number)

-- Both sides of a size pass those of another.
abbrev pub IsFarther : (far s : Sides) → Type 0
IsFarther far s = (far.width < s.width) × (far.height < s.height)

-- The best stays the best once this box is shown.
abbrev pub IsPassed : Best → Box → Type 0
IsPassed s b =
    (is_large : Bool) (r : Sides) (shown : List Shown) → HasSeen s is_large r shown → (at : ℕ)
    → HasSeen s is_large r (shown ++ shown_at b at ∷ [])

-- This box is the best once it is shown.
abbrev pub BecomesBest : Best → Box → (rank corner : ℕ) → Type 0
BecomesBest s b rank corner =
    (is_large : Bool) (r : Sides) (shown : List Shown) → HasSeen s is_large r shown → (at : ℕ)
    → (rank < no_rank) × IsKeptOf is_large r (shown ++ shown_at b at ∷ []) rank corner at

-- Boxes of sizes in this cell are no better than the best.
abbrev pub IsOut : Best → Cell → Type 0
IsOut s cell =
    (is_large : Bool) (r : Sides) (shown more : List Shown) → HasSeen s is_large r shown
    → ((c : Shown) → Contains more c → IsIn (box_sides c.box) cell) → HasSeen s is_large r (shown ++ more)
