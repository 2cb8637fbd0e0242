-- Rearranging: the live boxes are placed anew, one after another, in a fresh tree.
pub mod Refitted
use Rattle.std.specs.Prelude.{◌≡◌, ℕ, ◌+◌, ◌<◌, ◌≤◌, ◌⊎◌, List, [], ◌∷◌, All, IsPermutation}
use Rattle.atlas_model.specs.Boxes.{Sides, Box, area, box_at, box_sides}
use Rattle.atlas_model.specs.Cuts.{cap}
use Rattle.atlas_model.specs.Choice.{Options, rounded, IsPick, HasNoRoom}
use Rattle.atlas_model.specs.Trees.{Tree, Grant, grant, free_boxes, ids, slot_count, slot_of, node_count}
use Rattle.atlas_model.specs.Changes.{place, place_need}

-- A grant and what it became.
pub record Transfer : Type 0 where
  pub old : Grant
  pub new : Grant

-- What moved, and what found no room.
pub record Rearrangement : Type 0 where
  pub changes : List Transfer
  pub failures : List Grant

abbrev pub no_changes : Rearrangement
no_changes = record { changes = []; failures = [] }

abbrev pub with_change : (old new : Grant) → Rearrangement → Rearrangement
with_change old new list = record list { changes = record { old = old; new = new } ∷ list.changes }

abbrev pub with_failure : Grant → Rearrangement → Rearrangement
with_failure g list = record list { failures = g ∷ list.failures }

-- g is placed before h: its capped area is larger, or equal with a greater slot number.
abbrev pub Precedes : (g h : Grant) → Type 0
Precedes g h =
    (cap (area h.box) < cap (area g.box))
    ⊎ ((cap (area h.box) ≡ cap (area g.box)) × (slot_of h.id < slot_of g.id))

-- Each precedes all that come after it.
abbrev pub IsRanked : List Grant → Type 0
IsRanked [] = Unit {0}
IsRanked (g ∷ gs) = All (Precedes g) gs × IsRanked gs

-- The sides for which a grant's box is placed anew.
abbrev pub refit_sides : Options → Grant → Sides
refit_sides o g = rounded o (box_sides g.box)

-- A grant's box may be placed in the free box f.
abbrev pub CanRefit : Sides → Options → Tree → Grant → (f : Box) → Type 0
CanRefit size o t g f = IsPick (free_boxes size t) o (refit_sides o g) f

-- It has no room.
abbrev pub CannotRefit : Sides → Options → Tree → Grant → Type 0
CannotRefit size o t g = HasNoRoom (free_boxes size t) o (box_sides g.box)

-- How many members there are once it is placed.
abbrev pub refit_nodes : Sides → Options → Tree → Grant → (f : Box) → ℕ
refit_nodes size o t g f = node_count t.members + place_need size f (refit_sides o g) t

-- The grants are placed in this order, each that has room under an id of an unused slot, and no tree on the way passes
-- the limit.
abbrev pub Refits : Sides → Options → (limit : ℕ) → Tree → List Grant → Rearrangement → Tree → Type 0
Refits size o limit t [] list new = (list ≡ no_changes) × (new ≡ t)
Refits size o limit t (g ∷ gs) list new =
    ((f : Box) × (id : ℕ) × (rest : Rearrangement) × CanRefit size o t g f × (slot_count id (ids t.members) ≡ 0)
    × (refit_nodes size o t g f ≤ limit) × (list ≡ with_change g (grant id (box_at f.min (refit_sides o g))) rest)
    × Refits size o limit (place size f (refit_sides o g) id t) gs rest new)
    ⊎ ((rest : Rearrangement) × CannotRefit size o t g × (list ≡ with_failure g rest)
    × Refits size o limit t gs rest new)

-- Placed in this order, some tree on the way would pass the limit.
abbrev pub RefitPasses : Sides → Options → (limit : ℕ) → Tree → List Grant → Type 0
RefitPasses size o limit t [] = ⊥
RefitPasses size o limit t (g ∷ gs) =
    ((f : Box) × CanRefit size o t g f × (limit < refit_nodes size o t g f))
    ⊎ ((f : Box) × (id : ℕ) × CanRefit size o t g f × (slot_count id (ids t.members) ≡ 0)
    × (refit_nodes size o t g f ≤ limit) × RefitPasses size o limit (place size f (refit_sides o g) id t) gs)
    ⊎ (CannotRefit size o t g × RefitPasses size o limit t gs)

-- The order in which grants are placed anew.
pub record IsRefitOrder (grants order : List Grant) : Type 0 where
  pub permuted : IsPermutation grants order
  pub ranked : IsRanked order
