-- The state of an atlas and what each atlas keeps, and the states that calls lead to.
use Rattle.std.specs.Prelude.{◌≡◌, ℕ, ◌≤◌, ◌%◌, max, Bool, List, All, Contains}
use Rattle.atlas_model.specs.Boxes.{Sides, Box, box_sides}
use Rattle.atlas_model.specs.Choice.{Options, AreValid}
use Rattle.atlas_model.specs.Trees.{Tree, Grant, live, free_boxes, ids, node_count, IsWellFormed, IsNormal}
use Rattle.atlas_model.specs.Changes.{place, release, grown, fresh}

-- `limit` members may be used at once; `kept` is the most that were used at once since the last start or rearranging.
pub record State : Type 0 where
  pub tree : Tree
  pub size : Sides
  pub options : Options
  pub limit : ℕ
  pub kept : ℕ

-- The live ids with their boxes.
abbrev pub live_in : State → List Grant
live_in s = live s.size s.tree

-- The free boxes.
abbrev pub free_in : State → List Box
free_in s = free_boxes s.size s.tree

-- How many members are used.
abbrev pub used_in : State → ℕ
used_in s = node_count s.tree.members

abbrev pub IsLive : State → ℕ → Type 0
IsLive s id = Contains (ids s.tree.members) id

-- Both sides are multiples of the alignment.
abbrev pub IsAligned : Options → Sides → Type 0
IsAligned o s = (s.width % o.alignment.width ≡ 0) × (s.height % o.alignment.height ≡ 0)

-- What each atlas keeps.
pub record IsSound (s : State) : Type 0 where
  pub well_formed : IsWellFormed s.size s.tree
  pub normal : IsNormal s.tree.members
  pub valid : AreValid s.options
  pub aligned : All (λ g. IsAligned s.options (box_sides g.box)) (live_in s)
  pub counted : used_in s ≤ s.kept
  pub limited : s.kept ≤ s.limit

-- One free box: the state after a creation, a clearing and a reset.
abbrev pub started : Sides → Options → (limit : ℕ) → State
started size o limit = record { tree = fresh size; size = size; options = o; limit = limit; kept = 1 }

abbrev pub with_tree : State → Tree → State
with_tree s t = record s { tree = t; kept = max s.kept (node_count t.members) }

-- A request placed in the free box f.
abbrev pub after_placing : State → (f : Box) (r : Sides) (id : ℕ) → State
after_placing s f r id = with_tree s (place s.size f r id s.tree)

-- The ids of a set freed.
abbrev pub after_freeing : State → (ℕ → Bool) → State
after_freeing s set = with_tree s (release set s.tree)

-- Grown to a new size.
abbrev pub after_growth : State → Sides → State
after_growth s n =
    let t = grown s.size n s.tree in
    record s { tree = t; size = n; kept = max s.kept (node_count t.members) }

-- Rearranged into a tree of a new size.
abbrev pub after_refit : State → Sides → Tree → State
after_refit s n t = record s { tree = t; size = n; kept = node_count t.members }
