-- What placing boxes anew leaves. No public clause cites this module.
use Rattle.std.specs.Prelude.{◌≡◌, ℕ, ◌≤◌, ◌++◌, List, map, length, take, drop, All}
use Rattle.atlas_model.specs.declared.allocation.Allocation.{Allocation}
use Rattle.atlas_model.specs.declared.change.Change.{Change}
use Rattle.atlas_model.specs.declared.error.AtlasError.{AtlasError}
use Rattle.atlas_model.specs.declared.error.AtlasError.TheVariants.{Memory, Slots, NotLive}
use Rattle.atlas_model.specs.Trees.{Tree, Grant}
use Rattle.atlas_model.specs.States.{State, used_in}
use Rattle.atlas_model.specs.Refits.{Rearrangement, Refits, RefitPasses}
use Rattle.atlas_model.specs.Replies.{grant_of, IsExact}
use Rattle.atlas_model.specs.Rearranging.{transfer_of, IsExactChange}

abbrev pub HasExactRectangle : Allocation → Type 0
HasExactRectangle a = IsExact a.rectangle

-- The grants are placed in a state, in this order, with these changes and failures.
pub record IsRefitOf (old : State) (order : List Grant) (list : Rearrangement) (new : State) : Type 0 where
  pub refits : Refits old.size old.options old.limit old.tree order list new.tree
  pub size : new.size ≡ old.size
  pub options : new.options ≡ old.options
  pub limit : new.limit ≡ old.limit
  pub kept : old.kept ≡ used_in old → new.kept ≡ used_in new

-- Why a placing was refused.
abbrev pub IsRefitRefusal : State → List Grant → AtlasError → Type 0
IsRefitRefusal old order Slots = RefitPasses old.size old.options old.limit old.tree order
IsRefitRefusal old order Memory = Unit {0}
IsRefitRefusal old order NotLive = ⊥

-- One rearrangement, and then another.
abbrev pub followed_by : (done rest : Rearrangement) → Rearrangement
followed_by done rest =
    record { changes = done.changes ++ rest.changes; failures = done.failures ++ rest.failures }

-- Part of the grants are placed, with these changes and failures, and `left` are still to be placed: however these are
-- placed, all are.
pub record IsPartOfRefit (old : State) (order : List Grant) (done : Rearrangement) (now : State) (left : List Grant)
    : Type 0 where
  pub refits : (rest : Rearrangement) (new : Tree) → Refits now.size now.options now.limit now.tree left rest new
      → Refits old.size old.options old.limit old.tree order (followed_by done rest) new
  pub passes : RefitPasses now.size now.options now.limit now.tree left
      → RefitPasses old.size old.options old.limit old.tree order
  pub size : now.size ≡ old.size
  pub options : now.options ≡ old.options
  pub limit : now.limit ≡ old.limit
  pub kept : old.kept ≡ used_in old → now.kept ≡ used_in now

-- What was moved, and what found no room, of the first allocations of an order.
abbrev pub moved_so_far : List Change → List Allocation → Rearrangement
moved_so_far changes failures = record { changes = map transfer_of changes; failures = map grant_of failures }

-- The first `at` allocations are placed; `boxes` begins with those that found no room, `failed` of them.
pub record IsRefitting (old : State) (order : List Allocation) (now : State) (at failed : ℕ) (changes : List Change)
    (boxes : List Allocation) : Type 0 where
  pub few : failed ≤ at
  pub length : length boxes ≡ length order
  pub left : drop at boxes ≡ drop at order
  pub part : IsPartOfRefit old (map grant_of order) (moved_so_far changes (take failed boxes)) now
      (map grant_of (drop at order))
  pub changes_exact : All IsExactChange changes
  pub failures_exact : All HasExactRectangle (take failed boxes)
