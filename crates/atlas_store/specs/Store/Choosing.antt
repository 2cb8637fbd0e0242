-- The free slot that a request takes, and room for the slots that it needs. No public clause cites this module.
use Rattle.std.specs.Prelude.{ℕ, ◌+◌, ◌<◌, ◌≤◌, ◌≡◌, List, []}
use Rattle.atlas_store.specs.declared.store.Store.{Store}
use Rattle.atlas_search.specs.declared.best.Found.{Found}
use Rattle.atlas_store.specs.declared.slots.NodeKind.TheVariants as kind
use Rattle.atlas_model.specs.declared.error.AtlasError.{AtlasError}
use Rattle.atlas_model.specs.declared.error.AtlasError.TheVariants.{Memory, Slots, NotLive}
use Rattle.atlas_model.specs.Boxes.{Sides, Box}
use Rattle.atlas_model.specs.Choice.{IsPick}
use Rattle.atlas_model.specs.Pixels.{box_of, options_of}
use Rattle.atlas_store.specs.Slots.{nodes}
use Rattle.atlas_store.specs.Slots.Picks.{AreFreeBoxes}
use Rattle.atlas_store.specs.Stored.{Shelf, Holding, Holds, IsDetachedOnly}
use Rattle.atlas_store.specs.Store.Holdings.{capacity_in, node_in, shelf_of, turns_in}

-- The slots stand for a tree that begins at 0, and each free slot stands in its list.
pub record IsAtRest (v : Shelf) (h : Holding) : Type 0 where
  pub holds : Holds v h
  pub listed : IsDetachedOnly [] h
  pub start : h.sequence.start ≡ 0

-- The free slot that a request takes.
pub record IsChosen (v : Shelf) (r : Sides) (p : Found) : Type 0 where
  pub free : (node_in v p.at.number).kind ≡ kind.Free
  pub pick : (free : List Box) → AreFreeBoxes (nodes v.slots) free
      → IsPick free (options_of v.options) r (box_of (node_in v p.at.number).area)

-- Why slots were refused.
abbrev pub IsShortOf : (used limit needed kept : ℕ) → AtlasError → Type 0
IsShortOf used limit needed kept Slots = limit < used + needed
IsShortOf used limit needed kept Memory = (used + needed ≤ limit) × (kept < used + needed)
IsShortOf used limit needed kept NotLive = ⊥

-- The same is stored, in as much memory or more, and no turn was taken.
pub record KeepsShelf {A : Type 0} (old new : Store A) : Type 0 where
  pub shelf : shelf_of new ≡ shelf_of old
  pub capacity : capacity_in old ≤ capacity_in new
  pub turns : turns_in new ≡ turns_in old
