-- What a simple allocator stores, the state that it stands for, and the entries that it uses, keeps and has room for.
use Rattle.std.specs.Prelude.{ℕ, ◌≡◌, ◌+◌, ◌<◌, ◌≤◌, ⊤, List, length, max, min}
use Rattle.atlas_model.specs.declared.geometry.Size.{Size}
use Rattle.atlas_model.specs.declared.options.AllocatorOptions.{AllocatorOptions}
use Rattle.atlas_model.specs.Boxes.{Box, Sides}
use Rattle.atlas_model.specs.Choice.{Options, IsPick, rounded}
use Rattle.atlas_model.specs.Pixels.{sides_of}
use Rattle.atlas_model.specs.Simple.{SimpleState, SimpleAtlasCall, added_by, kept_rest}
use Rattle.atlas_model.specs.Simple.SimpleAtlasCall.{Allocate, Grow, Start}
use Rattle.guillotiere.specs.FreeBoxes.BoxShelves.{BoxShelf}
use Rattle.guillotiere.specs.FreeBoxes.FreeLists.{state_of_items}

-- What contracts see of a simple allocator: its entries in their lists and the unused ones, its size and its options, and
-- for how many entries it has memory.
pub record SimpleValue : Type 0 where
  pub shelf : BoxShelf
  pub size : Size
  pub options : AllocatorOptions
  pub capacity : ℕ

-- The state that a simple allocator stands for.
abbrev pub simple_state_of : SimpleValue → SimpleState
simple_state_of v = state_of_items v.shelf.entries (sides_of v.size) v.options

-- How many entries are used, one for each free box.
abbrev pub used_entries : SimpleValue → ℕ
used_entries v = length (simple_state_of v).free

-- How many entries there are, used and unused.
abbrev pub kept_entries : SimpleValue → ℕ
kept_entries v = length v.shelf.entries

-- For how many entries there is room: there is memory for them, and there may be so many.
abbrev pub room_of : SimpleValue → ℕ
room_of v = min v.capacity 4261412864

-- From old to new unused entries come first: there are more entries only where more are used than there were.
abbrev pub UsesOldEntries : (old new : SimpleValue) → Type 0
UsesOldEntries old new = kept_entries new ≡ max (kept_entries old) (used_entries new)

-- No entry is unused.
abbrev pub UsesEachEntry : SimpleValue → Type 0
UsesEachEntry v = kept_entries v ≡ used_entries v

-- A request picks a box, whose entry is unused then, and what is kept of the box takes more entries than there is room for.
pub record LacksEntries (room : ℕ) (free : List Box) (o : Options) (request : Sides) : Type 0 where
  pub picked : Box
  pub pick : IsPick free o (rounded o request) picked
  pub more : room + 1 < length free + length (kept_rest o picked (rounded o request))

-- Where a call may ask for memory: more entries would be used than there is room for, or it is a start.
abbrev pub MayAskMemory : SimpleValue → SimpleAtlasCall → Type 0
MayAskMemory v (Allocate request) =
    LacksEntries (room_of v) (simple_state_of v).free (simple_state_of v).options request
MayAskMemory v (Grow size) = room_of v < used_entries v + length (added_by (simple_state_of v) size)
MayAskMemory v (Start source) = ⊤
MayAskMemory v _ = ⊥

-- The room never falls, but where a start takes over from an atlas.
abbrev pub KeepsRoom : SimpleValue → SimpleAtlasCall → SimpleValue → Type 0
KeepsRoom old (Start source) new = ⊤
KeepsRoom old call new = old.capacity ≤ new.capacity
