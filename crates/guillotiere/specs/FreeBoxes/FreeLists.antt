-- What a simple allocator stores. No public clause cites this module.
use Rattle.std.specs.Prelude.{◌<◌, List, [], ◌∷◌, filter, vec_capacity}
use Rattle.atlas_model.specs.declared.geometry.Size.{Size}
use Rattle.atlas_model.specs.declared.options.AllocatorOptions.{AllocatorOptions}
use Rattle.atlas_model.specs.Boxes.{Box, Sides, whole_box}
use Rattle.guillotiere.specs.declared.simple.boxes.FreeBoxes.{FreeBoxes}
use Rattle.guillotiere.specs.FreeBoxes.BoxShelves.{BoxShelf, box_shelf, free_item_boxes, AreKept}
use Rattle.atlas_model.specs.Choice.{Options}
use Rattle.atlas_search.specs.Items.{Item}
use Rattle.atlas_model.specs.Pixels.{sides_of, options_of}
use Rattle.atlas_model.specs.Simple.{SimpleState, IsSimple, is_kept, kept_rest}

-- The box alone if it is kept, and nothing if it is dropped.
abbrev pub kept_of : Options → Box → List Box
kept_of o b = filter (is_kept o) (b ∷ [])

-- What is kept of a size cut for another, which lies at its corner.
abbrev pub kept_beyond : AllocatorOptions → (size new_size : Size) → List Box
kept_beyond options size new_size = kept_rest (options_of options) (whole_box (sides_of new_size)) (sides_of size)

-- The state that is stored in these entries, for an atlas of this size and with these options.
abbrev pub state_of_items : List Item → Sides → AllocatorOptions → SimpleState
state_of_items es size options = record { free = free_item_boxes es; size = size; options = options_of options }

-- What a simple allocator stores.
pub record IsStoredState (v : BoxShelf) (size : Size) (options : AllocatorOptions) : Type 0 where
  pub simple : IsSimple (state_of_items v.entries (sides_of size) options)
  pub kept : AreKept (options_of options) v

-- What each simple allocator keeps: beside what it stores, room for an entry.
pub record IsSimpleStored {A : Type 0} (b : FreeBoxes A) (size : Size) (options : AllocatorOptions) : Type 0 where
  pub state : IsStoredState (box_shelf b) size options
  pub room : 0 < vec_capacity b.entries
