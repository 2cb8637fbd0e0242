-- What private calls do to the free boxes of the simple allocator, in one word. No public clause cites this module.
use Rattle.std.specs.Prelude.{ℕ, ◌≡◌, ◌≢◌, ◌+◌, ◌≤◌, ◌++◌, List, max, vec_len, vec_capacity}
use Rattle.guillotiere.specs.declared.simple.boxes.FreeBoxes.{FreeBoxes}
use Rattle.atlas_search.specs.declared.best.Found.{Found}
use Rattle.atlas_model.specs.Boxes.{AreSameBoxes, Box, Fits, IsPositive, Sides, box_sides}
use Rattle.atlas_model.specs.Choice.{Options}
use Rattle.atlas_model.specs.Pixels.{box_of}
use Rattle.atlas_search.specs.Lookups.{IsStanding}
use Rattle.atlas_search.specs.Bands.{list_of}
use Rattle.atlas_search.specs.Forks.{IsSorted}
use Rattle.atlas_search.specs.HeapCalls.{KeepsAreas}
use Rattle.atlas_search.specs.Heaps.{Heap, IsHeap, members, tag_of}
use Rattle.atlas_search.specs.Items.{item_at, item_sides}
use Rattle.atlas_search.specs.Tables.{head_of}
use Rattle.guillotiere.specs.FreeBoxes.BoxShelves.{AreKept, BoxShelf, box_shelf, free_item_boxes}
use Rattle.atlas_search.specs.Numbers.{occurs, same}

-- n more entries can be used without memory, and each has a number that is no tag of a list.
pub record HasEntriesFor {A : Type 0} (n : ℕ) (b : FreeBoxes A) : Type 0 where
  pub room : b.used + n ≤ vec_capacity b.entries
  pub short : b.used + n ≤ 4261412864

-- These boxes are free beside those of before.
pub record AreFiledBoxes {A : Type 0} (o : Options) (added : List Box) (old new : FreeBoxes A) : Type 0 where
  pub kept : AreKept o (box_shelf new)
  pub boxes : AreSameBoxes (free_item_boxes (box_shelf new).entries) (added ++ free_item_boxes (box_shelf old).entries)

-- n more entries are used, in the room that there was; new ones only where none is unused.
pub record HasTakenEntries {A : Type 0} (n : ℕ) (old new : FreeBoxes A) : Type 0 where
  pub used : new.used ≡ old.used + n
  pub length : vec_len new.entries ≡ max (vec_len old.entries) new.used
  pub capacity : vec_capacity new.entries ≡ vec_capacity old.entries

-- There are as many entries, and room for as many.
pub record KeepsEntries {A : Type 0} (old new : FreeBoxes A) : Type 0 where
  pub length : vec_len new.entries ≡ vec_len old.entries
  pub capacity : vec_capacity new.entries ≡ vec_capacity old.entries

-- A box that was found in its list fits a request.
pub record IsFoundFor {A : Type 0} (o : Options) (found : Found) (r : Sides) (b : FreeBoxes A) : Type 0 where
  pub kept : AreKept o (box_shelf b)
  pub standing : IsStanding (box_shelf b).entries found
  pub positive : IsPositive r
  pub fits : Fits r (box_sides (box_of found.rectangle))

-- A box has left its list, number k: the rest of that is a heap. No other list changes, and of the entries only links do.
pub record HasUnlisted (o : Options) (old : BoxShelf) (kept : AreKept o old) (new : BoxShelf) (at : ℕ) : Type 0 where
  pub k : ℕ
  pub own : k ≡ list_of o (item_sides (item_at old.entries at))
  pub rest : Heap
  pub heap : IsHeap new.entries (tag_of k) (head_of new.heads k).number rest
  pub sorted : IsSorted new.entries rest
  pub has : (i : ℕ) → same i at + occurs i (members rest) ≡ occurs i (kept.listed.free_lists k)
  pub heads : (j : ℕ) → j ≢ k → head_of new.heads j ≡ head_of old.heads j
  pub areas : KeepsAreas old.entries new.entries
  pub others : (i : ℕ) → occurs i (kept.listed.free_lists k) ≡ 0 → item_at new.entries i ≡ item_at old.entries i
  pub unused : new.unused ≡ old.unused
  pub used : new.used ≡ old.used
