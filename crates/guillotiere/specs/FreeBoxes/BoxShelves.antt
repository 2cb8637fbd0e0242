-- The free boxes that the simple allocator stores: entries in the lists of a table, and a chain of unused entries. No
-- public clause cites this module.
use Rattle.std.specs.Prelude.{ℕ, ◌≡◌, ◌+◌, ◌<◌, Bool, false, List, [], ◌∷◌, map, max, length, int_lt}
use Rattle.std.specs.Prelude.{if◌then◌else◌}
use Rattle.guillotiere.specs.declared.simple.boxes.FreeBox.{FreeBox}
use Rattle.guillotiere.specs.declared.simple.boxes.FreeBoxes.{FreeBoxes}
use Rattle.atlas_model.specs.declared.geometry.Rectangle.{Rectangle}
use Rattle.atlas_search.specs.declared.link.Link.{Link}
use Rattle.atlas_model.specs.Boxes.{Box}
use Rattle.atlas_model.specs.Choice.{Options}
use Rattle.atlas_search.specs.Items.{Item, no_item, item_at, item_box}
use Rattle.atlas_search.specs.Numbers.{occurs, same, no_slot}
use Rattle.atlas_search.specs.Lookups.{AreListed}
use Rattle.atlas_search.specs.Tables.{no_link}

-- A free box has a width, an unused entry has none.
abbrev pub has_width : Rectangle → Bool
has_width r = int_lt r.min.x r.max.x

abbrev pub stored_item : FreeBox → Item
stored_item b =
    record {
      area = b.area;
      up = b.up.number;
      left = b.left.number;
      right = b.right.number;
      is_fork = b.is_fork;
      is_free = has_width b.area;
    }

-- An entry but for its links.
abbrev pub bare_box : FreeBox → FreeBox
bare_box b = record { area = b.area; up = no_link; left = no_link; right = no_link; is_fork = false }

-- An unused entry before this one.
abbrev pub idle_item : ℕ → Item
idle_item next = record no_item { up = next }

-- The list xs has the unused entries from one on.
abbrev pub IsIdleFrom : List Item → (from : ℕ) → List ℕ → Type 0
IsIdleFrom es from [] = from ≡ no_slot
IsIdleFrom es from (x ∷ xs) = (from ≡ x) × (x < length es) × IsIdleFrom es (item_at es x).up xs

-- What is stored; `used` counts the entries that aren't unused.
pub record BoxShelf : Type 0 where
  pub entries : List Item
  pub heads : List Link
  pub unused : Link
  pub used : ℕ

abbrev pub box_shelf : {A : Type 0} → FreeBoxes A → BoxShelf
box_shelf b =
    record { entries = map stored_item b.entries.items; heads = b.table.heads; unused = b.unused; used = b.used }

-- The boxes of the free entries.
abbrev pub free_item_boxes : List Item → List Box
free_item_boxes [] = []
free_item_boxes (e ∷ es) = if e.is_free then item_box e ∷ free_item_boxes es else free_item_boxes es

-- 1 if an entry is a free box.
abbrev pub free_count : Item → ℕ
free_count e = if e.is_free then 1 else 0

-- The free entries stand in their lists, and `unused_list` has the unused ones, from `unused` on. Each entry is a free one,
-- an unused one or claimed, exactly one of these, and once; `claimed i` counts an entry that is taken and not used yet.
pub record AreKeptWith (claimed : ℕ → ℕ) (o : Options) (v : BoxShelf) : Type 0 where
  pub listed : AreListed o v.heads v.entries
  pub unused_list : List ℕ
  pub chain : IsIdleFrom v.entries v.unused.number unused_list
  pub each : (i : ℕ) → i < length v.entries → occurs i unused_list + claimed i + free_count (item_at v.entries i) ≡ 1
  pub used : v.used + length unused_list ≡ length v.entries

-- The same with nothing claimed.
abbrev pub AreKept : Options → BoxShelf → Type 0
AreKept o v = AreKeptWith (λ i. 0) o v

-- An entry is claimed.
pub record IsClaimed (o : Options) (v : BoxShelf) (at : ℕ) : Type 0 where
  pub kept : AreKeptWith (λ i. same i at) o v
  pub inside : at < length v.entries

-- There are more entries than before only if more are used than there were.
abbrev pub AddsWhatIsUsed : BoxShelf → BoxShelf → Type 0
AddsWhatIsUsed old new = length new.entries ≡ max (length old.entries) new.used
