-- The search through lists of entries: what it needs, and what it answers. No public clause cites this module.
use Rattle.std.specs.Prelude.{ℕ, ◌+◌, ◌*◌, ◌≡◌, ◌≢◌, ◌<◌, ◌≤◌, ◌==◌, ◌⊎◌, ◌++◌, Bool, true, false, List, Contains}
use Rattle.std.specs.Prelude.{length, pos}
use Rattle.atlas_search.specs.declared.bands.Borders.{Borders}
use Rattle.atlas_search.specs.declared.bands.Place.{Place}
use Rattle.atlas_search.specs.declared.best.Best.{Best}
use Rattle.atlas_search.specs.declared.best.Found.{Found}
use Rattle.atlas_search.specs.declared.link.Link.{Link}
use Rattle.atlas_search.specs.declared.masks.Mask.{Mask}
use Rattle.atlas_search.specs.Bands.{band_of, list_of, start_of}
use Rattle.atlas_search.specs.Bests.{HasSeen, IsFarther}
use Rattle.atlas_search.specs.Forks.{IsListed}
use Rattle.atlas_model.specs.Boxes.{Sides, Box, box_sides, Fits}
use Rattle.atlas_model.specs.Choice.{Options, AreValid, class_of}
use Rattle.atlas_search.specs.Items.{Item, item_at, item_box, item_sides, shown_item, shown_items}
use Rattle.atlas_search.specs.Rectangles.{IsSolid}
use Rattle.atlas_search.specs.Numbers.{occurs}
use Rattle.atlas_search.specs.Masks.{KeepsBelow, has, IsMarked}
use Rattle.atlas_model.specs.Pixels.{box_of}
use Rattle.atlas_search.specs.Ranks.{no_rank}
use Rattle.atlas_search.specs.Searches.{Shown, shown_at, IsBestShown}
use Rattle.atlas_search.specs.Tables.{head_of, is_used_at}

-- A search for a request of this rounded size was shown these entries, or they can't be the best.
abbrev pub HasShownTo : (es : List Item) (r : Sides) (xs : List ℕ) (before after : Best) → Type 0
HasShownTo es r xs before after =
    (is_large : Bool) (shown : List Shown) → HasSeen before is_large r shown → HasSeen after is_large r (shown ++ shown_items es xs)

-- The same of any search.
abbrev pub HasShown : (es : List Item) (xs : List ℕ) (before after : Best) → Type 0
HasShown es xs before after = (r : Sides) → HasShownTo es r xs before after

-- These entries are longer than a request, both sides.
abbrev pub AreLarger : (es : List Item) (r : Sides) (xs : List ℕ) → Type 0
AreLarger es r xs = (i : ℕ) → 0 < occurs i xs → IsFarther r (item_sides (item_at es i))

-- Each free entry stands once in the list of its sides, and nothing else stands in a list; its rectangle is exact.
pub record AreListed (o : Options) (heads : List Link) (es : List Item) : Type 0 where
  pub free_lists : ℕ → List ℕ
  pub valid : AreValid o
  pub short : length es ≤ 4261412864
  pub lists : (k : ℕ) → k < 2704 → IsListed es k (head_of heads k).number (free_lists k)
  pub own : (k i : ℕ) → k < 2704 → 0 < occurs i (free_lists k)
      → ((item_at es i).is_free ≡ true) × (list_of o (item_sides (item_at es i)) ≡ k)
  pub each : (i : ℕ) → (item_at es i).is_free ≡ true → 0 < occurs i (free_lists (list_of o (item_sides (item_at es i))))
  pub once : (k i : ℕ) → k < 2704 → occurs i (free_lists k) ≤ 1
  pub exact : (i : ℕ) → (item_at es i).is_free ≡ true → IsSolid (item_at es i).area

-- What a search says of what it found: this is the rectangle of a free entry.
pub record IsStanding (es : List Item) (found : Found) : Type 0 where
  pub free : (item_at es found.at.number).is_free ≡ true
  pub area : (item_at es found.at.number).area ≡ found.rectangle

-- A row and a column both come before `end`; so do the bands of an entry's sides.
abbrev pub AreBelow : (end row column : ℕ) → Type 0
AreBelow end row column = (row < end) × (column < end)

abbrev pub IsItemBelow : Options → List Item → (end i : ℕ) → Type 0
IsItemBelow o es end i =
    AreBelow end (band_of o (item_sides (item_at es i)).width) (band_of o (item_sides (item_at es i)).height)

-- A row and a column both come after the bands of a request's sides.
abbrev pub AreAfter : Options → (r : Sides) → (row column : ℕ) → Type 0
AreAfter o r row column = (band_of o r.width < row) × (band_of o r.height < column)

-- The free entries in these rows and columns, which come before `end`, were shown to a search, or can't be the best.
pub record HasAdded (o : Options) (es : List Item) (end : ℕ) (r : Sides) (IsVisited : ℕ → ℕ → Type 0)
    (before after : Best) : Type 0 where
  pub more : List Shown
  pub of_lists : (c : Shown) → Contains more c
      → ((item_at es c.at).is_free ≡ true) × (c ≡ shown_item es c.at) × IsItemBelow o es end c.at
  pub each : (i : ℕ) → (item_at es i).is_free ≡ true
      → IsVisited (band_of o (item_sides (item_at es i)).width) (band_of o (item_sides (item_at es i)).height)
      → Contains more (shown_item es i)
  pub seen : (is_large : Bool) (shown : List Shown) → HasSeen before is_large r shown
      → HasSeen after is_large r (shown ++ more)

-- Each free entry that the request fits stands in this row or column, or after it.
abbrev pub FitsItemsFrom : Options → List Item → (least : ℕ) → (r : Sides) → Type 0
FitsItemsFrom o es least r =
    (i : ℕ) → (item_at es i).is_free ≡ true → Fits r (item_sides (item_at es i))
    → (least ≤ band_of o (item_sides (item_at es i)).width) ⊎ (least ≤ band_of o (item_sides (item_at es i)).height)

-- The free entries with both bands before `end` are those shown, or can't be the best.
pub record AreShownBelow (o : Options) (es : List Item) (end : ℕ) (r : Sides) (shown : List Shown) : Type 0 where
  pub of_lists : (c : Shown) → Contains shown c
      → ((item_at es c.at).is_free ≡ true) × (c ≡ shown_item es c.at) × IsItemBelow o es end c.at
  pub each : (i : ℕ) → (item_at es i).is_free ≡ true → IsItemBelow o es end i → Fits r (item_sides (item_at es i))
      → Contains shown (shown_item es i)

-- A search was shown the free entries with both bands before `end`.
pub record HasSearched (o : Options) (es : List Item) (end : ℕ) (r : Sides) (search : Best) : Type 0 where
  pub shown : List Shown
  pub are_shown : AreShownBelow o es end r shown
  pub seen : HasSeen search (class_of o r == 2) r shown

-- The best free entry of those for a request, and of the best ones the first.
pub record IsBestBelow (o : Options) (es : List Item) (end : ℕ) (r : Sides) (found : Found) : Type 0 where
  pub shown : List Shown
  pub are_shown : AreShownBelow o es end r shown
  pub best : IsBestShown (class_of o r == 2) r shown (shown_at (box_of found.rectangle) found.at.number)
  pub standing : IsStanding es found

-- A search of the free entries with both bands before `end` found this one.
pub record HasFound (o : Options) (es : List Item) (end : ℕ) (r : Sides) (at : Link) : Type 0 where
  pub search : Best
  pub searched : HasSearched o es end r search
  pub is_at : at ≡ search.at
  pub some : search.rank ≢ no_rank

-- The boxes are those of the free entries.
pub record AreFreeItems (es : List Item) (free : List Box) : Type 0 where
  pub of_item : (b : Box) → Contains free b → (i : ℕ) × ((item_at es i).is_free ≡ true) × (item_box (item_at es i) ≡ b)
  pub of_box : (i : ℕ) → (item_at es i).is_free ≡ true → Contains free (item_box (item_at es i))

-- The borders of the classes.
pub record AreBorders (o : Options) (b : Borders) : Type 0 where
  pub small : b.small ≡ start_of o 1
  pub large : b.large ≡ start_of o 2

-- A class begins at a row or column or before it, and ends here.
pub record IsEndAfter (o : Options) (first end : ℕ) : Type 0 where
  pub class : ℕ
  pub few : class < 3
  pub begins : start_of o class ≤ first
  pub ends : end ≡ start_of o (class + 1)

-- The thresholds are those of the default options.
abbrev pub AreUsual : Options → Type 0
AreUsual o = (o.small_threshold ≡ pos 32) × (o.large_threshold ≡ pos 256)

-- No list to the right of a place and below it has a slot.
abbrev pub AreNoneApart : List Link → (own : Place) → Type 0
AreNoneApart heads own =
    (i j : ℕ) → own.row < i → i < 52 → own.column < j → j < 52 → is_used_at heads (52 * i + j) ≡ true → ⊥

-- A list to the right of a place and below it has a slot.
pub record IsUsedBeyond (heads : List Link) (own : Place) : Type 0 where
  pub i : ℕ
  pub j : ℕ
  pub below : own.row < i
  pub right : own.column < j
  pub row : i < 52
  pub column : j < 52
  pub used : is_used_at heads (52 * i + j) ≡ true

-- Of the lists with a slot in a place's row and column, those from the place on that stand in a row or column or after
-- it are left: the columns of the first, and the rows of the others.
pub record AreLeft (heads : List Link) (own : Place) (least : ℕ) (columns rows : Mask) : Type 0 where
  pub in_row : (j : ℕ) → own.column ≤ j → j < 52 → is_used_at heads (52 * own.row + j) ≡ true
      → (least ≤ own.row) ⊎ (least ≤ j) → IsMarked columns j
  pub in_column : (i : ℕ) → own.row < i → i < 52 → is_used_at heads (52 * i + own.column) ≡ true
      → (least ≤ i) ⊎ (least ≤ own.column) → IsMarked rows i

-- The free entries are listed, and a request with this own row and column, which fits none before `least`, is to be
-- searched for where these lists of the two are left.
pub record IsSearch (o : Options) (heads : List Link) (es : List Item) (own : Place) (r : Sides) (least : ℕ)
    (columns rows : Mask) : Type 0 where
  pub listed : AreListed o heads es
  pub row : own.row ≡ band_of o r.width
  pub column : own.column ≡ band_of o r.height
  pub from : FitsItemsFrom o es least r
  pub left : AreLeft heads own least columns rows

-- These are the columns and rows before `end` of the lists that are left for a search.
pub record IsSearchBefore (o : Options) (heads : List Link) (es : List Item) (own : Place) (r : Sides) (end : ℕ)
    (in_row in_column : Mask) : Type 0 where
  pub least : ℕ
  pub columns : Mask
  pub rows : Mask
  pub search : IsSearch o heads es own r least columns rows
  pub of_row : KeepsBelow columns in_row end
  pub of_column : KeepsBelow rows in_column end

-- A box of these sides stands in a list of the row in one of the columns, and in none of those that are near.
pub record IsFarIn (o : Options) (row : ℕ) (columns near : Mask) (s : Sides) : Type 0 where
  pub in_row : band_of o s.width ≡ row
  pub in_column : IsMarked columns (band_of o s.height)
  pub is_far : has near (band_of o s.height) ≡ false

-- Of the lists of a row in some columns only those that are near can hold a better box than the best.
pub record AreNear (o : Options) (row : ℕ) (columns near : Mask) (best : Best) : Type 0 where
  pub inside : (j : ℕ) → IsMarked near j → IsMarked columns j
  pub others : (is_large : Bool) (r : Sides) (shown more : List Shown) → HasSeen best is_large r shown
      → ((c : Shown) → Contains more c → IsFarIn o row columns near (box_sides c.box)) → HasSeen best is_large r (shown ++ more)

-- These rows, from a column on, before `end`.
abbrev pub IsBeyond : (rows : Mask) → (first end : ℕ) → ℕ → ℕ → Type 0
IsBeyond rows first end i j = IsMarked rows i × (first ≤ j) × (j < end)

-- The lists of a row in these columns, and the lists of a column in these rows.
abbrev pub IsInRow : (row : ℕ) → (columns : Mask) → ℕ → ℕ → Type 0
IsInRow row columns i j = (i ≡ row) × IsMarked columns j

abbrev pub IsInColumn : (column : ℕ) → (rows : Mask) → ℕ → ℕ → Type 0
IsInColumn column rows i j = (j ≡ column) × IsMarked rows i
