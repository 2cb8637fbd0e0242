-- Room that would be, were some entries gone, and the entries in a box.
use Rattle.std.specs.List.{AllByRecursion}
use Rattle.std.specs.Prelude.{◌≡◌, ◌<◌, ◌≤◌, ◌++◌, ◌==◌, ◌&&◌, ◌||◌, ◌+◌, ℕ, Bool, false, nat_le, nat_lt, List, [], ◌∷◌, Contains, Some}
use Rattle.std.specs.Prelude.{length, slice_get, Vec}
use Rattle.std.specs.Prelude.{if◌then◌else◌}
use Rattle.guillotiere.specs.declared.Size.{Size}
use Rattle.guillotiere.specs.Boxes.{Box, box_sides, Fits}
use Rattle.guillotiere.specs.Choice.{rounded, HasNoRoom}
use Rattle.guillotiere.specs.Pixels.{box_of, sides_of}
use Rattle.guillotiere.specs.Rehearsals.{AreShown}
use Rattle.guillotiere.specs.States.{after_freeing, free_in}
use Rattle.guillotiere.specs.Stored.{AtlasValue, state_of}
use Rattle.atlas_entries.specs.declared.entries.Entry.{Entry}
use Rattle.atlas_cache.specs.declared.counts.Counts.{Counts}
use Rattle.atlas_cache.specs.Caches.{entries_of, has_id, CacheState}
use Rattle.atlas_cache.specs.Rooms.{RoomsState}
use Rattle.atlas_entries.specs.Entries.{Table}

-- The first box lies inside the second.
abbrev pub is_inside : Box → Box → Bool
is_inside b c =
    (nat_le c.min.x b.min.x && nat_le c.min.y b.min.y) && (nat_le b.max.x c.max.x && nat_le b.max.y c.max.y)

-- Were these ids of a page freed, a request would have no room there.
abbrev pub HasNoRoomWithout : Size → (pages : List AtlasValue) → (page : ℕ) → (ids : ℕ → Bool) → Type 0
HasNoRoomWithout asked pages page ids =
    (v : AtlasValue) → slice_get pages page ≡ Some v
    → HasNoRoom (free_in (after_freeing (state_of v) ids)) (state_of v).options (sides_of asked)

-- The box would be free, and the request fits it.
pub record IsRoom (asked : Size) (v : AtlasValue) (ids : ℕ → Bool) (box : Box) : Type 0 where
  pub free : Contains (free_in (after_freeing (state_of v) ids)) box
  pub fits : Fits (rounded (state_of v).options (sides_of asked)) (box_sides box)

abbrev pub IsRoomWithout : Size → (pages : List AtlasValue) → (page : ℕ) → (ids : ℕ → Bool) → Box → Type 0
IsRoomWithout asked pages page ids box = (v : AtlasValue) → slice_get pages page ≡ Some v → IsRoom asked v ids box

-- By the marks, one for each slot of a page, these ids are shown as freed.
pub record AreShownOn (pages : List AtlasValue) (page : ℕ) (marks : List Bool) (ids : ℕ → Bool) : Type 0 where
  pub as_many : (v : AtlasValue) → slice_get pages page ≡ Some v → length marks ≡ (state_of v).kept
  pub shown : (v : AtlasValue) → slice_get pages page ≡ Some v → AreShown v marks ids

-- By the marks of each page, these of its ids are shown as freed.
pub record AreAllShown {Z : Type 0} (pages : List AtlasValue) (marks : List (Vec Bool Z)) (ids : (page : ℕ) → ℕ → Bool) : Type 0 where
  pub each : (page : ℕ) (own : Vec Bool Z) → slice_get marks page ≡ Some own → page < length pages
      → AreShownOn pages page own.items (ids page)
  pub many : length pages ≤ length marks

module _ {K : Type 0} where
  -- The ids on a page of some entries.
  abbrev pub ids_on : (page : ℕ) → List (Entry K) → ℕ → Bool
  ids_on page [] id = false
  ids_on page (e ∷ es) id = has_id page id e || ids_on page es id

  -- The ids on a page of those entries that were last used before a frame.
  abbrev pub idle_on : (frame page : ℕ) → List (Entry K) → ℕ → Bool
  idle_on frame page [] id = false
  idle_on frame page (e ∷ es) id = (has_id page id e && nat_lt e.frame frame) || idle_on frame page es id

  -- Whether an entry lies on a page inside a box.
  abbrev pub lies_in : (page : ℕ) → Box → Entry K → Bool
  lies_in page box e = (e.page == page) && is_inside (box_of e.rectangle) box

  -- How many do.
  abbrev pub inside_count : (page : ℕ) → Box → List (Entry K) → ℕ
  inside_count page box [] = 0
  inside_count page box (e ∷ es) = (if lies_in page box e then 1 else 0) + inside_count page box es

  -- The ids of those that do.
  abbrev pub ids_inside : (page : ℕ) → Box → List (Entry K) → ℕ → Bool
  ids_inside page box [] id = false
  ids_inside page box (e ∷ es) id = (lies_in page box e && e.id == id) || ids_inside page box es id

  -- The others.
  abbrev pub without_inside : (page : ℕ) → Box → List (Entry K) → List (Entry K)
  without_inside page box [] = []
  without_inside page box (e ∷ es) =
      if lies_in page box e then without_inside page box es else e ∷ without_inside page box es

  -- What was found: a box of a page that is free once so many of the least recently used entries go, where no page has room once one
  -- fewer go.
  pub record IsVacancy (asked : Size) (frame page : ℕ) (pages : List AtlasValue) (count : ℕ) (box : Box)
      (es : List (ℕ × Entry K)) : Type 0 where
    pub newer : List (ℕ × Entry K)
    pub last : ℕ × Entry K
    pub older : List (ℕ × Entry K)
    pub was : es ≡ newer ++ last ∷ older
    pub counted : count ≡ length older + 1
    pub unused : AllByRecursion (λ e. e.frame < frame) (last.1 ∷ entries_of older)
    pub least : (other : ℕ) → HasNoRoomWithout asked pages other (ids_on other (entries_of older))
    pub room : IsRoomWithout asked pages page (ids_on page (last.1 ∷ entries_of older)) box

  -- The state of a cache by its parts.
  abbrev pub state_with : RoomsState → Table K → (frame : ℕ) → Counts → CacheState K
  state_with rooms entries frame counts =
      record {
        options = rooms.options;
        pages = rooms.pages;
        entries = entries_of entries.entries;
        numbers = entries.made;
        reserved = entries.reserved;
        frame = frame;
        counts = counts;
      }
