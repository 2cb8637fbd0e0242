-- What a cache does, change by change, and what a caller learns of it.
use Rattle.std.specs.Prelude.{◌≡◌, ◌≢◌, ◌+◌, ◌-◌, ◌<◌, ◌≤◌, max, min, ℕ, Bool, true, false, List, [], ◌∷◌, ◌++◌, length, Option, Some, None}
use Rattle.std.specs.Prelude.{if◌then◌else◌, slice_get, slice_set, take, Result, Ok, Err, ◌⊎◌}
use Rattle.std.specs.List.{list_any, AllByRecursion}
use Rattle.guillotiere.specs.declared.Size.{Size}
use Rattle.guillotiere.specs.Boxes.{Box, IsPositive}
use Rattle.guillotiere.specs.Pixels.{sides_of}
use Rattle.guillotiere.specs.Changes.{release}
use Rattle.guillotiere.specs.Stored.{state_of, AtlasValue}
use Rattle.guillotiere.specs.Pages.{page_sizes, AddsBoxOn, HasRoomOn, HasSameRectangles, KeepsPages, LeavesNoBoxOn, NoneHasRoomBelow}
use Rattle.atlas_cache.specs.declared.counts.Counts.{Counts}
use Rattle.atlas_cache.specs.declared.changes.CacheChange.{CacheChange}
use Rattle.atlas_cache.specs.declared.changes.CacheChange.TheVariants.{PageAdded, PageGrown, Evicted, Moved, PageRemoved}
use Rattle.atlas_entries.specs.declared.entries.Entry.{Entry}
use Rattle.atlas_entries.specs.declared.error.CacheError.{CacheError}
use Rattle.atlas_entries.specs.declared.error.CacheError.TheVariants.{OtherSize}
use Rattle.atlas_cache.specs.declared.inserted.Inserted.{Inserted}
use Rattle.atlas_cache.specs.declared.inserted.Inserted.TheVariants.{Placed, Held, FrameFull, NeverFits}
use Rattle.atlas_cache.specs.declared.places.Place.{Place}
use Rattle.atlas_cache.specs.Asking.{CanStand}
use Rattle.atlas_cache.specs.Caches.{CacheState, entries_of, entry_for, place_for, shown, HasNoPageFor, IsFull}
use Rattle.atlas_cache.specs.Counting.{one_more}
use Rattle.atlas_entries.specs.Entries.{is_blank, lying, without_number, Table}
use Rattle.atlas_cache.specs.Placing.{FreesOn, GrantsOn, GrowsOn, StartsOn}
use Rattle.atlas_entries.specs.Limits.{IsWithoutNumber}
use Rattle.atlas_cache.specs.Reserving.{UseAtMost}
use Rattle.atlas_cache.specs.Rooms.{has_area, AreAllLargest, IsAtLeast, IsFirstToGrow, IsRounded, RoomsState}
use Rattle.atlas_cache.specs.Vacating.{idle_on, ids_on, ids_inside, lies_in, without_inside, HasNoRoomWithout, IsRoomWithout}

-- A caller's picture of a cache: the place of each key, and the size of each page.
pub record Picture (K : Type 0) : Type 0 where
  pub places : K → Option Place
  pub pages : List Size

module _ {K : Type 0} where
  -- The picture of what a cache holds.
  abbrev pub picture_of : (K → K → Bool) → CacheState K → Picture K
  picture_of eq s = record { places = place_for eq s; pages = page_sizes s.pages }

  -- A key has this place, or none; the others have theirs.
  abbrev pub placed : (K → K → Bool) → K → Option Place → Picture K → Picture K
  placed eq key place p = record p { places = λ q. if eq key q then place else p.places q }

  -- What a caller makes of a change.
  abbrev pub changed : (K → K → Bool) → CacheChange K → Picture K → Picture K
  changed eq (PageAdded page size) p = record p { pages = p.pages ++ size ∷ [] }
  changed eq (PageGrown page size) p = record p { pages = slice_set p.pages page size }
  changed eq (Evicted key place) p = placed eq key None p
  changed eq (Moved key from to) p = placed eq key (Some to) p
  changed eq (PageRemoved page) p = record p { pages = take page p.pages }

  -- And of several, the first first.
  abbrev pub all_changed : (K → K → Bool) → List (CacheChange K) → Picture K → Picture K
  all_changed eq [] p = p
  all_changed eq (c ∷ cs) p = all_changed eq cs (changed eq c p)

  -- Both pictures show the same.
  pub record ShowsSame (p q : Picture K) : Type 0 where
    pub places : (k : K) → p.places k ≡ q.places k
    pub pages : p.pages ≡ q.pages

  -- Entries, frame, options and counts stay, and what is in reserve. The pages may change.
  pub record KeepsEntries (s t : CacheState K) : Type 0 where
    pub entries : t.entries ≡ s.entries
    pub numbers : t.numbers ≡ s.numbers
    pub reserved : t.reserved ≡ s.reserved
    pub options : t.options ≡ s.options
    pub frame : t.frame ≡ s.frame
    pub counts : t.counts ≡ s.counts

  -- The first page that isn't at its largest grows by a step of its atlas, and nothing on it moves. It takes at most 3 of its
  -- slots, and the others stay as they are, so that what is in reserve is left.
  pub record GrowsPage (page : ℕ) (size : Size) (s t : CacheState K) : Type 0 where
    pub first : IsFirstToGrow s.options (page_sizes s.pages) page size
    pub step : GrowsOn size s.pages t.pages page
    pub sizes : page_sizes t.pages ≡ slice_set (page_sizes s.pages) page size
    pub same : HasSameRectangles s.pages t.pages
    pub slots : UseAtMost 3 s.pages t.pages
    pub others : KeepsPages s.pages t.pages page
    pub keeps : KeepsEntries s t

  -- Each page is at its largest, and one is added, a single free rectangle. The others stay as they are.
  pub record AddsPage (page : ℕ) (size : Size) (s t : CacheState K) : Type 0 where
    pub largest : AreAllLargest s.options (page_sizes s.pages)
    pub last : page ≡ length s.pages
    pub start : StartsOn s.options t.pages page
    pub sized : size ≡ s.options.page
    pub sizes : page_sizes t.pages ≡ page_sizes s.pages ++ size ∷ []
    pub same : HasSameRectangles s.pages t.pages
    pub others : KeepsPages s.pages t.pages page
    pub keeps : KeepsEntries s t

  -- Every page is there and at its largest, and an entry that lies on a page goes, which this frame didn't use. The others keep their
  -- order.
  pub record Evicts (key : K) (place : Place) (s t : CacheState K) : Type 0 where
    pub full : IsFull s
    pub entry : Entry K
    pub newer : List (Entry K)
    pub older : List (Entry K)
    pub was : s.entries ≡ newer ++ entry ∷ older
    pub is : t.entries ≡ newer ++ older
    pub lies : is_blank entry ≡ false
    pub named : key ≡ entry.key
    pub shows : place ≡ shown s.options.padding entry
    pub unused : entry.frame < s.frame
    pub leaves : LeavesNoBoxOn s.pages t.pages entry.page entry.id
    pub sizes : page_sizes t.pages ≡ page_sizes s.pages
    pub slots : UseAtMost 0 s.pages t.pages
    pub numbers : t.numbers ≡ s.numbers
    pub reserved : t.reserved ≡ s.reserved
    pub options : t.options ≡ s.options
    pub frame : t.frame ≡ s.frame
    pub counts : t.counts ≡ record s.counts { evictions = one_more s.counts.evictions }

  -- Of the entries that lie on a page it is the least recently used one.
  pub record EvictsOldest (key : K) (place : Place) (s t : CacheState K) : Type 0 where
    pub goes : Evicts key place s t
    pub oldest : lying goes.older ≡ []

  -- It lies on this page inside this box.
  pub record EvictsIn (page : ℕ) (box : Box) (key : K) (place : Place) (s t : CacheState K) : Type 0 where
    pub goes : Evicts key place s t
    pub here : lies_in page box goes.entry ≡ true

  -- What an insert does by one change, as long as it goes by the order of use.
  abbrev pub Does : CacheChange K → (s t : CacheState K) → Type 0
  Does (PageAdded page size) s t = AddsPage page size s t
  Does (PageGrown page size) s t = GrowsPage page size s t
  Does (Evicted key place) s t = EvictsOldest key place s t
  Does (Moved key from to) s t = ⊥
  Does (PageRemoved page) s t = ⊥

  -- What one more change does, which is listed last.
  pub record DoesOne (before after : List (CacheChange K)) (s t : CacheState K) : Type 0 where
    pub change : CacheChange K
    pub listed : after ≡ before ++ change ∷ []
    pub does : Does change s t

  -- The changes lead from one state to another, and before each of them the request had room on no page.
  abbrev pub Leads : (asked : Size) → List (CacheChange K) → (s t : CacheState K) → Type 0
  Leads asked [] s t = s ≡ t
  Leads asked (c ∷ cs) s t =
      (next : CacheState K) × HasNoPageFor asked s × Does c s next × Leads asked cs next t

  -- The changes are evictions of entries that lie on a page inside a box.
  abbrev pub ClearsOne : (page : ℕ) (box : Box) → CacheChange K → (s t : CacheState K) → Type 0
  ClearsOne page box (PageAdded p size) s t = ⊥
  ClearsOne page box (PageGrown p size) s t = ⊥
  ClearsOne page box (Evicted key place) s t = EvictsIn page box key place s t
  ClearsOne page box (Moved key from to) s t = ⊥
  ClearsOne page box (PageRemoved p) s t = ⊥

  abbrev pub ClearsBox : (page : ℕ) (box : Box) → List (CacheChange K) → (s t : CacheState K) → Type 0
  ClearsBox page box [] s t = s ≡ t
  ClearsBox page box (c ∷ cs) s t =
      (next : CacheState K) × ClearsOne page box c s next × ClearsBox page box cs next t

  -- An entry of a number goes, by the parts of a cache, and the change that says so is listed.
  pub record LetsGo (number : ℕ) (entry : Entry K) (before after : List (CacheChange K)) (rooms left : RoomsState)
      (entries others : Table K) (counts counted : Counts) : Type 0 where
    pub without : others.entries ≡ without_number number entries.entries
    pub made : others.made ≡ entries.made
    pub reserved : others.reserved ≡ entries.reserved
    pub leaves : LeavesNoBoxOn rooms.pages left.pages entry.page entry.id
    pub sizes : page_sizes left.pages ≡ page_sizes rooms.pages
    pub options : left.options ≡ rooms.options
    pub slots : UseAtMost 0 rooms.pages left.pages
    pub step : FreesOn rooms.pages left.pages entry.page entry.id
    pub evicted : counted ≡ record counts { evictions = one_more counts.evictions }
    pub listed : after ≡ before ++ Evicted entry.key (shown rooms.options.padding entry) ∷ []

  -- Of these entries, the least recently used ones, those went that lie on a page inside a box; and what is free on that page is what
  -- freeing their ids leaves.
  pub record IsCleared (page : ℕ) (box : Box) (newer older : List (ℕ × Entry K)) (before after : List (CacheChange K))
      (s t : CacheState K) : Type 0 where
    pub made : List (CacheChange K)
    pub listed : after ≡ before ++ made
    pub clears : ClearsBox page box made s t
    pub left : t.entries ≡ entries_of newer ++ without_inside page box (entries_of older)
    pub freed : (v w : AtlasValue) → slice_get s.pages page ≡ Some v → slice_get t.pages page ≡ Some w
        → ((state_of w).tree ≡ release (ids_inside page box (entries_of older)) (state_of v).tree)
        × ((state_of w).size ≡ (state_of v).size) × ((state_of w).options ≡ (state_of v).options)
    pub others : KeepsPages s.pages t.pages page

  -- Of the least recently used entries, none of which this frame used, those go that lie on a page inside a box, and no others. The
  -- request had room on no page, and would have none if all of those but the most recently used one of them went; if all went, that
  -- box would be free, and the request fits it.
  pub record Vacates (asked : Size) (cs : List (CacheChange K)) (s t : CacheState K) : Type 0 where
    pub none : HasNoPageFor asked s
    pub page : ℕ
    pub box : Box
    pub newer : List (Entry K)
    pub last : Entry K
    pub older : List (Entry K)
    pub was : s.entries ≡ newer ++ last ∷ older
    pub unused : AllByRecursion (λ e. e.frame < s.frame) (last ∷ older)
    pub least : (other : ℕ) → HasNoRoomWithout asked s.pages other (ids_on other older)
    pub room : IsRoomWithout asked s.pages page (ids_on page (last ∷ older)) box
    pub clears : ClearsBox page box cs s t
    pub left : t.entries ≡ newer ++ without_inside page box (last ∷ older)

  -- By such changes there is room on this page, and each other page is as it was.
  pub record MakesRoom (asked : Size) (page : ℕ) (before after : List (CacheChange K)) (s t : CacheState K) : Type 0 where
    pub made : List (CacheChange K)
    pub listed : after ≡ before ++ made
    pub vacates : Vacates asked made s t
    pub there : page < length t.pages
    pub room : HasRoomOn asked t.pages page
    pub others : KeepsPages s.pages t.pages page
    pub full : IsFull t
    pub slots : UseAtMost 0 s.pages t.pages

  -- Nothing more goes, or what lies in one box.
  abbrev pub MayVacate : (asked : Size) → List (CacheChange K) → (s t : CacheState K) → Type 0
  MayVacate asked cs s t = ((cs ≡ []) × (s ≡ t)) ⊎ Vacates asked cs s t

  -- A new entry of this key and size, used in this frame, is on the first page that has room for what was asked, where a step of the
  -- page's atlas places it.
  pub record GetsPlace (asked : Size) (key : K) (size : Size) (frame : ℕ) (old new : List AtlasValue)
      (entry : Entry K) : Type 0 where
    pub named : entry.key ≡ key
    pub sized : entry.size ≡ size
    pub used : entry.frame ≡ frame
    pub large : IsAtLeast asked entry.rectangle
    pub lowest : NoneHasRoomBelow asked old entry.page
    pub step : GrantsOn asked old new entry.page (record { id = entry.id; rectangle = entry.rectangle })
    pub adds : AddsBoxOn old new entry.page entry.id entry.rectangle

  -- A key is added, the most recently used from now on. Its number is one that was given out before, or, if all of those
  -- are in use, the next one. If entries are in reserve, it is one of them. It takes at most 4 slots of its page.
  pub record Adds (asked : Size) (key : K) (size : Size) (place : Place) (s t : CacheState K) : Type 0 where
    pub entry : Entry K
    pub first : t.entries ≡ entry ∷ s.entries
    pub placed : GetsPlace asked key size s.frame s.pages t.pages entry
    pub sides : IsRounded s.options asked entry.rectangle
    pub slots : UseAtMost 4 s.pages t.pages
    pub shows : place ≡ shown s.options.padding entry
    pub next : entry.number ≤ s.numbers
    pub dense : entry.number ≡ s.numbers → length s.entries ≡ s.numbers
    pub numbers : t.numbers ≡ max s.numbers (entry.number + 1)
    pub reserved : t.reserved ≡ s.reserved - 1
    pub sizes : page_sizes t.pages ≡ page_sizes s.pages
    pub options : t.options ≡ s.options
    pub frame : t.frame ≡ s.frame
    pub counts : t.counts ≡ s.counts

  -- A key of an empty size is added, the most recently used from now on: a blank entry. Its number is that of any new
  -- entry. The pages stay as they are.
  pub record AddsBlank (key : K) (size : Size) (place : Place) (s t : CacheState K) : Type 0 where
    pub entry : Entry K
    pub first : t.entries ≡ entry ∷ s.entries
    pub blank : is_blank entry ≡ true
    pub named : entry.key ≡ key
    pub sized : entry.size ≡ size
    pub used : entry.frame ≡ s.frame
    pub shows : place ≡ shown s.options.padding entry
    pub next : entry.number ≤ s.numbers
    pub dense : entry.number ≡ s.numbers → length s.entries ≡ s.numbers
    pub numbers : t.numbers ≡ max s.numbers (entry.number + 1)
    pub reserved : t.reserved ≡ s.reserved - 1
    pub pages : t.pages ≡ s.pages
    pub options : t.options ≡ s.options
    pub frame : t.frame ≡ s.frame
    pub counts : t.counts ≡ s.counts

  -- Nothing that a caller can see changed. At most 4 slots of a page are used, so that what is in reserve beside them is left.
  pub record LooksSame (s t : CacheState K) : Type 0 where
    pub same : HasSameRectangles s.pages t.pages
    pub slots : UseAtMost 4 s.pages t.pages
    pub sizes : page_sizes t.pages ≡ page_sizes s.pages
    pub keeps : KeepsEntries s t

  -- Every page is there and at its largest, and the request has room on none, nor would it have, were all entries gone that this frame
  -- didn't use.
  pub record IsExhausted (asked : Size) (s : CacheState K) : Type 0 where
    pub none : HasNoPageFor asked s
    pub full : IsFull s
    pub crowded : (page : ℕ) → HasNoRoomWithout asked s.pages page (idle_on s.frame page s.entries)

  -- How an insert ends, once its changes are made: the key is added, or nothing can be done, or it is refused.
  abbrev pub Ends : (asked : Size) (key : K) (size : Size) → Result Inserted CacheError → (s t : CacheState K) → Type 0
  Ends asked key size (Ok (Placed place)) s t = Adds asked key size place s t
  Ends asked key size (Ok (Held place)) s t = ⊥
  Ends asked key size (Ok FrameFull) s t = (s ≡ t) × IsExhausted asked s
  Ends asked key size (Ok NeverFits) s t = ⊥
  Ends asked key size (Err error) s t = LooksSame s t

  -- What an insert of a new key did, but for the count of forced evictions: it made changes in the order of use, perhaps some in one box,
  -- listed in their order, and then it ended so.
  pub record InsertsUncounted (asked : Size) (key : K) (size : Size) (result : Result Inserted CacheError)
      (before after : List (CacheChange K)) (s t : CacheState K) : Type 0 where
    pub made : List (CacheChange K)
    pub more : List (CacheChange K)
    pub listed : after ≡ before ++ (made ++ more)
    pub so_far : CacheState K
    pub leads : Leads asked made s so_far
    pub done : CacheState K
    pub vacates : MayVacate asked more so_far done
    pub ends : Ends asked key size result done t

  -- The count of forced evictions after an insertion: all that it evicted, if before it some page had the area that was asked for.
  abbrev pub forced_after : (asked : Size) → (s t : CacheState K) → ℕ
  forced_after asked s t =
      if list_any (has_area asked) s.pages
      then min (s.counts.forced + (t.counts.evictions - s.counts.evictions)) 18446744073709551615
      else s.counts.forced

  -- Another state, with the count of forced evictions of this one.
  abbrev pub but_forced : (s t : CacheState K) → CacheState K
  but_forced s t = record t { counts = record t.counts { forced = s.counts.forced } }

  -- The same, with that count.
  pub record Inserts (asked : Size) (key : K) (size : Size) (result : Result Inserted CacheError)
      (before after : List (CacheChange K)) (s t : CacheState K) : Type 0 where
    pub does : InsertsUncounted asked key size result before after s (but_forced s t)
    pub forced : t.counts.forced ≡ forced_after asked s t

  -- How it ended, where entries of one box went last, or nothing more could be done.
  pub record InsertsThere (asked : Size) (key : K) (size : Size) (result : Result Inserted CacheError)
      (before after : List (CacheChange K)) (s t : CacheState K) : Type 0 where
    pub more : List (CacheChange K)
    pub listed : after ≡ before ++ more
    pub done : CacheState K
    pub vacates : MayVacate asked more s done
    pub ends : Ends asked key size result done t

  -- What an insert of a new key with an empty size does: the key is added, or it is refused, and then nothing changes.
  abbrev pub InsertsBlank : (key : K) (size : Size) → Result Inserted CacheError → (s t : CacheState K) → Type 0
  InsertsBlank key size (Ok (Placed place)) s t = AddsBlank key size place s t
  InsertsBlank key size (Ok (Held place)) s t = ⊥
  InsertsBlank key size (Ok FrameFull) s t = ⊥
  InsertsBlank key size (Ok NeverFits) s t = ⊥
  InsertsBlank key size (Err error) s t = (t ≡ s) × IsWithoutNumber (length s.entries) error

  -- An entry is used in this frame, and is the most recently used from now on; the others keep their order.
  pub record Uses (entry : Entry K) (s t : CacheState K) : Type 0 where
    pub newer : List (Entry K)
    pub older : List (Entry K)
    pub was : s.entries ≡ newer ++ entry ∷ older
    pub is : t.entries ≡ record entry { frame = s.frame } ∷ (newer ++ older)
    pub pages : t.pages ≡ s.pages
    pub numbers : t.numbers ≡ s.numbers
    pub reserved : t.reserved ≡ s.reserved
    pub options : t.options ≡ s.options
    pub frame : t.frame ≡ s.frame

  -- The key isn't held, and the size is empty.
  pub record IsNewAndEmpty (eq : K → K → Bool) (key : K) (size : Size) (s : CacheState K) : Type 0 where
    pub absent : entry_for eq key s.entries ≡ None
    pub empty : IsPositive (sides_of size) → ⊥

  -- The key isn't held, and not even an empty page of the largest size has room for the size, which isn't empty.
  pub record IsNewAndTooLarge (eq : K → K → Bool) (key : K) (size : Size) (s : CacheState K) : Type 0 where
    pub absent : entry_for eq key s.entries ≡ None
    pub positive : IsPositive (sides_of size)
    pub large : CanStand s.options size → ⊥

  -- What an insert of a key does that is held: it is used, which counts as a hit, or nothing happens if it has another size.
  pub record FindsKnown (entry : Entry K) (size : Size) (result : Result Inserted CacheError)
      (s t : CacheState K) : Type 0 where
    pub same : entry.size ≡ size → (result ≡ Ok (Held (shown s.options.padding entry))) × Uses entry s t
        × (t.counts ≡ record s.counts { hits = one_more s.counts.hits })
    pub other : entry.size ≢ size → (result ≡ Err OtherSize) × (t ≡ s)

  -- An entry is gone, with its rectangle if it lies on a page; the others keep their order.
  pub record Removes (entry : Entry K) (s t : CacheState K) : Type 0 where
    pub newer : List (Entry K)
    pub older : List (Entry K)
    pub was : s.entries ≡ newer ++ entry ∷ older
    pub is : t.entries ≡ newer ++ older
    pub leaves : LeavesNoBoxOn s.pages t.pages entry.page entry.id
    pub numbers : t.numbers ≡ s.numbers
    pub reserved : t.reserved ≡ s.reserved
    pub sizes : page_sizes t.pages ≡ page_sizes s.pages
    pub slots : UseAtMost 0 s.pages t.pages
    pub options : t.options ≡ s.options
    pub frame : t.frame ≡ s.frame
    pub counts : t.counts ≡ s.counts
