-- Entries of the last page that move to pages before it.
use Rattle.std.specs.Prelude.{◌≡◌, ◌⊎◌, ◌-◌, ◌<◌, ◌≤◌, ℕ, ℤ, List, [], ◌∷◌, ◌++◌, length, map, sum_by, Result, Some, IfOk}
use Rattle.std.specs.List.{AllByRecursion}
use Rattle.guillotiere.specs.declared.Size.{Size}
use Rattle.guillotiere.specs.Boxes.{area, box_sides}
use Rattle.guillotiere.specs.Pages.{page_sizes, AddsBoxOn, LeavesNoBoxOn, NoneHasRoomBelow}
use Rattle.guillotiere.specs.Pixels.{box_of, size_of}
use Rattle.guillotiere.specs.Stored.{AtlasValue}
use Rattle.atlas_cache.specs.declared.changes.CacheChange.{CacheChange}
use Rattle.atlas_cache.specs.declared.changes.CacheChange.TheVariants.{Moved}
use Rattle.atlas_entries.specs.declared.entries.Entry.{Entry}
use Rattle.atlas_entries.specs.declared.error.CacheError.{CacheError}
use Rattle.atlas_cache.specs.Caches.{entries_of, shown, CacheState}
use Rattle.atlas_entries.specs.Entries.{entry_at, moved as with_place, Table}
use Rattle.atlas_cache.specs.Placing.{FreesOn, GrantsOn}
use Rattle.atlas_cache.specs.Relocating.{keys_of}
use Rattle.atlas_cache.specs.Reserving.{UseAtMost}
use Rattle.atlas_cache.specs.Rooms.{RoomsState}

-- The number of the last page.
abbrev pub last_page : List AtlasValue → ℕ
last_page pages = length pages - 1

module _ {K : Type 0} where
  -- How many pixels an entry takes of its page, with its padding.
  abbrev pub pixels_of : Entry K → ℕ
  pixels_of e = area (box_of e.rectangle)

  -- The sides of what it takes.
  abbrev pub size_on_page : Entry K → Size
  size_on_page e = size_of (box_sides (box_of e.rectangle))

  -- An entry of the last page moves to the first page that has room for it, one before the last: a step of that page's atlas grants it,
  -- with its sides, and its rectangle on the last page is freed. The order stays, and so do all other entries.
  pub record MovesAhead (last : ℕ) (entry moved : Entry K) (pages left : List AtlasValue) (es others : List (Entry K)) : Type 0 where
    pub newer : List (Entry K)
    pub older : List (Entry K)
    pub was : es ≡ newer ++ entry ∷ older
    pub is : others ≡ newer ++ moved ∷ older
    pub same : moved ≡ record entry { page = moved.page; id = moved.id; rectangle = moved.rectangle }
    pub sides : box_sides (box_of moved.rectangle) ≡ box_sides (box_of entry.rectangle)
    pub here : entry.page ≡ last
    pub before : moved.page < last
    pub first : NoneHasRoomBelow (size_on_page entry) pages moved.page
    pub granted : List AtlasValue
    pub grants : GrantsOn (size_on_page entry) pages granted moved.page (record { id = moved.id; rectangle = moved.rectangle })
    pub adds : AddsBoxOn pages granted moved.page moved.id moved.rectangle
    pub frees : FreesOn granted left last entry.id
    pub leaves : LeavesNoBoxOn granted left last entry.id
    pub sizes : page_sizes left ≡ page_sizes pages
    pub slots : UseAtMost 4 pages left

  -- Entries move so, one after another: each as it was, and as it is.
  abbrev pub MoveAhead : (last : ℕ) → (moves : List (Entry K × Entry K)) → (pages left : List AtlasValue)
      → (es others : List (Entry K)) → Type 0
  MoveAhead last [] pages left es others = (pages ≡ left) × (es ≡ others)
  MoveAhead last (m ∷ ms) pages left es others =
      (mid : List AtlasValue) × (next : List (Entry K)) × MovesAhead last m.0 m.1 pages mid es next
      × MoveAhead last ms mid left next others

  -- Entries of a list, in its order.
  abbrev pub AreInOrder : List (Entry K) → List (Entry K) → Type 0
  AreInOrder [] es = Unit {0}
  AreInOrder (x ∷ xs) es =
      (newer : List (Entry K)) × (older : List (Entry K)) × (es ≡ newer ++ x ∷ older) × AreInOrder xs older

  -- Those that moved, as they were.
  abbrev pub movers : List (Entry K × Entry K) → List (Entry K)
  movers moves = map (λ m. m.0) moves

  -- How many pixels of the last page they take.
  abbrev pub pixels_moved : List (Entry K × Entry K) → ℕ
  pixels_moved moves = sum_by (λ m. pixels_of m.0) moves

  -- What is told of a move.
  abbrev pub told_move : (padding : ℤ) → Entry K × Entry K → CacheChange K
  told_move padding m = Moved m.0.key (shown padding m.0) (shown padding m.1)

  -- If an entry lies on the last page, it takes more than so many pixels, or no page before has room for it.
  abbrev pub HasToStay : (last left : ℕ) → List AtlasValue → Entry K → Type 0
  HasToStay last left pages e =
      e.page ≡ last → (left < pixels_of e) ⊎ NoneHasRoomBelow (size_on_page e) pages last

  -- The entry of a number moves ahead, by the parts of a cache, from no more pixels than may move, and the change that says so is listed.
  pub record GoesAhead (last number left given : ℕ) (before after : List (CacheChange K)) (rooms rest : RoomsState)
      (entries others : Table K) : Type 0 where
    pub entry : Entry K
    pub moved : Entry K
    pub at : entry_at number entries.entries ≡ Some entry
    pub is : others.entries ≡ with_place number moved.page moved.id moved.rectangle entries.entries
    pub moves : MovesAhead last entry moved rooms.pages rest.pages (entries_of entries.entries) (entries_of others.entries)
    pub pixels : given ≡ pixels_of entry
    pub within : given ≤ left
    pub listed : after ≡ before ++ told_move rooms.options.padding (entry, moved) ∷ []
    pub options : rest.options ≡ rooms.options
    pub made : others.made ≡ entries.made
    pub reserved : others.reserved ≡ entries.reserved

  -- It has to stay, and nothing changes.
  pub record StaysThere (last number left given : ℕ) (before after : List (CacheChange K)) (rooms rest : RoomsState)
      (entries others : Table K) : Type 0 where
    pub none : given ≡ 0
    pub stays : (e : Entry K) → entry_at number entries.entries ≡ Some e → HasToStay last left rooms.pages e
    pub same_rooms : rest ≡ rooms
    pub same_entries : others ≡ entries
    pub listed : after ≡ before

  -- Either of both.
  abbrev pub Visits : (last number left given : ℕ) → (before after : List (CacheChange K)) → (rooms rest : RoomsState)
      → (entries others : Table K) → Type 0
  Visits last number left given before after rooms rest entries others =
      GoesAhead last number left given before after rooms rest entries others
      ⊎ StaysThere last number left given before after rooms rest entries others

  -- Entries move ahead, by the parts of a cache, from so many pixels at most. At the end each of the last page has to stay.
  pub record MovesSome (last pixels : ℕ) (result : Result ℕ CacheError) (before after : List (CacheChange K)) (rooms rest : RoomsState)
      (entries others : Table K) : Type 0 where
    pub moves : List (Entry K × Entry K)
    pub chain : MoveAhead last moves rooms.pages rest.pages (entries_of entries.entries) (entries_of others.entries)
    pub order : AreInOrder (movers moves) (entries_of entries.entries)
    pub within : pixels_moved moves ≤ pixels
    pub gives : IfOk result (λ moved. moved ≡ pixels_moved moves)
    pub stay : IfOk result (λ moved. AllByRecursion (HasToStay last (pixels - moved) rest.pages) (entries_of others.entries))
    pub listed : after ≡ before ++ map (told_move rooms.options.padding) moves
    pub options : rest.options ≡ rooms.options
    pub made : others.made ≡ entries.made
    pub reserved : others.reserved ≡ entries.reserved

  -- Entries of the last page move to pages before it, one after another in the order of use, from so many pixels together as is answered,
  -- and no more than may move. At the end each entry that lies on the last page takes more pixels than are left, or no page before has
  -- room for it. Keys, the order of use, numbers and all else stay.
  pub record Compacts (pixels : ℕ) (result : Result ℕ CacheError) (before after : List (CacheChange K)) (s t : CacheState K) :
      Type 0 where
    pub moves : List (Entry K × Entry K)
    pub chain : MoveAhead (last_page s.pages) moves s.pages t.pages s.entries t.entries
    pub order : AreInOrder (movers moves) s.entries
    pub within : pixels_moved moves ≤ pixels
    pub gives : IfOk result (λ moved. moved ≡ pixels_moved moves)
    pub stay : IfOk result (λ moved. AllByRecursion (HasToStay (last_page t.pages) (pixels - moved) t.pages) t.entries)
    pub listed : after ≡ before ++ map (told_move s.options.padding) moves
    pub keys : keys_of t.entries ≡ keys_of s.entries
    pub sizes : page_sizes t.pages ≡ page_sizes s.pages
    pub numbers : t.numbers ≡ s.numbers
    pub reserved : t.reserved ≡ s.reserved
    pub options : t.options ≡ s.options
    pub frame : t.frame ≡ s.frame
    pub counts : t.counts ≡ s.counts
