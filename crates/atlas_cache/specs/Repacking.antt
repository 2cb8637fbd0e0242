-- What a repacking does to a page, and the areas of pages.
use Rattle.std.specs.Prelude.{◌≡◌, ◌≢◌, ◌==◌, ◌<◌, ◌≤◌, ◌++◌, [], ℕ, All, IsPermutation, List, length, map, filter, Option, Some, find}
use Rattle.std.specs.Prelude.{option_map}
use Rattle.std.specs.Prelude.{count_by, slice_get, slice_set}
use Rattle.std.specs.List.{AllAdjacentBelow}
use Rattle.guillotiere.specs.declared.Allocation.{Allocation}
use Rattle.guillotiere.specs.declared.Change.{Change}
use Rattle.guillotiere.specs.declared.ChangeList.{ChangeList}
use Rattle.guillotiere.specs.declared.Rectangle.{Rectangle}
use Rattle.guillotiere.specs.Boxes.{area}
use Rattle.guillotiere.specs.Pages.{rectangle_on, KeepsPages}
use Rattle.guillotiere.specs.Pixels.{box_of}
use Rattle.guillotiere.specs.Rearranging.{transfer_of, IsExactChange, KeepsSides}
use Rattle.guillotiere.specs.Replies.{grant_of}
use Rattle.guillotiere.specs.Changes.{fresh}
use Rattle.guillotiere.specs.Refits.{Refits}
use Rattle.guillotiere.specs.States.{after_refit}
use Rattle.guillotiere.specs.Stored.{AtlasValue, state_of}
use Rattle.guillotiere.specs.Trees.{Tree}
use Rattle.atlas_cache.specs.Rooms.{live_area, open_area}

-- The rectangle of an id among allocations.
abbrev pub rectangle_among : List Allocation → ℕ → Option Rectangle
rectangle_among held id = option_map (λ a. a.rectangle) (find (λ a. a.id == id) held)

-- The former places of what moved, and what found no room.
abbrev pub told_before : {A : Type 0} → ChangeList A → List Allocation
told_before list = map (λ c. c.old) list.changes.items ++ list.failures.items

-- The new places of what moved.
abbrev pub told_after : {A : Type 0} → ChangeList A → List Allocation
told_after list = map (λ c. c.new) list.changes.items

-- No id stands twice.
abbrev pub AreOfOwnIds : List Allocation → Type 0
AreOfOwnIds held = (id : ℕ) → count_by (λ a. a.id == id) held ≤ 1

-- Whatever had a rectangle is told once, as moved or as a failure; what has one now is what moved, with its sides; and
-- what is told has the coordinates of boxes.
pub record TellsMoves {A : Type 0} (list : ChangeList A) (had has : ℕ → Option Rectangle) : Type 0 where
  pub before : (id : ℕ) → had id ≡ rectangle_among (told_before list) id
  pub after : (id : ℕ) → has id ≡ rectangle_among (told_after list) id
  pub once_before : AreOfOwnIds (told_before list)
  pub once_after : AreOfOwnIds (told_after list)
  pub sides : All KeepsSides list.changes.items
  pub exact : All IsExactChange list.changes.items

-- The rectangles of one page are placed anew or given up, and every other page stays.
pub record RepacksPage {A : Type 0} (old new : List AtlasValue) (page : ℕ) (list : ChangeList A) : Type 0 where
  pub tells : TellsMoves list (rectangle_on old page) (rectangle_on new page)
  pub others : KeepsPages old new page

-- The allocations name what is live on a page, each once.
pub record NamesPage (pages : List AtlasValue) (page : ℕ) (held : List Allocation) : Type 0 where
  pub told : (id : ℕ) → rectangle_on pages page id ≡ rectangle_among held id
  pub once : AreOfOwnIds held

-- How many pixels an allocation has.
abbrev pub area_held : Allocation → ℕ
area_held a = area (box_of a.rectangle)

-- The order in which allocations are placed: the largest first, and those of one area as they stand in `held`.
pub record IsLargestFirst (held order : List Allocation) : Type 0 where
  pub permuted : IsPermutation held order
  pub falling : AllAdjacentBelow (λ a b. area_held b ≤ area_held a) order (length order)
  pub ties : (n : ℕ) → filter (λ a. area_held a == n) order ≡ filter (λ a. area_held a == n) held

-- The atlas of a page is made anew: in an empty one of its size the rectangles of `order` are placed, one after another,
-- each where a request of its sides is placed then; only what had no room when its turn came is given up.
abbrev pub PlacesInOrder : (old new : List AtlasValue) → (page : ℕ) → (order : List Allocation) → (moved : List Change)
    → (given_up : List Allocation) → Type 0
PlacesInOrder old new page order moved given_up =
    (s t : AtlasValue) → slice_get old page ≡ Some s → slice_get new page ≡ Some t
    → (tree : Tree) × Refits (state_of s).size (state_of s).options (state_of s).limit (fresh (state_of s).size)
    (map grant_of order) (record { changes = map transfer_of moved; failures = map grant_of given_up }) tree
    × (state_of t ≡ after_refit (state_of s) (state_of s).size tree)

-- The same, the largest first, and those of one area as they stand in `held`.
pub record PlacesAnew (old new : List AtlasValue) (page : ℕ) (held : List Allocation) (moved : List Change)
    (given_up : List Allocation) : Type 0 where
  pub order : List Allocation
  pub ordered : IsLargestFirst held order
  pub placed : PlacesInOrder old new page order moved given_up

-- Placed anew in this way, something would find no room when its turn came.
pub record LosesSome (pages : List AtlasValue) (page : ℕ) (held : List Allocation) : Type 0 where
  pub within : page < length pages
  pub anew : AtlasValue
  pub moved : List Change
  pub given_up : List Allocation
  pub placed : PlacesAnew pages (slice_set pages page anew) page held moved given_up
  pub some : given_up ≢ []

-- The area of what is live on each page, in unit squares.
abbrev pub live_by_page : List AtlasValue → List ℕ
live_by_page pages = map live_area pages

-- The area of what is free on each page.
abbrev pub free_by_page : List AtlasValue → List ℕ
free_by_page pages = map open_area pages
