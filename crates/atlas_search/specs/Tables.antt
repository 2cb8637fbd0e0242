-- The heads of the lists of free slots. No public clause cites this module.
use Rattle.std.specs.Prelude.{ℕ, ◌≡◌, ◌≢◌, ◌+◌, ◌*◌, ◌<◌, ◌⊎◌, ◌==◌, ◌||◌, Bool, true, false, not}
use Rattle.std.specs.Prelude.{List, [], ◌∷◌, length, replicate, slice_index_or, slice_set}
use Rattle.atlas_search.specs.declared.link.Link.{Link}
use Rattle.atlas_search.specs.declared.masks.Mask.{Mask}
use Rattle.atlas_search.specs.Numbers.{no_slot}
use Rattle.atlas_search.specs.Masks.{is_marked_at}

-- The link to no slot.
abbrev pub no_link : Link
no_link = record { number = no_slot }

-- The first slot of list k, or none.
unfoldable pub head_of : List Link → ℕ → Link
head_of heads k = slice_index_or heads k no_link

-- Whether there is a slot in list k.
abbrev pub is_used_at : List Link → ℕ → Bool
is_used_at heads k = not ((head_of heads k).number == no_slot)

-- What contracts see of a table: the first slot of each list, and whether there is room for all slots, not only for the first few.
pub record Lists : Type 0 where
  pub heads : List Link
  pub is_grown : Bool

-- Whether heads are stored.
abbrev pub is_stored : List Link → Bool
is_stored [] = false
is_stored (h ∷ hs) = true

-- The heads of all lists where slot i is the first of the first of these lists, the next slot of the next one, and so on. A number
-- past all lists is none.
abbrev pub heads_from : (only : List ℕ) → (i : ℕ) → List Link
heads_from [] i = replicate 2704 no_link
heads_from (k ∷ ks) i = slice_set (heads_from ks (i + 1)) k (record { number = i })

-- The heads that are stored, or where none are, those of the few slots.
abbrev pub heads_in : (stored : List Link) → (only : List ℕ) → List Link
heads_in [] only = heads_from only 0
heads_in (h ∷ hs) only = h ∷ hs

-- List k can begin with this link where no heads are stored: it is one of the first eight slots, and comes first in no other list,
-- or it is none.
abbrev pub CanHold : (heads : List Link) → (k : ℕ) → (first : Link) → Type 0
CanHold heads k first =
    (first.number ≡ no_slot) ⊎ ((first.number < 8) × ((j : ℕ) → j < 2704 → j ≢ k → head_of heads j ≢ first))

-- There is a head for each list; marked are the lists with a slot, and the one that was emptied last.
pub record IsTable (heads : List Link) (rows : List Mask) (emptied : ℕ) : Type 0 where
  pub count : length heads ≡ 2704
  pub marked : (i j : ℕ) → i < 52 → j < 52
      → is_marked_at rows i j ≡ (is_used_at heads (52 * i + j) || (52 * i + j == emptied))

-- Marks are stored with heads, or neither are.
abbrev pub AreStored : (stored : List Link) → (marks : List (List Mask)) → (emptied : ℕ) → Type 0
AreStored [] [] emptied = Unit {0}
AreStored [] (m ∷ ms) emptied = ⊥
AreStored (h ∷ hs) [] emptied = ⊥
AreStored (h ∷ hs) (m ∷ ms) emptied = (ms ≡ []) × IsTable (h ∷ hs) m emptied
