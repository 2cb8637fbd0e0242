-- Sets of numbers below 64, a bit for each, and the marks of rows and columns. No public clause cites this module.
use Rattle.std.specs.Prelude.{ℕ, ◌≡◌, ◌<◌, ◌==◌, ◌&&◌, Bool, true, List, length, nat_lt, slice_index_or}
use Rattle.std.specs.Int.{bit_at}
use Rattle.atlas_search.specs.declared.masks.Mask.{Mask}

-- Whether a number stands in the set.
unfoldable pub has : Mask → ℕ → Bool
has m k = bit_at m.bits k == 1

abbrev pub IsMarked : Mask → ℕ → Type 0
IsMarked m k = has m k ≡ true

-- The numbers of a set below one.
abbrev pub KeepsBelow : (all below : Mask) → ℕ → Type 0
KeepsBelow all below k = (j : ℕ) → has below j ≡ (has all j && nat_lt j k)

abbrev pub mask_at : List Mask → ℕ → Mask
mask_at masks i = slice_index_or masks i (record { bits = 0 })

-- Whether a column is marked in a row.
abbrev pub is_marked_at : List Mask → (row column : ℕ) → Bool
is_marked_at rows row column = has (mask_at rows row) column

-- `rows` says which columns are marked in each row, `columns` says the same the other way round, and `any` are the rows
-- with a mark.
pub record AreMarks (rows columns : List Mask) (any : Mask) : Type 0 where
  pub row_count : length rows ≡ 52
  pub column_count : length columns ≡ 52
  pub inside : (i j : ℕ) → is_marked_at rows i j ≡ true → (i < 52) × (j < 52)
  pub same : (i j : ℕ) → is_marked_at columns j i ≡ is_marked_at rows i j
  pub used : (i j : ℕ) → is_marked_at rows i j ≡ true → IsMarked any i
  pub used_only : (i : ℕ) → IsMarked any i → (j : ℕ) × (is_marked_at rows i j ≡ true)
