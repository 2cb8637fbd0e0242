-- What an array of the caller's has once a list was written into it.
use Rattle.std.specs.Prelude.{ℕ, ◌≡◌, ◌<◌, ◌≤◌, List, length, min, slice_get, option_map, IfSome}

-- The first `count` elements of the array are those of the list, and all others are as before. `read` says what an
-- element of the array means.
pub record IsWrittenTo {A B : Type 0} (read : A → B) (count : ℕ) (list : List B) (old new : List A) : Type 0 where
  pub written : (k : ℕ) → k < count → option_map read (slice_get new k) ≡ slice_get list k
  pub rest : (k : ℕ) → count ≤ k → slice_get new k ≡ slice_get old k

-- The list stands at the start of the array, as far as there is room.
abbrev pub IsWritten : {A B : Type 0} → (read : A → B) → List B → (old new : List A) → Type 0
IsWritten read list old new = IsWrittenTo read (min (length list) (length old)) list old new

-- Each of the first `count` elements of an array is such a one.
abbrev pub AreFirst : {A : Type 0} → (A → Type 0) → (count : ℕ) → List A → Type 0
AreFirst P count array = (k : ℕ) → k < count → IfSome (slice_get array k) P
