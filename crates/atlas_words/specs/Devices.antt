-- What a read or a write does to the bytes that a device tells, and when a device has failed.
use Rattle.std.specs.Prelude.{◌≡◌, ℕ, ◌≤◌, ◌<◌, List, ◌++◌, length, take, ⊤, Option, Some, None, Bool, true, ◌||◌, ◌&&◌}
use Rattle.std.specs.Prelude.{◌==◌, nat_lt}
use Rattle.std.specs.Io.KnownBytes.{Appends, Consumes, IsAtEnd}

-- Known bytes stay as they were, or are told no more.
abbrev pub KeepsOrHides : Option (List ℕ) → Option (List ℕ) → Type 0
KeepsOrHides None new = ⊤
KeepsOrHides (Some xs) None = ⊤
KeepsOrHides (Some xs) (Some ys) = ys ≡ xs

-- A read gave its first n bytes, none of them only at the end or with no room, or failed and gave none.
abbrev pub Reads : Option (List ℕ) → Option (List ℕ) → Option ℕ → List ℕ → Type 0
Reads old new None buffer = KeepsOrHides old new
Reads old new (Some n) buffer =
    (n ≤ length buffer) × Consumes old new (take n buffer) × (n ≡ 0 → 0 < length buffer → IsAtEnd new)

-- Known bytes grow by those that a write took; where it failed they stay, or are told no more.
abbrev pub Writes : Option (List ℕ) → Option (List ℕ) → Option ℕ → List ℕ → Type 0
Writes old new None bytes = KeepsOrHides old new
Writes old new (Some n) bytes =
    (n ≤ length bytes) × (0 < n → Appends old new (take n bytes)) × (n ≡ 0 → KeepsOrHides old new)

-- A read fails at `None`.
abbrev pub has_failed_read : Bool → Option ℕ → Bool
has_failed_read before None = true
has_failed_read before (Some n) = before

-- A write fails at `None`, and where it takes none of some bytes.
abbrev pub has_failed_write : Bool → Option ℕ → List ℕ → Bool
has_failed_write before None bytes = true
has_failed_write before (Some n) bytes = before || ((n == 0) && nat_lt 0 (length bytes))

-- Some first bytes were written, as far as the device tells.
abbrev pub WritesBeginning : Option (List ℕ) → Option (List ℕ) → List ℕ → Type 0
WritesBeginning old None bytes = ⊤
WritesBeginning old (Some ys) bytes =
    (first : List ℕ) × (rest : List ℕ) × (bytes ≡ first ++ rest) × Appends old (Some ys) first

-- These bytes were read, as far as the device tells after a failure.
abbrev pub ReadsBeginning : Option (List ℕ) → Option (List ℕ) → List ℕ → Type 0
ReadsBeginning None new bytes = ⊤
ReadsBeginning (Some xs) None bytes = (rest : List ℕ) × (xs ≡ bytes ++ rest)
ReadsBeginning (Some xs) (Some ys) bytes = xs ≡ bytes ++ ys

-- The bytes that a device will give are these, if it tells them.
abbrev pub HoldsBytes : Option (List ℕ) → List ℕ → Type 0
HoldsBytes None bytes = ⊤
HoldsBytes (Some xs) bytes = xs ≡ bytes
