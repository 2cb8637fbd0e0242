-- The checksum of answers.
use Rattle.std.specs.Prelude.{ℕ, ◌+◌, ◌*◌, ◌%◌, ◌^◌, bit_xor, List, fold}
use Rattle.std.specs.Int.{w32, cast_unsigned}
use Rattle.atlas_cache.specs.declared.places.Place.{Place}
use Rattle.guillotiere.specs.declared.Allocation.{Allocation}
use Rattle.guillotiere.specs.declared.Change.{Change}
use Rattle.guillotiere.specs.declared.Point.{Point}
use Rattle.guillotiere.specs.declared.Rectangle.{Rectangle}

-- A checksum after one more word: FNV-1a, by words of 64 bits.
abbrev pub with_word : (checksum word : ℕ) → ℕ
with_word checksum word = bit_xor checksum word * 0x100000001b3 % 2 ^ 64

-- A point as a word.
abbrev pub point_word : Point → ℕ
point_word p = cast_unsigned w32 p.x * 2 ^ 32 + cast_unsigned w32 p.y

-- A checksum after a box that has no id.
abbrev pub with_box : (checksum : ℕ) → Rectangle → ℕ
with_box checksum r = with_word (with_word checksum (point_word r.min)) (point_word r.max)

-- A checksum after a granted box.
abbrev pub with_grant : (checksum : ℕ) → Allocation → ℕ
with_grant checksum a = with_box (with_word checksum a.id) a.rectangle

-- A checksum after what a box was and what it became.
abbrev pub with_moved : (checksum : ℕ) → Change → ℕ
with_moved checksum c = with_grant (with_grant checksum c.old) c.new

-- A checksum after both lists of a rearranging.
abbrev pub with_list : (checksum : ℕ) → List Change → List Allocation → ℕ
with_list checksum changes failures = fold with_grant (fold with_moved checksum changes) failures

-- A checksum after the place of a key.
abbrev pub with_place : (checksum : ℕ) → Place → ℕ
with_place checksum p = with_box (with_word checksum p.page) p.rectangle

-- A checksum after a key that was evicted.
abbrev pub with_evicted : (checksum key : ℕ) → ℕ
with_evicted checksum key = with_word checksum (2 ^ 32 + key)
