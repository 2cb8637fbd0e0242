-- Names in quotation marks: strings of JSON (RFC 8259, section 7) whose escapes are `\"`, `\\`, `\/` and `\u`.
use Rattle.std.specs.Prelude.{◌≡◌, ◌≢◌, ℕ, ◌+◌, ◌-◌, ◌*◌, ◌<◌, ◌≤◌, ◌⊎◌, List, [], ◌∷◌, flat_map}
use Rattle.std.specs.Char.{digit_value, encode_utf8}
use Rattle.atlas_pack.specs.declared.quoted.Piece.{Piece}
use Rattle.atlas_pack.specs.declared.quoted.Piece.TheVariants as piece

-- A hexadecimal digit, and what follows it.
pub record BeginsWithDigit (text : List ℕ) (digit : ℕ) (rest : List ℕ) : Type 0 where
  pub byte : ℕ
  pub whole : text ≡ byte ∷ rest
  pub value : digit ≡ digit_value byte
  pub small : digit < 16

-- Four hexadecimal digits, the number that they write, and what follows them.
pub record BeginsWithUnit (text : List ℕ) (unit : ℕ) (rest : List ℕ) : Type 0 where
  pub a : ℕ
  pub b : ℕ
  pub c : ℕ
  pub d : ℕ
  pub after_a : List ℕ
  pub after_b : List ℕ
  pub after_c : List ℕ
  pub first : BeginsWithDigit text a after_a
  pub second : BeginsWithDigit after_a b after_b
  pub third : BeginsWithDigit after_b c after_c
  pub fourth : BeginsWithDigit after_c d rest
  pub value : unit ≡ a * 4096 + b * 256 + c * 16 + d

-- A character that four digits write: no half of a pair.
abbrev pub IsAlone : (code : ℕ) → (text rest : List ℕ) → Type 0
IsAlone code text rest = BeginsWithUnit text code rest × ((code < 0xd800) ⊎ (0xe000 ≤ code))

-- The second half of a character, and what follows it.
pub record EndsPair (high code : ℕ) (text rest : List ℕ) : Type 0 where
  pub after : List ℕ
  pub low : ℕ
  pub whole : text ≡ 92 ∷ 117 ∷ after
  pub digits : BeginsWithUnit after low rest
  pub least : 0xdc00 ≤ low
  pub greatest : low < 0xe000
  pub value : code ≡ 0x10000 + (high - 0xd800) * 0x400 + (low - 0xdc00)

-- Both halves of a character.
pub record IsPair (code : ℕ) (text rest : List ℕ) : Type 0 where
  pub high : ℕ
  pub middle : List ℕ
  pub digits : BeginsWithUnit text high middle
  pub least : 0xd800 ≤ high
  pub greatest : high < 0xdc00
  pub ends : EndsPair high code middle rest

-- A character that the text after `\u` writes, and what follows it.
abbrev pub BeginsWithScalar : (code : ℕ) → (text rest : List ℕ) → Type 0
BeginsWithScalar code text rest = IsAlone code text rest ⊎ IsPair code text rest

-- A quotation mark, a backslash or a slash.
abbrev pub IsShort : ℕ → Type 0
IsShort byte = (byte ≡ 34) ⊎ ((byte ≡ 92) ⊎ (byte ≡ 47))

-- A piece at the front of a text: a byte as it is, one of the three after a backslash, or a character after `\u`.
abbrev pub BeginsWithPiece : Piece → (text rest : List ℕ) → Type 0
BeginsWithPiece (piece.Byte byte) text rest =
    ((text ≡ byte ∷ rest) × (byte ≢ 34) × (byte ≢ 92)) ⊎ ((text ≡ 92 ∷ byte ∷ rest) × IsShort byte)
BeginsWithPiece (piece.Scalar code) text rest =
    (after : List ℕ) × (text ≡ 92 ∷ 117 ∷ after) × BeginsWithScalar code after rest

-- The bytes that a piece stands for.
abbrev pub piece_bytes : Piece → List ℕ
piece_bytes (piece.Byte byte) = byte ∷ []
piece_bytes (piece.Scalar code) = encode_utf8 code

-- Pieces, one after another, a quotation mark, and what follows it.
abbrev pub SpellsPieces : List Piece → (text rest : List ℕ) → Type 0
SpellsPieces [] text rest = text ≡ 34 ∷ rest
SpellsPieces (p ∷ others) text rest = (middle : List ℕ) × BeginsWithPiece p text middle × SpellsPieces others middle rest

-- What the text after a quotation mark stands for, up to the next one, and what follows that.
abbrev pub EndsQuoted : (name text rest : List ℕ) → Type 0
EndsQuoted name text rest = (pieces : List Piece) × SpellsPieces pieces text rest × (name ≡ flat_map piece_bytes pieces)
