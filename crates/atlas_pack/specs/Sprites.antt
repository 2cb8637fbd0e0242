-- The lines that name sprites.
use Rattle.std.specs.Prelude.{◌≡◌, ◌≢◌, ℕ, ◌+◌, ◌⊎◌, ⊤, List, [], ◌∷◌, ◌++◌, length, string_bytes, false}
use Rattle.std.specs.Char.{is_control}
use Rattle.std.specs.List.{list_any}
use Rattle.std.specs.Str.{IsUtf8, chars}
use Rattle.atlas_model.specs.declared.geometry.Size.{Size}
use Rattle.atlas_words.specs.Grammar.{SpellsSize}
use Rattle.atlas_words.specs.Lines.{BeginsWithLine}
use Rattle.atlas_words.specs.Words.{BeginsWithWord, IsEmptyOrSpaced}
use Rattle.atlas_pack.specs.declared.error.PackError.{PackError}
use Rattle.atlas_pack.specs.declared.error.PackError.TheVariants as error
use Rattle.atlas_pack.specs.declared.sprites.Sprite.{Sprite}
use Rattle.atlas_pack.specs.Quoted.{EndsQuoted}

-- One or more characters in UTF-8, none of them a control character.
pub record IsName (name : List ℕ) : Type 0 where
  pub some : name ≢ []
  pub text : IsUtf8 name
  pub plain : list_any is_control (chars name) ≡ false

-- A name as it is, up to a space. It doesn't begin with a quotation mark.
pub record BeginsWithPlain (name text rest : List ℕ) : Type 0 where
  pub word : BeginsWithWord text name rest
  pub bare : (after : List ℕ) → text ≢ 34 ∷ after

-- A name in quotation marks.
pub record BeginsWithQuoted (name text rest : List ℕ) : Type 0 where
  pub after : List ℕ
  pub whole : text ≡ 34 ∷ after
  pub ends : EndsQuoted name after rest

-- What the front of a line spells, in either way.
abbrev pub BeginsWithSpelling : (name text rest : List ℕ) → Type 0
BeginsWithSpelling name text rest = BeginsWithPlain name text rest ⊎ BeginsWithQuoted name text rest

-- What spells a name, if it is one, also where a space follows or the line ends.
abbrev pub IsReadAgain : (name text : List ℕ) → Type 0
IsReadAgain name text =
    (rest : List ℕ) → IsName name → IsEmptyOrSpaced rest → BeginsWithSpelling name (text ++ rest) rest

-- A name, and the width and the height, each after one space.
pub record SpellsSprite (name : List ℕ) (size : Size) (line : List ℕ) : Type 0 where
  pub is : IsName name
  pub numbers : List ℕ
  pub begins : BeginsWithSpelling name line numbers
  pub sides : SpellsSize size numbers

-- A text begins with lines that name these sprites, in order, and goes on.
abbrev pub BeginsWithSprites : List Sprite → (text rest : List ℕ) → Type 0
BeginsWithSprites [] text rest = text ≡ rest
BeginsWithSprites (sprite ∷ sprites) text rest =
    (line : List ℕ) × (after : List ℕ) × BeginsWithLine text line after × SpellsSprite (string_bytes sprite.name) sprite.size line
    × BeginsWithSprites sprites after rest

-- The lines of a text name these sprites, in order.
abbrev pub AreNamed : List Sprite → (text : List ℕ) → Type 0
AreNamed sprites text = BeginsWithSprites sprites text []

-- A first line that names no sprite stands after lines that do.
pub record HasBadLine (text : List ℕ) (before number : ℕ) : Type 0 where
  pub sprites : List Sprite
  pub rest : List ℕ
  pub read : BeginsWithSprites sprites text rest
  pub some : rest ≢ []
  pub line : List ℕ
  pub after : List ℕ
  pub next : BeginsWithLine rest line after
  pub bad : (name : List ℕ) (size : Size) → SpellsSprite name size line → ⊥
  pub numbered : number ≡ before + length sprites + 1

-- What an error says of the lines of sprites, before which others stand.
abbrev pub IsReadingFault : (before : ℕ) → (text : List ℕ) → PackError → Type 0
IsReadingFault before text (error.BadLine number) = HasBadLine text before number
IsReadingFault before text error.Memory = ⊤
IsReadingFault before text e = ⊥
