-- What the lines of a text ask for.
use Rattle.std.specs.Prelude.{◌≡◌, ◌≢◌, ℕ, ◌⊎◌, ⊤, List, codes, true, false}
use Rattle.atlas_words.specs.Lines.{BeginsWithLine}
use Rattle.atlas_words.specs.Words.{BeginsWithWord}
use Rattle.atlas_pack.specs.declared.error.PackError.{PackError}
use Rattle.atlas_pack.specs.declared.error.PackError.TheVariants as error
use Rattle.atlas_pack.specs.declared.settings.Setting.{Setting}
use Rattle.atlas_pack.specs.declared.settings.Settings.{Settings}
use Rattle.atlas_pack.specs.declared.settings.TheConstants.{DEFAULT_SETTINGS}
use Rattle.atlas_pack.specs.declared.sprites.Sprite.{Sprite}
use Rattle.atlas_pack.specs.Names.{AreDistinct, IsNameFault}
use Rattle.atlas_pack.specs.Settings.{SpellsSettings, changed_by, goes_together, has_pages}
use Rattle.atlas_pack.specs.Sprites.{AreNamed, IsReadingFault}

-- The first word of the first line, what follows that word, and the lines after it.
pub record BeginsWithWords (text word words rest : List ℕ) : Type 0 where
  pub line : List ℕ
  pub first : BeginsWithLine text line rest
  pub parted : BeginsWithWord line word words

-- The first line doesn't begin with the word `sheet`: it is a sprite's like the others.
pub record SetsNothing (text : List ℕ) (before : ℕ) (settings : Settings) (rest : List ℕ) : Type 0 where
  pub word : List ℕ
  pub words : List ℕ
  pub others : List ℕ
  pub first : BeginsWithWords text word words others
  pub plain : word ≢ codes "sheet"
  pub none : before ≡ 0
  pub usual : settings ≡ DEFAULT_SETTINGS
  pub whole : rest ≡ text

-- The first line begins with the word `sheet`, and its other words are settings.
pub record SetsAll (text : List ℕ) (before : ℕ) (settings : Settings) (rest : List ℕ) : Type 0 where
  pub words : List ℕ
  pub all : List Setting
  pub first : BeginsWithWords text (codes "sheet") words rest
  pub spelled : SpellsSettings all words
  pub one : before ≡ 1
  pub set : settings ≡ changed_by DEFAULT_SETTINGS all
  pub together : goes_together settings ≡ true
  pub paged : has_pages settings ≡ true

-- What a text sets, how many lines do, and the lines of the sprites.
abbrev pub Sets : (text : List ℕ) → (before : ℕ) → Settings → (rest : List ℕ) → Type 0
Sets text before settings rest = SetsNothing text before settings rest ⊎ SetsAll text before settings rest

-- A text asks for a sheet of these sprites, each name standing once, with these settings.
pub record AsksFor (text : List ℕ) (before : ℕ) (settings : Settings) (sprites : List Sprite) : Type 0 where
  pub rest : List ℕ
  pub set : Sets text before settings rest
  pub named : AreNamed sprites rest
  pub distinct : AreDistinct sprites

-- The first line begins with the word `sheet`, and its other words are no settings.
pub record SetsBadly (text : List ℕ) : Type 0 where
  pub words : List ℕ
  pub rest : List ℕ
  pub first : BeginsWithWords text (codes "sheet") words rest
  pub bad : (all : List Setting) → SpellsSettings all words → ⊥

-- The first line sets what doesn't go together.
pub record SetsTooMuch (text : List ℕ) : Type 0 where
  pub words : List ℕ
  pub rest : List ℕ
  pub all : List Setting
  pub settings : Settings
  pub first : BeginsWithWords text (codes "sheet") words rest
  pub spelled : SpellsSettings all words
  pub set : settings ≡ changed_by DEFAULT_SETTINGS all
  pub apart : goes_together settings ≡ false

-- The first line sets groups, and no pages.
pub record SetsNoPages (text : List ℕ) : Type 0 where
  pub words : List ℕ
  pub rest : List ℕ
  pub all : List Setting
  pub settings : Settings
  pub first : BeginsWithWords text (codes "sheet") words rest
  pub spelled : SpellsSettings all words
  pub set : settings ≡ changed_by DEFAULT_SETTINGS all
  pub bare : has_pages settings ≡ false

-- A line of a sprite is bad.
pub record HasReadingFault (text : List ℕ) (e : PackError) : Type 0 where
  pub before : ℕ
  pub settings : Settings
  pub rest : List ℕ
  pub set : Sets text before settings rest
  pub fault : IsReadingFault before rest e

-- All lines are read, and a name stands twice.
pub record HasNameFault (text : List ℕ) (e : PackError) : Type 0 where
  pub before : ℕ
  pub settings : Settings
  pub rest : List ℕ
  pub sprites : List Sprite
  pub set : Sets text before settings rest
  pub named : AreNamed sprites rest
  pub fault : IsNameFault before sprites e

-- What an error says of a text.
abbrev pub IsJobFault : (text : List ℕ) → PackError → Type 0
IsJobFault text error.BadSettings = SetsBadly text
IsJobFault text error.NotTogether = SetsTooMuch text
IsJobFault text error.NoPages = SetsNoPages text
IsJobFault text (error.BadLine number) = HasReadingFault text (error.BadLine number)
IsJobFault text (error.Twice number) = HasNameFault text (error.Twice number)
IsJobFault text error.Memory = ⊤
IsJobFault text e = ⊥

-- What an error says of the first line.
abbrev pub IsSetFault : (text : List ℕ) → PackError → Type 0
IsSetFault text error.BadSettings = SetsBadly text
IsSetFault text error.NotTogether = SetsTooMuch text
IsSetFault text error.NoPages = SetsNoPages text
IsSetFault text e = ⊥
