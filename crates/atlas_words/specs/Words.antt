-- How the parser parts a line into words.
use Rattle.std.specs.Prelude.{◌≡◌, ℕ, ◌≢◌, ℤ, List, [], ◌∷◌, ◌++◌, ⊤}
use Rattle.std.specs.List.{AllByRecursion}
use Rattle.atlas_model.specs.declared.geometry.Size.{Size}
use Rattle.atlas_model.specs.declared.options.AllocatorOptions.{AllocatorOptions}
use Rattle.atlas_words.specs.declared.commands.Command.{Command}
use Rattle.atlas_words.specs.Grammar.{SpellsArguments, SpellsNumber, SpellsNumbers, SpellsUnsigned, keyword}

abbrev pub HasNoSpace : List ℕ → Type 0
HasNoSpace text = AllByRecursion (λ byte. byte ≢ 32) text

-- Nothing, or a space and more.
abbrev pub IsEmptyOrSpaced : List ℕ → Type 0
IsEmptyOrSpaced [] = ⊤
IsEmptyOrSpaced (byte ∷ bytes) = byte ≡ 32

-- The bytes before the first space, and the rest.
pub record BeginsWithWord (text word rest : List ℕ) : Type 0 where
  pub whole : text ≡ word ++ rest
  pub no_space : HasNoSpace word
  pub spaced : IsEmptyOrSpaced rest

-- A space, a number, and the rest.
pub record BeginsWithNumber (text : List ℕ) (number : ℤ) (rest : List ℕ) : Type 0 where
  pub word : List ℕ
  pub whole : text ≡ 32 ∷ (word ++ rest)
  pub spells : SpellsNumber number word
  pub spaced : IsEmptyOrSpaced rest

-- A space, a number from 0 on, and the rest.
pub record BeginsWithUnsigned (text : List ℕ) (number : ℕ) (rest : List ℕ) : Type 0 where
  pub word : List ℕ
  pub whole : text ≡ 32 ∷ (word ++ rest)
  pub spells : SpellsUnsigned number word
  pub spaced : IsEmptyOrSpaced rest

-- Two numbers, each after a space, and the rest.
pub record BeginsWithSize (text : List ℕ) (size : Size) (rest : List ℕ) : Type 0 where
  pub middle : List ℕ
  pub width : BeginsWithNumber text size.width middle
  pub height : BeginsWithNumber middle size.height rest

-- The alignment, and the small and the large threshold.
abbrev pub SpellsOptions : AllocatorOptions → List ℕ → Type 0
SpellsOptions options text =
    SpellsNumbers
    (options.alignment.width ∷ options.alignment.height ∷ options.small_size_threshold
    ∷ options.large_size_threshold ∷ []) text

-- The first word and the rest of a line spell this command.
abbrev pub SpellsInParts : Command → (word rest : List ℕ) → Type 0
SpellsInParts command word rest = (word ≡ keyword command) × SpellsArguments command rest
