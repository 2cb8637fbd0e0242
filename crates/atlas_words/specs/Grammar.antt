-- The lines that spell a command.
use Rattle.std.specs.Prelude.{◌≡◌, ℕ, ◌<◌, ◌≤◌, ◌^◌, ℤ, pos, neg_ℤ, FitsSigned, ◌⊎◌, List, [], ◌∷◌, ◌++◌, length, codes}
use Rattle.std.specs.Int.{w32}
use Rattle.std.specs.Str.Parse.{IsNumeral, digits_value}
use Rattle.atlas_model.specs.declared.geometry.Size.{Size}
use Rattle.atlas_model.specs.declared.options.AllocatorOptions.{AllocatorOptions}
use Rattle.atlas_model.specs.declared.options.TheConstants.{DEFAULT_OPTIONS}
use Rattle.atlas_words.specs.declared.commands.Command.{Command}
use Rattle.atlas_words.specs.declared.commands.Command.TheVariants.{Simple, Take, Atlas, Alloc, Live, Holes, AskSize}
use Rattle.atlas_words.specs.declared.commands.Command.TheVariants.{Free, Grow, Empty, Clear, Rearrange, Resize}
use Rattle.atlas_words.specs.declared.commands.Command.TheVariants.{FromAtlas, Record, Replay}

-- One or more decimal digits, with a value that fits a `u32`.
abbrev pub SpellsUnsigned : ℕ → List ℕ → Type 0
SpellsUnsigned n text = IsNumeral 10 text × (n ≡ digits_value 10 text) × (n < 2 ^ 32)

-- An optional `-`, then one or more decimal digits, with a value that fits an `i32`.
abbrev pub SpellsNumber : ℤ → List ℕ → Type 0
SpellsNumber z text =
    FitsSigned w32 z
    × ((IsNumeral 10 text × (z ≡ pos (digits_value 10 text)))
    ⊎ ((digits : List ℕ) × (text ≡ 45 ∷ digits) × IsNumeral 10 digits × (z ≡ neg_ℤ (pos (digits_value 10 digits)))))

-- Numbers, each after one space.
abbrev pub SpellsNumbers : List ℤ → List ℕ → Type 0
SpellsNumbers [] text = text ≡ []
SpellsNumbers (z ∷ zs) text =
    (word : List ℕ) × (rest : List ℕ) × (text ≡ 32 ∷ (word ++ rest)) × SpellsNumber z word × SpellsNumbers zs rest

-- The width and the height.
abbrev pub SpellsSize : Size → List ℕ → Type 0
SpellsSize size text = SpellsNumbers (size.width ∷ size.height ∷ []) text

-- The size alone, for the default options, or the size, the alignment, and the small and the large threshold.
abbrev pub SpellsAtlas : Size → AllocatorOptions → List ℕ → Type 0
SpellsAtlas size options text =
    (SpellsSize size text × (options ≡ DEFAULT_OPTIONS))
    ⊎ SpellsNumbers
    (size.width ∷ size.height ∷ options.alignment.width ∷ options.alignment.height ∷ options.small_size_threshold
    ∷ options.large_size_threshold ∷ [])
    text

-- An id, after one space.
abbrev pub SpellsId : ℕ → List ℕ → Type 0
SpellsId id text = (word : List ℕ) × (text ≡ 32 ∷ word) × SpellsUnsigned id word

-- The word that a command's line begins with.
abbrev pub keyword : Command → List ℕ
keyword (Simple size) = codes "simple"
keyword (Take size) = codes "take"
keyword (Atlas size options) = codes "atlas"
keyword (Alloc size) = codes "alloc"
keyword Live = codes "live"
keyword Holes = codes "holes"
keyword AskSize = codes "size"
keyword (Free id) = codes "free"
keyword (Grow size) = codes "grow"
keyword Empty = codes "empty"
keyword Clear = codes "clear"
keyword Rearrange = codes "rearrange"
keyword (Resize size) = codes "resize"
keyword FromAtlas = codes "from-atlas"
keyword (Record size) = codes "record"
keyword Replay = codes "replay"

-- What follows that word.
abbrev pub SpellsArguments : Command → List ℕ → Type 0
SpellsArguments (Simple size) text = SpellsSize size text
SpellsArguments (Take size) text = SpellsSize size text
SpellsArguments (Atlas size options) text = SpellsAtlas size options text
SpellsArguments (Alloc size) text = SpellsSize size text
SpellsArguments Live text = text ≡ []
SpellsArguments Holes text = text ≡ []
SpellsArguments AskSize text = text ≡ []
SpellsArguments (Free id) text = SpellsId id text
SpellsArguments (Grow size) text = SpellsSize size text
SpellsArguments Empty text = text ≡ []
SpellsArguments Clear text = text ≡ []
SpellsArguments Rearrange text = text ≡ []
SpellsArguments (Resize size) text = SpellsSize size text
SpellsArguments FromAtlas text = text ≡ []
SpellsArguments (Record size) text = SpellsSize size text
SpellsArguments Replay text = text ≡ []

-- The bytes of a line, without its LF, of which there are at most 120, spell this command.
abbrev pub Spells : Command → List ℕ → Type 0
Spells command line =
    (arguments : List ℕ) × (line ≡ keyword command ++ arguments) × SpellsArguments command arguments
    × (length line ≤ 120)
