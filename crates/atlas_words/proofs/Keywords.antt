-- Which command a line's first word begins.
use Rattle.std.proofs.Common.{◌≡◌, ℕ, ◌≢◌, Bool, true, false, not, ◌&&◌, eqb, List, [], ◌∷◌, codes, length, arith, refl, sym, ◌∙◌, subst}
use Rattle.std.proofs.Common.{inl, inr}
use Rattle.std.proofs.lemmas.Bool.{and_parts, eq-eqb, not-true, both_ways}
use Rattle.std.proofs.lemmas.Slice.Eq.{bytes_eq-Decides}
use Rattle.std.specs.Str.{bytes_eq}
use Rattle.atlas_model.specs.declared.geometry.Size.{Size}
use Rattle.atlas_model.specs.declared.options.AllocatorOptions.{AllocatorOptions}
use Rattle.atlas_words.specs.declared.commands.Command.{Command}
use Rattle.atlas_words.specs.declared.commands.Command.TheVariants.{Simple, Take, Atlas, Alloc, Live, Holes, AskSize, Free, Grow, Empty}
use Rattle.atlas_words.specs.declared.commands.Command.TheVariants.{Clear, Rearrange, Resize, FromAtlas, Record, Replay}
use Rattle.atlas_words.specs.Grammar.{SpellsSize, SpellsAtlas, SpellsId, SpellsArguments, Spells, keyword}
use Rattle.atlas_words.specs.Words.{HasNoSpace, IsEmptyOrSpaced, BeginsWithWord, SpellsInParts}
use Rattle.atlas_words.proofs.PartedWords.{one_word, numbers_spaced}

-- Two texts that differ.
pub differ : (a b : List ℕ) → bytes_eq a b ≡ false → a ≡ b → ⊥
differ a b e same = both_ways (bytes_eq a b) e ((bytes_eq-Decides a b).1 same)

unfoldable pub has_no_space : List ℕ → Bool
has_no_space [] = true
has_no_space (b ∷ bs) = not (eqb b 32) && has_no_space bs

pub no_space_by_test : (text : List ℕ) → has_no_space text ≡ true → HasNoSpace text
unfolding has_no_space
no_space_by_test [] e = tt
no_space_by_test (b ∷ bs) e =
    let parts = and_parts (not (eqb b 32)) (has_no_space bs) e in
    (λ same. both_ways (eqb b 32) (not-true (eqb b 32) parts.0) (eq-eqb b 32 same), no_space_by_test bs parts.1)

keyword_test : (c : Command) → has_no_space (keyword c) ≡ true
unfolding has_no_space
keyword_test (Simple size) = refl
keyword_test (Take size) = refl
keyword_test (Atlas size options) = refl
keyword_test (Alloc size) = refl
keyword_test (Free id) = refl
keyword_test (Grow size) = refl
keyword_test Live = refl
keyword_test Holes = refl
keyword_test AskSize = refl
keyword_test Empty = refl
keyword_test Clear = refl
keyword_test Rearrange = refl
keyword_test (Resize size) = refl
keyword_test FromAtlas = refl
keyword_test (Record size) = refl
keyword_test Replay = refl

pub keyword_no_space : (c : Command) → HasNoSpace (keyword c)
keyword_no_space c = no_space_by_test (keyword c) (keyword_test c)

size_spaced : (size : Size) (text : List ℕ) → SpellsSize size text → IsEmptyOrSpaced text
size_spaced size text spells = numbers_spaced (size.width ∷ size.height ∷ []) text spells

pub arguments_spaced : (c : Command) (text : List ℕ) → SpellsArguments c text → IsEmptyOrSpaced text
arguments_spaced (Simple size) text spells = size_spaced size text spells
arguments_spaced (Take size) text spells = size_spaced size text spells
arguments_spaced (Atlas size options) text spells = elim spells [
  | inl two ↦ size_spaced size text two.0
  | inr six ↦ numbers_spaced
      (size.width ∷ size.height ∷ options.alignment.width ∷ options.alignment.height ∷ options.small_size_threshold ∷
      options.large_size_threshold ∷ []) text six
]
arguments_spaced (Alloc size) text spells = size_spaced size text spells
arguments_spaced (Free id) text spells = subst IsEmptyOrSpaced (sym spells.1) refl
arguments_spaced (Grow size) text spells = size_spaced size text spells
arguments_spaced Live text spells = subst IsEmptyOrSpaced (sym spells) tt
arguments_spaced Holes text spells = subst IsEmptyOrSpaced (sym spells) tt
arguments_spaced AskSize text spells = subst IsEmptyOrSpaced (sym spells) tt
arguments_spaced Empty text spells = subst IsEmptyOrSpaced (sym spells) tt
arguments_spaced Clear text spells = subst IsEmptyOrSpaced (sym spells) tt
arguments_spaced Rearrange text spells = subst IsEmptyOrSpaced (sym spells) tt
arguments_spaced (Resize size) text spells = size_spaced size text spells
arguments_spaced FromAtlas text spells = subst IsEmptyOrSpaced (sym spells) tt
arguments_spaced (Record size) text spells = size_spaced size text spells
arguments_spaced Replay text spells = subst IsEmptyOrSpaced (sym spells) tt

-- The first word of a line that spells a command is its keyword.
pub in_parts : (c : Command) (line word rest : List ℕ) → BeginsWithWord line word rest → Spells c line
    → SpellsInParts c word rest
in_parts c line word rest begins spells =
    let same = one_word line word rest (keyword c) spells.0 begins (record
    { whole = spells.1; no_space = keyword_no_space c; spaced = arguments_spaced c spells.0 spells.2 }) in
    (same.0, subst (SpellsArguments c) (sym same.1) spells.2)

-- Each keyword begins one command alone.
pub only_simple : (c : Command) (word rest : List ℕ) → word ≡ codes "simple" → SpellsInParts c word rest
    → (size : Size) × (c ≡ Simple size) × SpellsSize size rest
only_simple (Simple size) word rest e parts = (size, refl, parts.1)
only_simple c word rest e parts = absurd (differ (codes "simple") (keyword c) refl (sym e ∙ parts.0))

pub only_take : (c : Command) (word rest : List ℕ) → word ≡ codes "take" → SpellsInParts c word rest
    → (size : Size) × (c ≡ Take size) × SpellsSize size rest
only_take (Take size) word rest e parts = (size, refl, parts.1)
only_take c word rest e parts = absurd (differ (codes "take") (keyword c) refl (sym e ∙ parts.0))

pub only_atlas : (c : Command) (word rest : List ℕ) → word ≡ codes "atlas" → SpellsInParts c word rest
    → (size : Size) × (options : AllocatorOptions) × (c ≡ Atlas size options) × SpellsAtlas size options rest
only_atlas (Atlas size options) word rest e parts = (size, options, refl, parts.1)
only_atlas c word rest e parts = absurd (differ (codes "atlas") (keyword c) refl (sym e ∙ parts.0))

pub only_alloc : (c : Command) (word rest : List ℕ) → word ≡ codes "alloc" → SpellsInParts c word rest
    → (size : Size) × (c ≡ Alloc size) × SpellsSize size rest
only_alloc (Alloc size) word rest e parts = (size, refl, parts.1)
only_alloc c word rest e parts = absurd (differ (codes "alloc") (keyword c) refl (sym e ∙ parts.0))

pub only_free : (c : Command) (word rest : List ℕ) → word ≡ codes "free" → SpellsInParts c word rest
    → (id : ℕ) × (c ≡ Free id) × SpellsId id rest
only_free (Free id) word rest e parts = (id, refl, parts.1)
only_free c word rest e parts = absurd (differ (codes "free") (keyword c) refl (sym e ∙ parts.0))

pub only_grow : (c : Command) (word rest : List ℕ) → word ≡ codes "grow" → SpellsInParts c word rest
    → (size : Size) × (c ≡ Grow size) × SpellsSize size rest
only_grow (Grow size) word rest e parts = (size, refl, parts.1)
only_grow c word rest e parts = absurd (differ (codes "grow") (keyword c) refl (sym e ∙ parts.0))

pub only_live : (c : Command) (word rest : List ℕ) → word ≡ codes "live" → SpellsInParts c word rest
    → (c ≡ Live) × (rest ≡ [])
only_live Live word rest e parts = (refl, parts.1)
only_live c word rest e parts = absurd (differ (codes "live") (keyword c) refl (sym e ∙ parts.0))

pub only_holes : (c : Command) (word rest : List ℕ) → word ≡ codes "holes" → SpellsInParts c word rest
    → (c ≡ Holes) × (rest ≡ [])
only_holes Holes word rest e parts = (refl, parts.1)
only_holes c word rest e parts = absurd (differ (codes "holes") (keyword c) refl (sym e ∙ parts.0))

pub only_size : (c : Command) (word rest : List ℕ) → word ≡ codes "size" → SpellsInParts c word rest
    → (c ≡ AskSize) × (rest ≡ [])
only_size AskSize word rest e parts = (refl, parts.1)
only_size c word rest e parts = absurd (differ (codes "size") (keyword c) refl (sym e ∙ parts.0))

pub only_empty : (c : Command) (word rest : List ℕ) → word ≡ codes "empty" → SpellsInParts c word rest
    → (c ≡ Empty) × (rest ≡ [])
only_empty Empty word rest e parts = (refl, parts.1)
only_empty c word rest e parts = absurd (differ (codes "empty") (keyword c) refl (sym e ∙ parts.0))

pub only_resize : (c : Command) (word rest : List ℕ) → word ≡ codes "resize" → SpellsInParts c word rest
    → (size : Size) × (c ≡ Resize size) × SpellsSize size rest
only_resize (Resize size) word rest e parts = (size, refl, parts.1)
only_resize c word rest e parts = absurd (differ (codes "resize") (keyword c) refl (sym e ∙ parts.0))

pub only_record : (c : Command) (word rest : List ℕ) → word ≡ codes "record" → SpellsInParts c word rest
    → (size : Size) × (c ≡ Record size) × SpellsSize size rest
only_record (Record size) word rest e parts = (size, refl, parts.1)
only_record c word rest e parts = absurd (differ (codes "record") (keyword c) refl (sym e ∙ parts.0))

pub only_clear : (c : Command) (word rest : List ℕ) → word ≡ codes "clear" → SpellsInParts c word rest
    → (c ≡ Clear) × (rest ≡ [])
only_clear Clear word rest e parts = (refl, parts.1)
only_clear c word rest e parts = absurd (differ (codes "clear") (keyword c) refl (sym e ∙ parts.0))

pub only_rearrange : (c : Command) (word rest : List ℕ) → word ≡ codes "rearrange" → SpellsInParts c word rest
    → (c ≡ Rearrange) × (rest ≡ [])
only_rearrange Rearrange word rest e parts = (refl, parts.1)
only_rearrange c word rest e parts = absurd (differ (codes "rearrange") (keyword c) refl (sym e ∙ parts.0))

pub only_from_atlas : (c : Command) (word rest : List ℕ) → word ≡ codes "from-atlas" → SpellsInParts c word rest
    → (c ≡ FromAtlas) × (rest ≡ [])
only_from_atlas FromAtlas word rest e parts = (refl, parts.1)
only_from_atlas c word rest e parts = absurd (differ (codes "from-atlas") (keyword c) refl (sym e ∙ parts.0))

pub only_replay : (c : Command) (word rest : List ℕ) → word ≡ codes "replay" → SpellsInParts c word rest
    → (c ≡ Replay) × (rest ≡ [])
only_replay Replay word rest e parts = (refl, parts.1)
only_replay c word rest e parts = absurd (differ (codes "replay") (keyword c) refl (sym e ∙ parts.0))

no_size : (size : Size) → SpellsSize size [] → ⊥
no_size size spells = let e = spells.2 in cc

no_atlas : (size : Size) (options : AllocatorOptions) → SpellsAtlas size options [] → ⊥
no_atlas size options (inl two) = no_size size two.0
no_atlas size options (inr six) = let e = six.2 in cc

pub no_bytes : (text : List ℕ) → length text ≡ 0 → text ≡ []
no_bytes [] e = refl
no_bytes (b ∷ bs) e = absurd (omega arith)

-- Nothing follows the word of a command without arguments.
pub ends_alone : (c : Command) (rest : List ℕ) → SpellsArguments c [] → SpellsArguments c rest → rest ≡ []
ends_alone (Simple size) rest alone spells = absurd (no_size size alone)
ends_alone (Take size) rest alone spells = absurd (no_size size alone)
ends_alone (Atlas size options) rest alone spells = absurd (no_atlas size options alone)
ends_alone (Alloc size) rest alone spells = absurd (no_size size alone)
ends_alone (Free id) rest alone spells = absurd (let e = alone.1 in cc)
ends_alone (Grow size) rest alone spells = absurd (no_size size alone)
ends_alone (Resize size) rest alone spells = absurd (no_size size alone)
ends_alone (Record size) rest alone spells = absurd (no_size size alone)
ends_alone Live rest alone spells = spells
ends_alone Holes rest alone spells = spells
ends_alone AskSize rest alone spells = spells
ends_alone Empty rest alone spells = spells
ends_alone Clear rest alone spells = spells
ends_alone Rearrange rest alone spells = spells
ends_alone FromAtlas rest alone spells = spells
ends_alone Replay rest alone spells = spells

-- No other word begins a command with arguments.
pub stands_alone : (c : Command) (word rest : List ℕ) → word ≢ codes "simple" → word ≢ codes "take"
    → word ≢ codes "atlas" → word ≢ codes "alloc" → word ≢ codes "free"
    → word ≢ codes "grow" → word ≢ codes "resize" → word ≢ codes "record" → SpellsInParts c word rest
    → SpellsArguments c []
stands_alone (Simple size) word rest simple take atlas alloc free grow resize recorded parts = absurd (simple parts.0)
stands_alone (Take size) word rest simple take atlas alloc free grow resize recorded parts = absurd (take parts.0)
stands_alone (Atlas size options) word rest simple take atlas alloc free grow resize recorded parts = absurd (atlas parts.0)
stands_alone (Alloc size) word rest simple take atlas alloc free grow resize recorded parts = absurd (alloc parts.0)
stands_alone (Free id) word rest simple take atlas alloc free grow resize recorded parts = absurd (free parts.0)
stands_alone (Grow size) word rest simple take atlas alloc free grow resize recorded parts = absurd (grow parts.0)
stands_alone (Resize size) word rest simple take atlas alloc free grow resize recorded parts = absurd (resize parts.0)
stands_alone Live word rest simple take atlas alloc free grow resize recorded parts = refl
stands_alone Holes word rest simple take atlas alloc free grow resize recorded parts = refl
stands_alone AskSize word rest simple take atlas alloc free grow resize recorded parts = refl
stands_alone Empty word rest simple take atlas alloc free grow resize recorded parts = refl
stands_alone Clear word rest simple take atlas alloc free grow resize recorded parts = refl
stands_alone Rearrange word rest simple take atlas alloc free grow resize recorded parts = refl
stands_alone FromAtlas word rest simple take atlas alloc free grow resize recorded parts = refl
stands_alone Replay word rest simple take atlas alloc free grow resize recorded parts = refl
stands_alone (Record size) word rest simple take atlas alloc free grow resize recorded parts = absurd (recorded parts.0)

-- No other word begins a command without arguments.
pub no_keyword : (c : Command) (word rest : List ℕ) → SpellsArguments c [] → word ≢ codes "live" → word ≢ codes "holes"
    → word ≢ codes "size" → word ≢ codes "empty"
    → word ≢ codes "clear" → word ≢ codes "rearrange" → word ≢ codes "from-atlas" → word ≢ codes "replay"
    → SpellsInParts c word rest → ⊥
no_keyword (Simple size) word rest alone live holes ask empty clear rearrange from replayed parts = no_size size alone
no_keyword (Take size) word rest alone live holes ask empty clear rearrange from replayed parts = no_size size alone
no_keyword (Atlas size options) word rest alone live holes ask empty clear rearrange from replayed parts = no_atlas size options alone
no_keyword (Alloc size) word rest alone live holes ask empty clear rearrange from replayed parts = no_size size alone
no_keyword (Free id) word rest alone live holes ask empty clear rearrange from replayed parts = let e = alone.1 in cc
no_keyword (Grow size) word rest alone live holes ask empty clear rearrange from replayed parts = no_size size alone
no_keyword (Resize size) word rest alone live holes ask empty clear rearrange from replayed parts = no_size size alone
no_keyword Live word rest alone live holes ask empty clear rearrange from replayed parts = live parts.0
no_keyword Holes word rest alone live holes ask empty clear rearrange from replayed parts = holes parts.0
no_keyword AskSize word rest alone live holes ask empty clear rearrange from replayed parts = ask parts.0
no_keyword Empty word rest alone live holes ask empty clear rearrange from replayed parts = empty parts.0
no_keyword Clear word rest alone live holes ask empty clear rearrange from replayed parts = clear parts.0
no_keyword Rearrange word rest alone live holes ask empty clear rearrange from replayed parts = rearrange parts.0
no_keyword FromAtlas word rest alone live holes ask empty clear rearrange from replayed parts = from parts.0
no_keyword (Record size) word rest alone live holes ask empty clear rearrange from replayed parts = no_size size alone
no_keyword Replay word rest alone live holes ask empty clear rearrange from replayed parts = replayed parts.0
