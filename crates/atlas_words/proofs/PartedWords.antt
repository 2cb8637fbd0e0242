-- A line is parted into words in one way.
use Rattle.std.proofs.Common.{◌≡◌, ◌⊎◌, ◌<◌, length, Some, ℕ, ℤ, List, [], ◌∷◌, ◌++◌, refl, sym, ap, ◌∙◌, subst, inl, inr, arith}
use Rattle.std.specs.Char.{digit_value}
use Rattle.std.specs.Str.Parse.{AllDigits}
use Rattle.atlas_model.specs.declared.geometry.Size.{Size}
use Rattle.atlas_model.specs.declared.options.AllocatorOptions.{AllocatorOptions}
use Rattle.atlas_model.specs.declared.options.TheConstants.{DEFAULT_OPTIONS}
use Rattle.atlas_words.specs.Grammar.{SpellsNumber, SpellsNumbers, SpellsSize, SpellsAtlas}
use Rattle.atlas_words.specs.Words.{HasNoSpace, IsEmptyOrSpaced, BeginsWithWord, BeginsWithNumber, BeginsWithSize, SpellsOptions}

-- Where a word has ended, no other byte of a word comes.
ends_here : (rest bytes : List ℕ) (byte : ℕ) → IsEmptyOrSpaced rest → rest ≡ byte ∷ bytes → byte ≡ 32
ends_here [] bytes byte spaced e = absurd (cc)
ends_here (b ∷ bs) bytes byte spaced e = cc

same_word : (w r v s : List ℕ) → HasNoSpace w → IsEmptyOrSpaced r → HasNoSpace v → IsEmptyOrSpaced s → w ++ r ≡ v ++ s
    → (w ≡ v) × (r ≡ s)
same_word [] r [] s hw hr hv hs e = (refl, e)
same_word [] r (b ∷ v) s hw hr hv hs e = absurd (hv.0 (ends_here r (v ++ s) b hr e))
same_word (a ∷ w) r [] s hw hr hv hs e = absurd (hw.0 (ends_here s (w ++ r) a hs (sym e)))
same_word (a ∷ w) r (b ∷ v) s hw hr hv hs e =
    let tails : w ++ r ≡ v ++ s = cc in
    let heads : a ≡ b = cc in
    let more = same_word w r v s hw.1 hr hv.1 hs tails in
    (let first = more.0 in cc, more.1)

pub one_word : (text w r v s : List ℕ) → BeginsWithWord text w r → BeginsWithWord text v s → (w ≡ v) × (r ≡ s)
one_word text w r v s a b = same_word w r v s a.no_space a.spaced b.no_space b.spaced (sym a.whole ∙ b.whole)

digits_no_space : (digits : List ℕ) → AllDigits 10 digits → HasNoSpace digits
digits_no_space [] h = tt
digits_no_space (d ∷ ds) h = (λ e. let value : digit_value d ≡ 36 = ap digit_value e in omega (arith, h.0), digits_no_space ds h.1)

pub number_no_space : (z : ℤ) (word : List ℕ) → SpellsNumber z word → HasNoSpace word
number_no_space z word spells =
    elim spells.1 [
      | inl plain ↦ digits_no_space word plain.0.1
      | inr minus ↦
          let P : List ℕ → Type 0 = HasNoSpace in
          let parts : HasNoSpace (45 ∷ minus.0) = (λ e. omega arith, digits_no_space minus.0 minus.2.1) in
          subst P (sym minus.1) parts
    ]

-- The word after the first byte is the one that spells the number.
pub spelled_word : (text after w r rest : List ℕ) (first : ℕ) (z : ℤ) → text ≡ first ∷ after → BeginsWithWord after w r
    → BeginsWithNumber text z rest
    → SpellsNumber z w × (r ≡ rest)
spelled_word text after w r rest first z e begins number =
    let whole : after ≡ number.word ++ rest = (let f = number.whole in cc) in
    let same = one_word after w r number.word rest begins (record {
      whole = whole;
      no_space = number_no_space z number.word number.spells;
      spaced = number.spaced;
    }) in
    let P : List ℕ → Type 0 = SpellsNumber z in
    (subst P (sym same.0) number.spells, same.1)

-- After a number comes nothing or a space.
pub numbers_spaced : (zs : List ℤ) (text : List ℕ) → SpellsNumbers zs text → IsEmptyOrSpaced text
numbers_spaced [] text spells = subst IsEmptyOrSpaced (sym spells) tt
numbers_spaced (z ∷ zs) text spells = subst IsEmptyOrSpaced (sym spells.2) refl

pub number_begins : (z : ℤ) (zs : List ℤ) (text : List ℕ) (spells : SpellsNumbers (z ∷ zs) text)
    → BeginsWithNumber text z spells.1
number_begins z zs text spells = record {
  word = spells.0;
  whole = spells.2;
  spells = spells.3;
  spaced =
      numbers_spaced zs spells.1 spells.4;
}

pub numbers_from : (z : ℤ) (zs : List ℤ) (text rest : List ℕ) → BeginsWithNumber text z rest → SpellsNumbers zs rest
    → SpellsNumbers (z ∷ zs) text
numbers_from z zs text rest begins spells = (begins.word, rest, begins.whole, begins.spells, spells)

-- Two numbers at the front.
abbrev pub size_begins : (size : Size) (zs : List ℤ) (text : List ℕ)
    → SpellsNumbers (size.width ∷ size.height ∷ zs) text
    → (rest : List ℕ) × BeginsWithSize text size rest × SpellsNumbers zs rest
size_begins size zs text spells = (
  spells.4.1,
  record {
    middle = spells.1;
    width = number_begins size.width (size.height ∷ zs) text spells;
    height = number_begins size.height zs spells.1 spells.4;
  },
  spells.4.4,
)

pub size_from : (size : Size) (zs : List ℤ) (text rest : List ℕ) → BeginsWithSize text size rest → SpellsNumbers zs rest
    → SpellsNumbers (size.width ∷ size.height ∷ zs) text
size_from size zs text rest begins spells =
    numbers_from size.width (size.height ∷ zs) text begins.middle begins.width
    (numbers_from size.height zs begins.middle rest begins.height spells)

pub same_size : (a b : Size) → a.width ≡ b.width → a.height ≡ b.height → a ≡ b
same_size a b e f = λ i. record { width = e i; height = f i }

-- The second number, after the first.
pub next_begins : (size : Size) (text middle rest : List ℕ) (begins : BeginsWithSize text size rest)
    → middle ≡ begins.middle → BeginsWithNumber middle size.height rest
next_begins size text middle rest begins e =
    let P : List ℕ → Type 0 = λ t. BeginsWithNumber t size.height rest in
    subst P (sym e) begins.height

pub same_options : (o p : AllocatorOptions) → o.alignment ≡ p.alignment
    → o.small_size_threshold ≡ p.small_size_threshold → o.large_size_threshold ≡ p.large_size_threshold → o ≡ p
same_options o p e f g = λ i. record { alignment = e i; small_size_threshold = f i; large_size_threshold = g i }

pub same_end : (rest end : List ℕ) → rest ≡ end → end ≡ [] → length rest ≡ 0
same_end rest end e f = ap length (e ∙ f)

-- ---- options

-- The alignment, and then the thresholds.
abbrev pub thresholds_of : AllocatorOptions → Size
thresholds_of o = record { width = o.small_size_threshold; height = o.large_size_threshold }

pub options_begin : (o : AllocatorOptions) (text : List ℕ) → SpellsOptions o text
    → (rest : List ℕ) × BeginsWithSize text o.alignment rest × SpellsSize (thresholds_of o) rest
options_begin o text spells = size_begins o.alignment (o.small_size_threshold ∷ o.large_size_threshold ∷ []) text spells

pub options_rest : (o : AllocatorOptions) (rest middle : List ℕ) → rest ≡ middle → SpellsSize (thresholds_of o) middle
    → SpellsSize (thresholds_of o) rest
options_rest o rest middle e spells = subst (SpellsSize (thresholds_of o)) (sym e) spells

-- The options that were read, with the thresholds as the code copied them.
pub options_found : (alignment thresholds : Size) (small large : ℤ) (text rest : List ℕ) → thresholds.width ≡ small
    → thresholds.height ≡ large → BeginsWithSize text alignment rest
    → SpellsSize thresholds rest
    → SpellsOptions (record { alignment = alignment; small_size_threshold = small; large_size_threshold = large }) text
options_found alignment thresholds small large text rest e f begins spells =
    let P : ℤ → ℤ → Type 0 = λ y z. SpellsNumbers (y ∷ z ∷ []) rest in
    size_from alignment (small ∷ large ∷ []) text rest begins (subst (λ z. P small z) f (subst (λ y. P y thresholds.height) e spells))

pub same_options_read : (o : AllocatorOptions) (alignment thresholds : Size) (small large : ℤ)
    → thresholds.width ≡ small → thresholds.height ≡ large → alignment ≡ o.alignment
    → Some thresholds ≡ Some (thresholds_of o)
    → Some (record { alignment = alignment; small_size_threshold = small; large_size_threshold = large }) ≡ Some o
same_options_read o alignment thresholds small large e f g h =
    let t : thresholds ≡ thresholds_of o = cc in
    let read : AllocatorOptions = record { alignment = alignment; small_size_threshold = small; large_size_threshold = large } in
    ap (λ p. Some p) (same_options read o g (sym e ∙ ap (λ (s : Size). s.width) t) (sym f ∙ ap (λ (s : Size). s.height) t))

-- The size, and then nothing or the options.
abbrev pub EndsAtlas : AllocatorOptions → List ℕ → Type 0
EndsAtlas o rest = ((rest ≡ []) × (o ≡ DEFAULT_OPTIONS)) ⊎ SpellsOptions o rest

pub atlas_begins : (size : Size) (o : AllocatorOptions) (text : List ℕ) → SpellsAtlas size o text
    → (rest : List ℕ) × BeginsWithSize text size rest × EndsAtlas o rest
atlas_begins size o text (inl two) = let begins = size_begins size [] text two.0 in (begins.0, begins.1, inl (begins.2, two.1))
atlas_begins size o text (inr six) =
    let begins = size_begins size (o.alignment.width ∷ o.alignment.height ∷ o.small_size_threshold ∷ o.large_size_threshold ∷ []) text six
    in
    (begins.0, begins.1, inr begins.2)

some_text : (o : AllocatorOptions) (text : List ℕ) → SpellsOptions o text → 0 < length text
some_text o text spells = let e = ap length spells.2 in omega arith

pub two_end : (o : AllocatorOptions) (rest middle : List ℕ) → rest ≡ middle → length rest ≡ 0 → EndsAtlas o middle
    → DEFAULT_OPTIONS ≡ o
two_end o rest middle e none (inl two) = sym two.1
two_end o rest middle e none (inr six) = let some = some_text o middle six in let f = ap length e in absurd (omega arith)

pub six_end : (o : AllocatorOptions) (rest middle : List ℕ) → rest ≡ middle → 0 < length rest → EndsAtlas o middle
    → SpellsOptions o rest
six_end o rest middle e some (inl two) = let f = ap length (e ∙ two.0) in absurd (omega arith)
six_end o rest middle e some (inr six) = subst (SpellsOptions o) (sym e) six
