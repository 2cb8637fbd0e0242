-- An input has one list of lines, and a line one command.
use Rattle.std.proofs.Common.{◌≡◌, ℕ, ℤ, pos, neg_ℤ, List, [], ◌∷◌, ◌++◌, refl, sym, ap, ◌∙◌, subst, inl, inr, arith, append_assoc}
use Rattle.std.specs.Char.{digit_value}
use Rattle.std.specs.List.{AllByRecursion}
use Rattle.std.specs.Str.Parse.{IsNumeral, digits_value}
use Rattle.guillotiere.specs.declared.Size.{Size}
use Rattle.guillotiere.specs.declared.AllocatorOptions.{AllocatorOptions}
use Rattle.atlas_words.specs.declared.commands.Command.{Command}
use Rattle.atlas_words.specs.declared.commands.Command.TheVariants.{Simple, Take, Atlas, Alloc, Live, Holes, AskSize, Free, Grow, Empty}
use Rattle.atlas_words.specs.declared.commands.Command.TheVariants.{Clear, Rearrange, Resize, FromAtlas, Record, Replay}
use Rattle.atlas_words.specs.Grammar.{SpellsNumber, SpellsNumbers, SpellsSize, SpellsAtlas, SpellsId, Spells, keyword}
use Rattle.atlas_words.specs.Lines.{HasNoEnd, ended, all_ended, AreLines, last_line}
use Rattle.atlas_words.specs.Words.{BeginsWithWord, BeginsWithNumber, SpellsInParts}
use Rattle.atlas_words.proofs.FirstLines.{same_first, no_first}
use Rattle.atlas_words.proofs.PartedWords.{one_word, number_no_space, number_begins, same_size, same_options}
use Rattle.atlas_words.proofs.Keywords.{only_simple, only_take, only_atlas, only_alloc, only_free, only_grow, only_live, only_holes}
use Rattle.atlas_words.proofs.Keywords.{only_size, only_empty, only_clear, only_rearrange, only_resize, only_record, only_from_atlas}
use Rattle.atlas_words.proofs.Keywords.{only_replay, keyword_no_space, arguments_spaced, in_parts}
use Rattle.atlas_lines.proofs.Outcomes.{parted}

-- ---- lines

shifted : (l : List ℕ) (ls : List (List ℕ)) (rest : List ℕ)
    → all_ended (l ∷ ls) ++ rest ≡ l ++ 10 ∷ (all_ended ls ++ rest)
shifted l ls rest = append_assoc (ended l) (all_ended ls) rest ∙ append_assoc l (10 ∷ []) (all_ended ls ++ rest)

same_pieces : (xs ys : List (List ℕ)) (r s : List ℕ) → AllByRecursion HasNoEnd xs → AllByRecursion HasNoEnd ys
    → HasNoEnd r → HasNoEnd s → all_ended xs ++ r ≡ all_ended ys ++ s → (xs ≡ ys) × (r ≡ s)
same_pieces [] [] r s hx hy hr hs e = (refl, e)
same_pieces [] (y ∷ ys) r s hx hy hr hs e = absurd (no_first y (all_ended ys ++ s) r hr (e ∙ shifted y ys s))
same_pieces (x ∷ xs) [] r s hx hy hr hs e = absurd (no_first x (all_ended xs ++ r) s hs (sym e ∙ shifted x xs r))
same_pieces (x ∷ xs) (y ∷ ys) r s hx hy hr hs e =
    let first = same_first x y (all_ended xs ++ r) (all_ended ys ++ s) hx.0 hy.0 (sym (shifted x xs r) ∙ e ∙ shifted y ys s) in
    let more = same_pieces xs ys r s hx.1 hy.1 hr hs first.1 in
    (let f = first.0 in let g = more.0 in cc, more.1)

pub same_lines : (input : List ℕ) (lines others : List (List ℕ)) → AreLines input lines → AreLines input others
    → lines ≡ others
same_lines input lines others a b =
    let same = same_pieces a.before b.before a.rest b.rest a.pieces.each b.pieces.each a.pieces.partial b.pieces.partial
    (sym a.pieces.whole ∙ b.pieces.whole) in
    let f = same.0 in
    let g = same.1 in
    let h = a.lines_are in
    let k = b.lines_are in
    cc

pub some_lines : (input : List ℕ) → (lines : List (List ℕ)) × AreLines input lines
some_lines input = let p = parted input in (
  p.lines ++ last_line p.rest,
  record
      { before = p.lines; rest = p.rest; pieces = p.pieces; lines_are = refl },
)

-- ---- commands

no_minus : (digits : List ℕ) (text : List ℕ) → IsNumeral 10 text → text ≡ 45 ∷ digits → ⊥
no_minus digits [] numeral e = absurd (cc)
no_minus digits (d ∷ ds) numeral e = let value : digit_value d ≡ 36 = ap digit_value (let h : d ≡ 45 = cc in h) in let small =
    numeral.1.0 in omega arith

pub same_number : (y z : ℤ) (text : List ℕ) → SpellsNumber y text → SpellsNumber z text → y ≡ z
same_number y z text a b =
    elim a.1 [
      | inl p ↦ elim b.1 [ inl q ↦ p.1 ∙ sym q.1 | inr q ↦ absurd (no_minus q.0 text p.0 q.1) ]
      | inr p ↦
          elim b.1 [
            | inl q ↦ absurd (no_minus p.0 text q.0 p.1)
            | inr q ↦ let same : p.0 ≡ q.0 = (let e = p.1 in let f = q.1 in cc) in p.3 ∙
                ap (λ (d : List ℕ). neg_ℤ (pos (digits_value 10 d))) same ∙ sym q.3
          ]
    ]

-- The number at the front and what follows it.
same_argument : (text : List ℕ) (y z : ℤ) (r s : List ℕ) → BeginsWithNumber text y r → BeginsWithNumber text z s
    → (y ≡ z) × (r ≡ s)
same_argument text y z r s a b =
    let after : a.word ++ r ≡ b.word ++ s = (let e = a.whole in let f = b.whole in cc) in
    let same = one_word (a.word ++ r) a.word r b.word s
    (record { whole = refl; no_space = number_no_space y a.word a.spells; spaced = a.spaced })
    (record { whole = after; no_space = number_no_space z b.word b.spells; spaced = b.spaced }) in
    let P : List ℕ → Type 0 = SpellsNumber y in
    (same_number y z b.word (subst P same.0 a.spells) b.spells, same.1)

one_list : (text : List ℕ) (ys zs : List ℤ) → SpellsNumbers ys text → SpellsNumbers zs text → ys ≡ zs
one_list text [] [] a b = refl
one_list text [] (z ∷ zs) a b = absurd (let e = a in let f = b.2 in cc)
one_list text (y ∷ ys) [] a b = absurd (let e = a.2 in let f = b in cc)
one_list text (y ∷ ys) (z ∷ zs) a b =
    let same = same_argument text y z a.1 b.1 (number_begins y ys text a) (number_begins z zs text b) in
    let more = one_list b.1 ys zs (subst (SpellsNumbers ys) same.1 a.4) b.4 in
    (let e = same.0 in cc)

pub one_size : (a b : Size) (text : List ℕ) → SpellsSize a text → SpellsSize b text → a ≡ b
one_size a b text p q =
    let e = one_list text (a.width ∷ a.height ∷ []) (b.width ∷ b.height ∷ []) p q in
    let w : a.width ≡ b.width = cc in
    let h : a.height ≡ b.height = cc in
    same_size a b w h

numbers_of : Size → AllocatorOptions → List ℤ
numbers_of size o = size.width ∷ size.height ∷ o.alignment.width ∷ o.alignment.height ∷ o.small_size_threshold ∷ o.large_size_threshold ∷ []

same_numbers : (a b : Size) (o p : AllocatorOptions) → numbers_of a o ≡ numbers_of b p → Atlas a o ≡ Atlas b p
unfolding numbers_of
same_numbers a b o p e =
    let w : a.width ≡ b.width = cc in
    let h : a.height ≡ b.height = cc in
    let across : o.alignment.width ≡ p.alignment.width = cc in
    let down : o.alignment.height ≡ p.alignment.height = cc in
    let small : o.small_size_threshold ≡ p.small_size_threshold = cc in
    let large : o.large_size_threshold ≡ p.large_size_threshold = cc in
    let size : a ≡ b = same_size a b w h in
    let options : o ≡ p = same_options o p (same_size o.alignment p.alignment across down) small large in
    cc

two_or_six : (a b : Size) (p : AllocatorOptions) (text : List ℕ) → SpellsSize a text
    → SpellsNumbers (numbers_of b p) text → ⊥
unfolding numbers_of
two_or_six a b p text two six = let e = one_list text (a.width ∷ a.height ∷ []) (numbers_of b p) two six in absurd (cc)

pub one_atlas : (a b : Size) (o p : AllocatorOptions) (text : List ℕ) → SpellsAtlas a o text → SpellsAtlas b p text
    → Atlas a o ≡ Atlas b p
unfolding numbers_of
one_atlas a b o p text (inl x) (inl y) = let size = one_size a b text x.0 y.0 in let e = x.1 in let f = y.1 in cc
one_atlas a b o p text (inl x) (inr y) = absurd (two_or_six a b p text x.0 y)
one_atlas a b o p text (inr x) (inl y) = absurd (two_or_six b a o text y.0 x)
one_atlas a b o p text (inr x) (inr y) = same_numbers a b o p (one_list text (numbers_of a o) (numbers_of b p) x y)

pub one_id : (a b : ℕ) (text : List ℕ) → SpellsId a text → SpellsId b text → a ≡ b
one_id a b text p q =
    let word : p.0 ≡ q.0 = (let e = p.1 in let f = q.1 in cc) in
    p.2.1 ∙ ap (digits_value 10) word ∙ sym q.2.1

-- The keyword at the front of a line that spells a command.
begins_with_keyword : (c : Command) (line : List ℕ) (spells : Spells c line) → BeginsWithWord line (keyword c) spells.0
begins_with_keyword c line spells = record {
  whole = spells.1;
  no_space = keyword_no_space c;
  spaced =
      arguments_spaced c spells.0 spells.2;
}

same_parts : (word rest : List ℕ) (c d : Command) → SpellsInParts c word rest → SpellsInParts d word rest → c ≡ d
same_parts word rest (Simple size) d spells other = let is = only_simple d word rest spells.0 other in
    ap (λ s. Simple s) (one_size size is.0 rest spells.1 is.2) ∙ sym is.1
same_parts word rest (Take size) d spells other = let is = only_take d word rest spells.0 other in
    ap (λ s. Take s) (one_size size is.0 rest spells.1 is.2) ∙ sym is.1
same_parts word rest (Atlas size options) d spells other = let is = only_atlas d word rest spells.0 other in
    one_atlas size is.0 options is.1 rest spells.1 is.3 ∙ sym is.2
same_parts word rest (Alloc size) d spells other = let is = only_alloc d word rest spells.0 other in
    ap (λ s. Alloc s) (one_size size is.0 rest spells.1 is.2) ∙ sym is.1
same_parts word rest (Free id) d spells other = let is = only_free d word rest spells.0 other in
    ap (λ s. Free s) (one_id id is.0 rest spells.1 is.2) ∙ sym is.1
same_parts word rest (Grow size) d spells other = let is = only_grow d word rest spells.0 other in
    ap (λ s. Grow s) (one_size size is.0 rest spells.1 is.2) ∙ sym is.1
same_parts word rest Live d spells other = sym (only_live d word rest spells.0 other).0
same_parts word rest Holes d spells other = sym (only_holes d word rest spells.0 other).0
same_parts word rest AskSize d spells other = sym (only_size d word rest spells.0 other).0
same_parts word rest Empty d spells other = sym (only_empty d word rest spells.0 other).0
same_parts word rest Clear d spells other = sym (only_clear d word rest spells.0 other).0
same_parts word rest Rearrange d spells other = sym (only_rearrange d word rest spells.0 other).0
same_parts word rest (Record size) d spells other = let is = only_record d word rest spells.0 other in
    ap (λ s. Record s) (one_size size is.0 rest spells.1 is.2) ∙ sym is.1
same_parts word rest (Resize size) d spells other = let is = only_resize d word rest spells.0 other in
    ap (λ s. Resize s) (one_size size is.0 rest spells.1 is.2) ∙ sym is.1
same_parts word rest FromAtlas d spells other = sym (only_from_atlas d word rest spells.0 other).0
same_parts word rest Replay d spells other = sym (only_replay d word rest spells.0 other).0

pub same_command : (line : List ℕ) (c d : Command) → Spells c line → Spells d line → c ≡ d
same_command line c d spells other = same_parts (keyword c) spells.0 c d (refl, spells.2)
    (in_parts d line (keyword c) spells.0 (begins_with_keyword c line spells) other)
