-- Which setting a word and its numbers are.
use Rattle.std.proofs.Common.{◌≡◌, ℕ, ◌<◌, ◌≤◌, ◌⊎◌, inl, inr, ℤ, pos, Bool, true, cond, List, [], ◌∷◌, ◌++◌, codes, length, Some, None}
use Rattle.std.proofs.Common.{refl, sym, ap, ◌∙◌, subst, arith}
use Rattle.std.proofs.lemmas.Bool.{lt-ltb}
use Rattle.atlas_words.specs.Words.{IsEmptyOrSpaced, BeginsWithWord, BeginsWithNumber}
use Rattle.atlas_words.proofs.Keywords.{has_no_space, no_space_by_test}
use Rattle.atlas_words.proofs.PartedWords.{one_word}
use Rattle.atlas_pack.specs.declared.settings.Setting.{Setting}
use Rattle.atlas_pack.specs.declared.settings.Setting.TheVariants.{Allowed, Padding, Align, Turn, Effort, Seed, Fill, Dense, Json, Pages}
use Rattle.atlas_pack.specs.declared.settings.Setting.TheVariants.{Group}
use Rattle.atlas_pack.specs.declared.settings.Sheets.TheVariants.{One, Squares, Powers, Heights}
use Rattle.atlas_pack.specs.Settings.{setting_name, arguments, BeginsWithNumbers, BeginsWithSetting, IsSmall, padding_of, setting_alone}
use Rattle.atlas_pack.specs.Settings.{setting_with_number, setting_with_numbers}

keyword_test : (s : Setting) → has_no_space (setting_name s) ≡ true
unfolding has_no_space
keyword_test (Allowed (One size)) = refl
keyword_test (Allowed (Squares least greatest)) = refl
keyword_test (Allowed (Powers greatest)) = refl
keyword_test (Allowed (Heights width greatest)) = refl
keyword_test (Padding n) = refl
keyword_test (Align size) = refl
keyword_test Turn = refl
keyword_test (Effort n) = refl
keyword_test (Seed n) = refl
keyword_test Fill = refl
keyword_test Dense = refl
keyword_test Json = refl
keyword_test (Pages n) = refl
keyword_test Group = refl

numbers_spaced : (zs : List ℤ) (text rest : List ℕ) → BeginsWithNumbers zs text rest → IsEmptyOrSpaced text
numbers_spaced [] text rest h = subst IsEmptyOrSpaced (sym h.0) h.1
numbers_spaced (z ∷ zs) text rest h = subst IsEmptyOrSpaced (sym h.1.whole) refl

-- The word after the space is the setting's, and its numbers follow.
pub setting_word : (s : Setting) (text after word tail rest : List ℕ) (first : ℕ) → text ≡ first ∷ after
    → BeginsWithWord after word tail
    → BeginsWithSetting s text rest → (word ≡ setting_name s) × BeginsWithNumbers (arguments s) tail rest
setting_word s text after word tail rest first e parted begins =
    let whole : after ≡ setting_name s ++ begins.after = (let f = begins.whole in cc) in
    let same = one_word after word tail (setting_name s) begins.after parted
    (record {
      whole = whole;
      no_space = no_space_by_test (setting_name s) (keyword_test s);
      spaced =
          numbers_spaced (arguments s) begins.after rest begins.numbers;
    }) in
    (same.0, subst (λ (t : List ℕ). BeginsWithNumbers (arguments s) t rest) (sym same.1) begins.numbers)

-- A setting has no number, one or two.
pub by_count : (s : Setting) → length (arguments s) ≤ 2
by_count (Allowed (One size)) = omega arith
by_count (Allowed (Squares least greatest)) = omega arith
by_count (Allowed (Powers greatest)) = omega arith
by_count (Allowed (Heights width greatest)) = omega arith
by_count (Padding n) = omega arith
by_count (Align size) = omega arith
by_count Turn = omega arith
by_count (Effort n) = omega arith
by_count (Seed n) = omega arith
by_count Fill = omega arith
by_count Dense = omega arith
by_count Json = omega arith
by_count (Pages n) = omega arith
by_count Group = omega arith

none_alone : (s : Setting) (z : ℤ) (zs : List ℤ) → arguments s ≡ z ∷ zs → setting_alone (setting_name s) ≡ None
none_alone (Allowed (One size)) z zs e = refl
none_alone (Allowed (Squares least greatest)) z zs e = refl
none_alone (Allowed (Powers greatest)) z zs e = refl
none_alone (Allowed (Heights width greatest)) z zs e = refl
none_alone (Padding n) z zs e = refl
none_alone (Align size) z zs e = refl
none_alone Turn z zs e = absurd (cc)
none_alone (Effort n) z zs e = refl
none_alone (Seed n) z zs e = refl
none_alone Fill z zs e = absurd (cc)
none_alone Dense z zs e = absurd (cc)
none_alone Json z zs e = absurd (cc)
none_alone (Pages n) z zs e = refl
none_alone Group z zs e = absurd (cc)

some_alone : (s : Setting) → arguments s ≡ [] → setting_alone (setting_name s) ≡ Some s
some_alone (Allowed (One size)) e = absurd (cc)
some_alone (Allowed (Squares least greatest)) e = absurd (cc)
some_alone (Allowed (Powers greatest)) e = absurd (cc)
some_alone (Allowed (Heights width greatest)) e = absurd (cc)
some_alone (Padding n) e = absurd (cc)
some_alone (Align size) e = absurd (cc)
some_alone Turn e = refl
some_alone (Effort n) e = absurd (cc)
some_alone (Seed n) e = absurd (cc)
some_alone Fill e = refl
some_alone Dense e = refl
some_alone Json e = refl
some_alone (Pages n) e = absurd (cc)
some_alone Group e = refl

small_padding : (n : ℕ) → n < 65536 → padding_of (Some n) ≡ Some (Padding n)
small_padding n h = ap (λ (b : Bool). cond b (Some (Padding n)) None) (lt-ltb n 65536 h)

some_with_number : (s : Setting) (z : ℤ) → IsSmall s → arguments s ≡ z ∷ []
    → setting_with_number (setting_name s) z ≡ Some s
some_with_number (Allowed (One size)) z h e = absurd (cc)
some_with_number (Allowed (Squares least greatest)) z h e = absurd (cc)
some_with_number (Allowed (Powers greatest)) z h e = let same : greatest ≡ z = cc in ap (λ (n : ℤ). Some (Allowed (Powers n))) (sym same)
some_with_number (Allowed (Heights width greatest)) z h e = absurd (cc)
some_with_number (Padding n) z h e = let same : pos n ≡ z = cc in subst
    (λ (y : ℤ). setting_with_number (codes "padding") y ≡ Some (Padding n)) same (small_padding n h)
some_with_number (Align size) z h e = absurd (cc)
some_with_number Turn z h e = absurd (cc)
some_with_number (Effort n) z h e = let same : pos n ≡ z = cc in subst (λ (y : ℤ). setting_with_number (codes "effort") y ≡ Some (Effort n))
    same refl
some_with_number (Seed n) z h e = let same : pos n ≡ z = cc in subst (λ (y : ℤ). setting_with_number (codes "seed") y ≡ Some (Seed n)) same
    refl
some_with_number Fill z h e = absurd (cc)
some_with_number Dense z h e = absurd (cc)
some_with_number Json z h e = absurd (cc)
some_with_number (Pages n) z h e = let same : pos n ≡ z = cc in subst (λ (y : ℤ). setting_with_number (codes "pages") y ≡ Some (Pages n))
    same refl
some_with_number Group z h e = absurd (cc)

none_with_number : (s : Setting) (z y : ℤ) (zs : List ℤ) → arguments s ≡ z ∷ y ∷ zs
    → setting_with_number (setting_name s) z ≡ None
none_with_number (Allowed (One size)) z y zs e = refl
none_with_number (Allowed (Squares least greatest)) z y zs e = refl
none_with_number (Allowed (Powers greatest)) z y zs e = absurd (cc)
none_with_number (Allowed (Heights width greatest)) z y zs e = refl
none_with_number (Padding n) z y zs e = absurd (cc)
none_with_number (Align size) z y zs e = refl
none_with_number Turn z y zs e = absurd (cc)
none_with_number (Effort n) z y zs e = absurd (cc)
none_with_number (Seed n) z y zs e = absurd (cc)
none_with_number Fill z y zs e = absurd (cc)
none_with_number Dense z y zs e = absurd (cc)
none_with_number Json z y zs e = absurd (cc)
none_with_number (Pages n) z y zs e = absurd (cc)
none_with_number Group z y zs e = absurd (cc)

some_with_numbers : (s : Setting) (z y : ℤ) → arguments s ≡ z ∷ y ∷ []
    → setting_with_numbers (setting_name s) z y ≡ Some s
some_with_numbers (Allowed (One size)) z y e = let a : size.width ≡ z = cc in let b : size.height ≡ y = cc in
    sym (λ k. Some (Allowed (One (record { width = a k; height = b k }))))
some_with_numbers (Allowed (Squares least greatest)) z y e = let a : least ≡ z = cc in let b : greatest ≡ y = cc in
    sym (λ k. Some (Allowed (Squares (a k) (b k))))
some_with_numbers (Allowed (Powers greatest)) z y e = absurd (cc)
some_with_numbers (Allowed (Heights width greatest)) z y e = let a : width ≡ z = cc in let b : greatest ≡ y = cc in
    sym (λ k. Some (Allowed (Heights (a k) (b k))))
some_with_numbers (Padding n) z y e = absurd (cc)
some_with_numbers (Align size) z y e = let a : size.width ≡ z = cc in let b : size.height ≡ y = cc in
    sym (λ k. Some (Align (record { width = a k; height = b k })))
some_with_numbers Turn z y e = absurd (cc)
some_with_numbers (Effort n) z y e = absurd (cc)
some_with_numbers (Seed n) z y e = absurd (cc)
some_with_numbers Fill z y e = absurd (cc)
some_with_numbers Dense z y e = absurd (cc)
some_with_numbers Json z y e = absurd (cc)
some_with_numbers (Pages n) z y e = absurd (cc)
some_with_numbers Group z y e = absurd (cc)

-- How a word and the numbers after it are a setting.
abbrev pub IsLoneSetting : (s : Setting) (word tail rest : List ℕ) → Type 0
IsLoneSetting s word tail rest = (setting_alone word ≡ Some s) × (tail ≡ rest)

pub record HasNumber (s : Setting) (word tail rest : List ℕ) : Type 0 where
  pub not_alone : setting_alone word ≡ None
  pub z : ℤ
  pub begins : BeginsWithNumber tail z rest
  pub is : setting_with_number word z ≡ Some s

pub record HasNumbers (s : Setting) (word tail rest : List ℕ) : Type 0 where
  pub not_alone : setting_alone word ≡ None
  pub z : ℤ
  pub middle : List ℕ
  pub begins : BeginsWithNumber tail z middle
  pub not_one : setting_with_number word z ≡ None
  pub y : ℤ
  pub ends : BeginsWithNumber middle y rest
  pub is : setting_with_numbers word z y ≡ Some s

abbrev pub IsSettingChosen : (s : Setting) (word tail rest : List ℕ) → Type 0
IsSettingChosen s word tail rest = IsLoneSetting s word tail rest ⊎ (HasNumber s word tail rest ⊎ HasNumbers s word tail rest)

chosen_by : (s : Setting) (zs : List ℤ) (tail rest : List ℕ) → arguments s ≡ zs → IsSmall s
    → BeginsWithNumbers zs tail rest → IsSettingChosen s (setting_name s) tail rest
chosen_by s [] tail rest e small h = inl (some_alone s e, h.0)
chosen_by s (z ∷ []) tail rest e small h =
    inr (inl (record {
      not_alone = none_alone s z [] e;
      z = z;
      begins = subst (λ (r : List ℕ). BeginsWithNumber tail z r) h.2.0 h.1;
      is = some_with_number s z small e;
    }))
chosen_by s (z ∷ y ∷ []) tail rest e small h =
    inr (inr (record {
      not_alone = none_alone s z (y ∷ []) e;
      z = z;
      middle = h.0;
      begins = h.1;
      not_one = none_with_number s z y [] e;
      y = y;
      ends = subst (λ (r : List ℕ). BeginsWithNumber h.0 y r) h.2.2.0 h.2.1;
      is = some_with_numbers s z y e;
    }))
chosen_by s (z ∷ y ∷ x ∷ more) tail rest e small h =
    let many : length (arguments s) ≡ length (z ∷ y ∷ x ∷ more) = ap length e in
    absurd (omega (arith, many, by_count s))

-- What a text begins with is chosen by the word after its space and the numbers after that.
pub chosen : (s : Setting) (text after word tail rest : List ℕ) (first : ℕ) → text ≡ first ∷ after
    → BeginsWithWord after word tail
    → BeginsWithSetting s text rest → IsSettingChosen s word tail rest
chosen s text after word tail rest first e parted begins =
    let parts = setting_word s text after word tail rest first e parted begins in
    subst (λ (w : List ℕ). IsSettingChosen s w tail rest) (sym parts.0) (chosen_by s (arguments s) tail rest refl begins.small parts.1)

-- A first number follows where no word is alone.
pub first_follows : (s : Setting) (word tail rest : List ℕ) → IsSettingChosen s word tail rest
    → None ≡ setting_alone word
    → (z : ℤ) × (r : List ℕ) × BeginsWithNumber tail z r
first_follows s word tail rest (inl h) e = let is = h.0 in absurd (cc)
first_follows s word tail rest (inr (inl h)) e = (h.z, rest, h.begins)
first_follows s word tail rest (inr (inr h)) e = (h.z, h.middle, h.begins)

-- The number that was read is the one that follows.
abbrev pub IsRead : (tail : List ℕ) → (first : ℤ) → (after : List ℕ) → Type 0
IsRead tail first after = (z : ℤ) (r : List ℕ) → BeginsWithNumber tail z r → (first ≡ z) × (after ≡ r)

pub by_number : (s found : Setting) (word tail rest after : List ℕ) (first : ℤ) → IsSettingChosen s word tail rest
    → None ≡ setting_alone word
    → IsRead tail first after → Some found ≡ setting_with_number word first → (found ≡ s) × (after ≡ rest)
by_number s found word tail rest after first (inl h) e read is = let alone = h.0 in absurd (cc)
by_number s found word tail rest after first (inr (inl h)) e read is =
    let same = read h.z rest h.begins in
    let one : setting_with_number word first ≡ Some s = ap (setting_with_number word) same.0 ∙ h.is in
    (cc, same.1)
by_number s found word tail rest after first (inr (inr h)) e read is =
    let same = read h.z h.middle h.begins in
    let none : setting_with_number word first ≡ None = ap (setting_with_number word) same.0 ∙ h.not_one in
    absurd (cc)

-- A second number follows where one isn't enough.
pub second_follows : (s : Setting) (word tail rest after : List ℕ) (first : ℤ) → IsSettingChosen s word tail rest
    → None ≡ setting_alone word
    → IsRead tail first after → None ≡ setting_with_number word first
    → (y : ℤ) × BeginsWithNumber after y rest × (setting_with_numbers word first y ≡ Some s)
second_follows s word tail rest after first (inl h) e read not = let alone = h.0 in absurd (cc)
second_follows s word tail rest after first (inr (inl h)) e read not =
    let same = read h.z rest h.begins in
    let one : setting_with_number word first ≡ Some s = ap (setting_with_number word) same.0 ∙ h.is in
    absurd (cc)
second_follows s word tail rest after first (inr (inr h)) e read not =
    let same = read h.z h.middle h.begins in (
      h.y,
      subst (λ (t : List ℕ). BeginsWithNumber t h.y rest) (sym same.1) h.ends,
      ap (λ (n : ℤ). setting_with_numbers word n h.y) same.0 ∙
          h.is,
    )
