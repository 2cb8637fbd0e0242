-- The names of the sprites that were looked at.
use Rattle.std.proofs.Common.{◌≡◌, ◌≢◌, ℕ, ◌+◌, ◌<◌, ◌⊎◌, Bool, true, false, cond, ◌||◌, not, List, length, take, get_or, string_bytes}
use Rattle.std.proofs.Common.{refl, sym, ap, ◌∙◌, arith, inl, inr}
use Rattle.std.specs.BTreeSet.{BTreeSet, Updates, contains}
use Rattle.std.specs.Cmp.Lexicographic.{slice_cmp}
use Rattle.std.specs.List.{list_any}
use Rattle.std.specs.Ordering.{is_eq, nat_cmp}
use Rattle.std.specs.declared.cmp.Ordering.{Ordering}
use Rattle.std.proofs.lemmas.Bool.{both_ways}
use Rattle.std.proofs.lemmas.List.{get_or-take, get_or_default, length-take-le}
use Rattle.std.proofs.lemmas.List.Folds.{Any-from_list_any, list_any_at, list_any_more}
use Rattle.std.proofs.lemmas.Map.Text.{is_eq-slice_cmp}
use Rattle.std.proofs.lemmas.Slice.Eq.{bytes_eq-Decides}
use denote.Ref.{Bor}
use Rattle.atlas_pack.specs.declared.sprites.Sprite.{Sprite}
use Rattle.atlas_pack.specs.Names.{IsNamedAgain}

abbrev pub by_name : Bor (List ℕ) → Bor (List ℕ) → Ordering
by_name x y = slice_cmp nat_cmp x.now y.now

-- Whether a sprite has a name.
abbrev pub named : Bor (List ℕ) → Sprite → Bool
named name sprite = is_eq (slice_cmp nat_cmp (string_bytes sprite.name) name.now)

pub same_by_test : (name : Bor (List ℕ)) (s : Sprite) → named name s ≡ true → string_bytes s.name ≡ name.now
same_by_test name s e = (bytes_eq-Decides (string_bytes s.name) name.now).0 (sym (is_eq-slice_cmp (string_bytes s.name) name.now) ∙ e)

pub test_by_same : (name : Bor (List ℕ)) (s : Sprite) → string_bytes s.name ≡ name.now → named name s ≡ true
test_by_same name s e = is_eq-slice_cmp (string_bytes s.name) name.now ∙ (bytes_eq-Decides (string_bytes s.name) name.now).1 e

cond_or : (a b : Bool) → cond a true b ≡ (b || a)
cond_or true true = refl
cond_or true false = refl
cond_or false true = refl
cond_or false false = refl

-- One more name is known.
pub known_more : (xs : List Sprite) (i : ℕ) (x : Sprite) (key : Bor (List ℕ)) (old new : BTreeSet (Bor (List ℕ)))
    → i < length xs → get_or xs i x ≡ x
    → key.now ≡ string_bytes x.name → Updates by_name old new key true
    → ((q : Bor (List ℕ)) → contains by_name old q ≡ list_any (named q) (take i xs))
    → (q : Bor (List ℕ)) → contains by_name new q ≡ list_any (named q) (take (i + 1) xs)
known_more xs i x key old new low at same updates known q =
    updates.0 q ∙ ap (λ (b : List ℕ). cond (is_eq (slice_cmp nat_cmp b q.now)) true (contains by_name old q)) same ∙
    ap (λ (b : Bool). cond (named q x) true b) (known q) ∙ cond_or (named q x) (list_any (named q) (take i xs))
    ∙ ap (λ (s : Sprite). list_any (named q) (take i xs) || named q s) (sym at) ∙ sym (list_any_more (named q) xs i x low)

-- No two of the first sprites have one name.
abbrev pub HaveNamesApart : List Sprite → ℕ → Type 0
HaveNamesApart xs i = (j k : ℕ) (d : Sprite) → j < k → k < i → string_bytes (get_or xs j d).name ≢ string_bytes (get_or xs k d).name

same_or_below : (k i : ℕ) → k < i + 1 → (k ≡ i) ⊎ (k < i)
same_or_below k i h = grind arith

pub apart_more : (xs : List Sprite) (i : ℕ) (x : Sprite) (key : Bor (List ℕ)) → i < length xs → get_or xs i x ≡ x
    → key.now ≡ string_bytes x.name
    → list_any (named key) (take i xs) ≡ false
    → HaveNamesApart xs i → HaveNamesApart xs (i + 1)
apart_more xs i x key low at name none apart j k d first last same =
    elim (same_or_below k i last) [
      | inr below ↦ apart j k d first below same
      | inl e ↦
          let lower : j < i = omega arith in
          let here : string_bytes (get_or xs k d).name ≡ key.now =
          ap (λ (n : ℕ). string_bytes (get_or xs n d).name) e ∙ ap (λ (s : Sprite). string_bytes s.name)
          (get_or_default xs i d x low ∙ at) ∙ sym name in
          let short : j < length (take i xs) = omega (arith, length-take-le i xs (omega arith)) in
          let test : named key (get_or (take i xs) j d) ≡ true =
          test_by_same key (get_or (take i xs) j d) (ap (λ (s : Sprite). string_bytes s.name) (get_or-take i xs j d lower) ∙ same ∙ here) in
          both_ways _ none (list_any_at (named key) (take i xs) j d short test)
    ]

-- A name that is known stands on an earlier line.
pub named_again : (xs : List Sprite) (i : ℕ) (x : Sprite) (key : Bor (List ℕ)) → i < length xs → get_or xs i x ≡ x
    → key.now ≡ string_bytes x.name
    → list_any (named key) (take i xs) ≡ true → IsNamedAgain xs i
named_again xs i x key low at name some =
    let found = Any-from_list_any (named key) (take i xs) some in
    let lower : found.0 < i = omega (arith, found.2, length-take-le i xs (omega arith)) in (
      low,
      λ d. (
        found.0,
        lower,
        ap (λ (s : Sprite). string_bytes s.name) (get_or_default xs found.0 d found.1 (omega arith) ∙
            sym (get_or-take i xs found.0 found.1 lower) ∙ found.3)
            ∙ same_by_test key found.1 found.4 ∙ name ∙ sym (ap (λ (s : Sprite). string_bytes s.name) (get_or_default xs i d x low ∙ at)),
      ),
    )

pub not_new : (b added : Bool) → added ≡ not b → added ≡ false → b ≡ true
not_new true added e f = refl
not_new false added e f = absurd (cc)

pub is_new : (b added : Bool) → added ≡ not b → added ≡ true → b ≡ false
is_new true added e f = absurd (cc)
is_new false added e f = refl
