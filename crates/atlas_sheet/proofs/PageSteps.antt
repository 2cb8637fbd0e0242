-- Sprites that are put on one sheet after another.
use Rattle.std.proofs.Common.{◌≡◌, ◌==◌, ◌+◌, ◌<◌, ◌≤◌, ◌⊎◌, ℕ, zero, suc, replicate, true, false, cond, nat_le, is_none, inl, inr, List}
use Rattle.std.proofs.Common.{[], ◌∷◌, ◌++◌, length, drop, get_or, append-nil, add-one, All, Option, Some, None, IfSome, IsNone, IsSome}
use Rattle.std.proofs.Common.{refl, ap, sym, subst, ◌∙◌, arith}
use Rattle.std.proofs.lemmas.Bool.{cases_lt, cond-false, cond-true, eq-eqb, le-leb, lt-leb, ne_eqb}
use Rattle.std.proofs.Math.ListN.{drop_of_length-le}
use Rattle.std.proofs.Math.Seq.{drop-cons}
use Rattle.std.proofs.lemmas.List.{append_assoc, get_or_append_left, get_or_push, length-append, length-replicate}
use Rattle.std.proofs.lemmas.List.Elements.{All-nil, All-cons, All-head, All-tail, All-weaker}
use Rattle.guillotiere.specs.declared.Size.{Size}
use Rattle.guillotiere.specs.Boxes.{Sides}
use Rattle.guillotiere.specs.Pixels.{sides_of}
use Rattle.atlas_sheet.specs.declared.paging.OnPage.{OnPage}
use Rattle.atlas_sheet.specs.declared.placed.Placed.{Placed}
use Rattle.atlas_sheet.specs.Paging.{ArePagesBy, holes, page_sides, place_on, places_on, put_on, sprites_from, sprites_left}

-- A place on a sheet before this one.
abbrev pub LiesEarlier : (page : ℕ) → Option OnPage → Type 0
LiesEarlier page p = IfSome p (λ q. q.page < page)

-- What a sheet adds leaves who is from an earlier one on.
pub same_from : (j k : ℕ) → j ≤ k → (sprites : List Size) (places : List (Option OnPage)) (found : List (Option Placed))
    → sprites_from j sprites (put_on k places found) ≡ sprites_from j sprites places
same_from j k le [] places found = refl
same_from j k le (s ∷ sprites) [] found = refl
same_from j k le (s ∷ sprites) (Some p ∷ places) found =
    ap (λ xs. cond (nat_le j p.page) (s ∷ xs) xs) (same_from j k le sprites places found)
same_from j k le (s ∷ sprites) (None ∷ places) [] = refl
same_from j k le (s ∷ sprites) (None ∷ places) (None ∷ found) = ap (λ xs. s ∷ xs) (same_from j k le sprites places found)
same_from j k le (s ∷ sprites) (None ∷ places) (Some f ∷ found) =
    cond-true (nat_le j k) (s ∷ sprites_from j sprites (put_on k places found)) (sprites_from j sprites (put_on k places found))
    (le-leb j k le)
    ∙ ap (λ xs. s ∷ xs) (same_from j k le sprites places found)

-- Nor does it add a place on an earlier one.
pub same_on : (j k : ℕ) → j < k → (places : List (Option OnPage)) (found : List (Option Placed))
    → places_on j (put_on k places found) ≡ places_on j places
same_on j k less [] found = refl
same_on j k less (Some p ∷ places) found =
    ap (λ xs. cond (nat_le j p.page) (place_on j (Some p) ∷ xs) xs) (same_on j k less places found)
same_on j k less (None ∷ places) [] = refl
same_on j k less (None ∷ places) (None ∷ found) = ap (λ xs. None ∷ xs) (same_on j k less places found)
same_on j k less (None ∷ places) (Some f ∷ found) =
    cond-true (nat_le j k) (cond (k == j) (Some f) None ∷ places_on j (put_on k places found)) (places_on j (put_on k places found))
    (le-leb j k (omega (arith, less)))
    ∙ (λ i. cond-false (k == j) (Some f) None (ne_eqb k j (λ e. let same : k ≡ j = e in absurd (omega (arith, less)))) i ∷ same_on j k less
    places found i)

-- Of places on earlier sheets, those from this one on are those that are missing.
pub left_from : (k : ℕ) (sprites : List Size) (places : List (Option OnPage)) → All (LiesEarlier k) places
    → sprites_from k sprites places ≡ sprites_left sprites places
left_from k [] places before = refl
left_from k (s ∷ sprites) [] before = refl
left_from k (s ∷ sprites) (None ∷ places) before =
    ap (λ xs. s ∷ xs) (left_from k sprites places (All-tail (LiesEarlier k) None places before))
left_from k (s ∷ sprites) (Some p ∷ places) before =
    cond-false (nat_le k p.page) (s ∷ sprites_from k sprites places) (sprites_from k sprites places)
    (lt-leb k p.page (All-head (LiesEarlier k) (Some p) places before))
    ∙ left_from k sprites places (All-tail (LiesEarlier k) (Some p) places before)

-- What was found on the new sheet is what lies there.
pub found_there : (k : ℕ) (places : List (Option OnPage)) (found : List (Option Placed)) → All (LiesEarlier k) places
    → length found ≡ holes places
    → places_on k (put_on k places found) ≡ found
found_there k [] [] before long = refl
found_there k [] (f ∷ found) before long = absurd (omega (arith, long))
found_there k (Some p ∷ places) found before long =
    cond-false (nat_le k p.page) (place_on k (Some p) ∷ places_on k (put_on k places found)) (places_on k (put_on k places found))
    (lt-leb k p.page (All-head (LiesEarlier k) (Some p) places before))
    ∙ found_there k places found (All-tail (LiesEarlier k) (Some p) places before) long
found_there k (None ∷ places) [] before long = absurd (omega (arith, long))
found_there k (None ∷ places) (None ∷ found) before long =
    ap (λ xs. None ∷ xs) (found_there k places found (All-tail (LiesEarlier k) None places before) (omega (arith, long)))
found_there k (None ∷ places) (Some f ∷ found) before long =
    cond-true (nat_le k k) (cond (k == k) (Some f) None ∷ places_on k (put_on k places found)) (places_on k (put_on k places found))
    (le-leb k k (omega arith))
    ∙ (λ i. cond-true (k == k) (Some f) None (eq-eqb k k refl) i
    ∷ found_there k places found (All-tail (LiesEarlier k) None places before) (omega (arith, long)) i)

one_before : (k : ℕ) (p : Option OnPage) → LiesEarlier k p → LiesEarlier (k + 1) p
one_before k None before = tt
one_before k (Some p) before = omega (arith, before)

put_before : (k : ℕ) (places : List (Option OnPage)) (found : List (Option Placed)) → All (LiesEarlier k) places
    → All (LiesEarlier (k + 1)) (put_on k places found)
put_before k [] found before = All-nil (LiesEarlier (k + 1))
put_before k (Some p ∷ places) found before =
    All-cons (LiesEarlier (k + 1)) (Some p) (put_on k places found) (one_before k (Some p)
    (All-head (LiesEarlier k) (Some p) places before))
    (put_before k places found (All-tail (LiesEarlier k) (Some p) places before))
put_before k (None ∷ places) [] before = All-weaker (LiesEarlier k) (LiesEarlier (k + 1)) (one_before k) (None ∷ places) before
put_before k (None ∷ places) (None ∷ found) before =
    All-cons (LiesEarlier (k + 1)) None (put_on k places found) tt (put_before k places found (All-tail (LiesEarlier k) None places before))
put_before k (None ∷ places) (Some f ∷ found) before =
    All-cons (LiesEarlier (k + 1)) (Some (record { page = k; placed = f })) (put_on k places found) (omega arith)
    (put_before k places found (All-tail (LiesEarlier k) None places before))

pub put_long : (k : ℕ) (places : List (Option OnPage)) (found : List (Option Placed))
    → length (put_on k places found) ≡ length places
put_long k [] found = refl
put_long k (Some p ∷ places) found = ap suc (put_long k places found)
put_long k (None ∷ places) [] = refl
put_long k (None ∷ places) (None ∷ found) = ap suc (put_long k places found)
put_long k (None ∷ places) (Some f ∷ found) = ap suc (put_long k places found)

-- As many sprites are left as places are missing.
pub left_long : (sprites : List Size) (places : List (Option OnPage)) → length places ≡ length sprites
    → length (sprites_left sprites places) ≡ holes places
left_long [] [] long = refl
left_long [] (p ∷ places) long = absurd (omega (arith, long))
left_long (s ∷ sprites) [] long = absurd (omega (arith, long))
left_long (s ∷ sprites) (None ∷ places) long = ap suc (left_long sprites places (omega (arith, long)))
left_long (s ∷ sprites) (Some p ∷ places) long = left_long sprites places (omega (arith, long))

no_more : (k : ℕ) (places : List (Option OnPage)) (found : List (Option Placed))
    → holes (put_on k places found) ≤ holes places
no_more k [] found = omega arith
no_more k (Some p ∷ places) found = no_more k places found
no_more k (None ∷ places) [] = omega arith
no_more k (None ∷ places) (None ∷ found) = let le : holes (put_on k places found) ≤ holes places = no_more k places found in
    omega (arith, le)
no_more k (None ∷ places) (Some f ∷ found) = let le : holes (put_on k places found) ≤ holes places = no_more k places found in
    omega (arith, le)

-- A sheet on which one is found leaves fewer without a place.
pub fewer : (k : ℕ) (places : List (Option OnPage)) (found : List (Option Placed)) → length found ≡ holes places
    → (All IsNone found → ⊥) → holes (put_on k places found) < holes places
fewer k [] [] long some = absurd (some (All-nil IsNone))
fewer k [] (f ∷ found) long some = absurd (omega (arith, long))
fewer k (Some p ∷ places) found long some = fewer k places found long some
fewer k (None ∷ places) [] long some = absurd (omega (arith, long))
fewer k (None ∷ places) (None ∷ found) long some =
    let less : holes (put_on k places found) < holes places = fewer k places found (omega (arith, long))
    (λ none. some (All-cons IsNone None found refl none)) in
    omega (arith, less)
fewer k (None ∷ places) (Some f ∷ found) long some =
    let le : holes (put_on k places found) ≤ holes places = no_more k places found in
    omega (arith, le)

pub all_there : (places : List (Option OnPage)) → holes places ≡ 0 → All IsSome places
all_there [] none = All-nil IsSome
all_there (Some p ∷ places) none = All-cons IsSome (Some p) places refl (all_there places none)
all_there (None ∷ places) none = absurd (omega (arith, none))

-- Each of the sprites that are left is one of the sprites.
pub all_left : (P : Size → Type 0) (sprites : List Size) (places : List (Option OnPage)) → All P sprites
    → All P (sprites_left sprites places)
all_left P [] places each = All-nil P
all_left P (s ∷ sprites) [] each = All-nil P
all_left P (s ∷ sprites) (None ∷ places) each =
    All-cons P s (sprites_left sprites places) (All-head P s sprites each) (all_left P sprites places (All-tail P s sprites each))
all_left P (s ∷ sprites) (Some p ∷ places) each = all_left P sprites places (All-tail P s sprites each)

module _ (rule : List Size → Sides → List (Option Placed) → Type 0) (sprites sizes : List Size) (places : List (Option OnPage))
    (are : ArePagesBy rule sprites sizes places)
    (size : Size) (found : List (Option Placed)) (long : length found ≡ holes places)
    (next : rule (sprites_left sprites places) (sides_of size) found) where
  abbrev n : ℕ
  n = length sizes

  more : length (sizes ++ size ∷ []) ≡ n + 1
  more = length-append sizes (size ∷ [])

  old_page : (page : ℕ) → page < n
      → rule (sprites_from page sprites (put_on n places found)) (page_sides (sizes ++ size ∷ []) page)
      (places_on page (put_on n places found))
  old_page page less =
      let a = same_from page n (omega (arith, less)) sprites places found in
      let b = same_on page n less places found in
      let c : page_sides (sizes ++ size ∷ []) page ≡ page_sides sizes page = ap sides_of (get_or_append_left sizes (size ∷ []) _ page less)
      in
      subst (λ xs. rule xs (page_sides (sizes ++ size ∷ []) page) (places_on page (put_on n places found))) (sym a)
      (subst (λ ps. rule (sprites_from page sprites places) (page_sides (sizes ++ size ∷ []) page) ps) (sym b)
      (subst (λ z. rule (sprites_from page sprites places) z (places_on page places)) (sym c) (are.pages page less)))

  new_page : (page : ℕ) → page ≡ n
      → rule (sprites_from page sprites (put_on n places found)) (page_sides (sizes ++ size ∷ []) page)
      (places_on page (put_on n places found))
  new_page page is =
      let a : sprites_from n sprites (put_on n places found) ≡ sprites_left sprites places =
      same_from n n (omega arith) sprites places found ∙ left_from n sprites places are.below in
      let b = found_there n places found are.below long in
      let c : page_sides (sizes ++ size ∷ []) n ≡ sides_of size = ap sides_of (get_or_push sizes size _ n refl) in
      subst (λ m. rule (sprites_from m sprites (put_on n places found)) (page_sides (sizes ++ size ∷ []) m)
      (places_on m (put_on n places found))) (sym is)
      (subst (λ xs. rule xs (page_sides (sizes ++ size ∷ []) n) (places_on n (put_on n places found))) (sym a)
      (subst (λ ps. rule (sprites_left sprites places) (page_sides (sizes ++ size ∷ []) n) ps) (sym b)
      (subst (λ z. rule (sprites_left sprites places) z found) (sym c) next)))

  -- One sheet more.
  pub one_page_more : ArePagesBy rule sprites (sizes ++ size ∷ []) (put_on n places found)
  one_page_more = record {
    long = put_long n places found ∙ are.long;
    below = subst (λ m. All (LiesEarlier m) (put_on n places found)) (sym more) (put_before n places found are.below);
    pages = λ page less. by_last page less (cases_lt page n);
  }
    where
      by_last : (page : ℕ) → page < length (sizes ++ size ∷ []) → (page < n) ⊎ (n ≤ page)
          → rule (sprites_from page sprites (put_on n places found)) (page_sides (sizes ++ size ∷ []) page)
          (places_on page (put_on n places found))
      by_last page less (inl old) = old_page page old
      by_last page less (inr new) = new_page page (omega (arith, less, new, more))

-- At first no sprite has a place.
pub begun : (rule : List Size → Sides → List (Option Placed) → Type 0) (sprites : List Size)
    → ArePagesBy rule sprites [] (replicate (length sprites) None)
begun rule sprites = record {
  long = length-replicate (length sprites) None;
  below = none_yet (length sprites);
  pages = λ page less. absurd (omega (arith, less));
}
  where
    none_yet : (n : ℕ) → All (LiesEarlier 0) (replicate n None)
    none_yet zero = All-nil (LiesEarlier 0)
    none_yet (suc n) = All-cons (LiesEarlier 0) None (replicate n None) tt (none_yet n)

pub left_first : (sprites : List Size) → sprites_left sprites (replicate (length sprites) None) ≡ sprites
left_first [] = refl
left_first (s ∷ sprites) = ap (λ xs. s ∷ xs) (left_first sprites)

-- What was put of the first k places, and what is put of the others.
pub record IsPutTo (page : ℕ) (places : List (Option OnPage)) (found : List (Option Placed)) (k next : ℕ) (all : List (Option OnPage)) :
    Type 0 where
  pub put : put_on page places found ≡ all ++ put_on page (drop k places) (drop next found)
  pub missing : next + holes (drop k places) ≡ length found

pub put_end : (page : ℕ) (places : List (Option OnPage)) (found : List (Option Placed)) (k next : ℕ)
    (all : List (Option OnPage))
    → length places ≤ k
    → IsPutTo page places found k next all → all ≡ put_on page places found
put_end page places found k next all end so =
    sym (so.put ∙ ap (λ ps. all ++ put_on page ps (drop next found)) (drop_of_length-le places end) ∙ append-nil all)

-- The sprites that are left of the first k, and those of the others.
abbrev pub IsLeftTo : List Size → List (Option OnPage) → (k : ℕ) → List Size → Type 0
IsLeftTo sprites places k left = sprites_left sprites places ≡ left ++ sprites_left (drop k sprites) (drop k places)

module _ (sprites : List Size) (places : List (Option OnPage)) (k : ℕ) (left more : List Size) (s : Size) (q : Option OnPage)
    (inside : k < length places) (long : length places ≡ length sprites) (s_at : s ≡ get_or sprites k s) (q_at : q ≡ get_or places k q)
    (so : IsLeftTo sprites places k left) where
  split : sprites_left
      (drop k sprites) (drop k places) ≡ sprites_left (s ∷ drop (k + 1) sprites) (q ∷ drop (k + 1) places)
  split =
      let a : drop k sprites ≡ s ∷ drop (k + 1) sprites =
      drop-cons sprites k s (omega (arith, inside, long)) ∙ (λ i. sym s_at i ∷ (ap (λ m. drop m sprites) (sym (add-one k))) i) in
      let b : drop k places ≡ q ∷ drop (k + 1) places = drop-cons places k q inside ∙
      (λ i. sym q_at i ∷ (ap (λ m. drop m places) (sym (add-one k))) i) in
      λ i. sprites_left (a i) (b i)

  pub left_more : is_none q ≡ true → more ≡ left ++ s ∷ [] → IsLeftTo sprites places (k + 1) more
  left_more none added =
      so ∙ ap (λ xs. left ++ xs) (split ∙ cond-true (is_none q) (s ∷ sprites_left (drop (k + 1) sprites) (drop (k + 1) places))
      (sprites_left (drop (k + 1) sprites) (drop (k + 1) places)) none)
      ∙ sym (append_assoc left (s ∷ []) (sprites_left (drop (k + 1) sprites) (drop (k + 1) places)))
      ∙ ap (λ xs. xs ++ sprites_left (drop (k + 1) sprites) (drop (k + 1) places)) (sym added)

  pub left_less : is_none q ≡ false → IsLeftTo sprites places (k + 1) left
  left_less some =
      so ∙ ap (λ xs. left ++ xs) (split ∙ cond-false (is_none q) (s ∷ sprites_left (drop (k + 1) sprites) (drop (k + 1) places))
      (sprites_left (drop (k + 1) sprites) (drop (k + 1) places)) some)
