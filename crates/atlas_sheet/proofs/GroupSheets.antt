-- Sheets with groups on them, with the numbers of those that lie on no earlier one.
use Rattle.std.proofs.Common.{◌≡◌, ◌≢◌, ◌-◌, ◌<◌, ◌≤◌, ◌⊎◌, ◌++◌, ℕ, zero, suc, replicate, Bool, true, false, cond, nat_le, is_none}
use Rattle.std.proofs.Common.{is_some, inl, inr, List, [], ◌∷◌, length, map, drop, take, get_or, All, Option, Some, None, IsNone, refl, ap}
use Rattle.std.proofs.Common.{sym, subst, ◌∙◌, arith}
use Rattle.std.proofs.lemmas.Bool.{cases_eq, cases_lt, eq-eqb, false≢true, le-leb, lt-leb}
use Rattle.std.proofs.lemmas.List.{get_or_append_left, get_or_push, length-append, length-map}
use Rattle.std.proofs.lemmas.List.Elements.{All-append, All-nil, All-cons, All-head, All-tail, All-weaker}
use Rattle.guillotiere.specs.declared.Size.{Size}
use Rattle.guillotiere.specs.Pixels.{sides_of}
use Rattle.atlas_sheet.specs.declared.options.SheetOptions.{SheetOptions}
use Rattle.atlas_sheet.specs.declared.paging.OnPage.{OnPage}
use Rattle.atlas_sheet.specs.declared.placed.Placed.{Placed}
use Rattle.atlas_sheet.specs.declared.ways.TheConstants.{WAYS}
use Rattle.atlas_sheet.specs.Dense.{NoWayFinds}
use Rattle.atlas_sheet.specs.Grouping.{AreGroupPages, AreGroupSheets, AreKept, AreNextSheets, IsFirstGroup, IsKept, IsNextSheet, is_in}
use Rattle.atlas_sheet.specs.Grouping.{members, numbers_from, padded_to, picked, waiting, without_group}
use Rattle.atlas_sheet.specs.Paging.{ArePages, IsPage, holes, is_from, page_sides, places_on, put_on, sprites_from, sprites_left}
use Rattle.atlas_sheet.proofs.GroupRows.{all_picked}
use Rattle.atlas_sheet.proofs.GroupSteps.{without_other}
use Rattle.atlas_sheet.proofs.GroupTakes.{has_at}
use Rattle.atlas_sheet.proofs.PageSteps.{LiesEarlier, found_there, left_from, same_from, same_on}

-- What a sheet adds leaves who is from an earlier one on.
rows_same : (j k : ℕ) → j ≤ k → (places : List (Option OnPage)) (found : List (Option Placed))
    → map (is_from j) (put_on k places found) ≡ map (is_from j) places
rows_same j k le [] found = refl
rows_same j k le (Some p ∷ places) found = ap (λ r. nat_le j p.page ∷ r) (rows_same j k le places found)
rows_same j k le (None ∷ places) [] = refl
rows_same j k le (None ∷ places) (None ∷ found) = ap (λ r. true ∷ r) (rows_same j k le places found)
rows_same j k le (None ∷ places) (Some f ∷ found) = λ i. le-leb j k le i ∷ rows_same j k le places found i

-- Of places on earlier sheets, those from this one on are those that are missing.
rows_left : (k : ℕ) (places : List (Option OnPage)) → All (LiesEarlier k) places → map (is_from k) places ≡ map is_none places
rows_left k [] before = refl
rows_left k (None ∷ places) before = ap (λ r. true ∷ r) (rows_left k places (All-tail (LiesEarlier k) None places before))
rows_left k (Some p ∷ places) before =
    λ i. lt-leb k p.page (All-head (LiesEarlier k) (Some p) places before) i ∷ rows_left k places
    (All-tail (LiesEarlier k) (Some p) places before) i

module _ (o : SheetOptions) (sprites : List Size) (kept : List (Option ℕ)) (sizes : List Size) (places : List (Option OnPage))
    (below : All (LiesEarlier (length sizes)) places) (are : AreNextSheets o sprites kept sizes places)
    (size : Size) (found : List (Option Placed)) (long : length found ≡ holes places)
    (next : IsNextSheet o (sprites_left sprites places) (waiting kept places) (sides_of size) found) where
  abbrev n : ℕ
  n = length sizes

  old_sheet : (page : ℕ) → page < n
      → IsNextSheet o (sprites_from page sprites (put_on n places found)) (numbers_from page kept (put_on n places found))
      (page_sides (sizes ++ size ∷ []) page) (places_on page (put_on n places found))
  old_sheet page less =
      let a = same_from page n (omega (arith, less)) sprites places found in
      let b = same_on page n less places found in
      let c : page_sides (sizes ++ size ∷ []) page ≡ page_sides sizes page = ap sides_of (get_or_append_left sizes (size ∷ []) _ page less)
      in
      let d : numbers_from page kept (put_on n places found) ≡ numbers_from page kept places =
      ap (λ r. picked r kept) (rows_same page n (omega (arith, less)) places found) in
      subst (λ xs. IsNextSheet o xs (numbers_from page kept (put_on n places found)) (page_sides (sizes ++ size ∷ []) page)
      (places_on page (put_on n places found))) (sym a)
      (subst (λ ns. IsNextSheet o (sprites_from page sprites places) ns (page_sides (sizes ++ size ∷ []) page)
      (places_on page (put_on n places found))) (sym d)
      (subst (λ ps. IsNextSheet o (sprites_from page sprites places) (numbers_from page kept places) (page_sides (sizes ++ size ∷ []) page)
      ps) (sym b)
      (subst (λ z. IsNextSheet o (sprites_from page sprites places) (numbers_from page kept places) z (places_on page places)) (sym c)
      (are page less))))

  new_sheet : (page : ℕ) → page ≡ n
      → IsNextSheet o (sprites_from page sprites (put_on n places found)) (numbers_from page kept (put_on n places found))
      (page_sides (sizes ++ size ∷ []) page) (places_on page (put_on n places found))
  new_sheet page is =
      let a : sprites_from n sprites (put_on n places found) ≡ sprites_left sprites places =
      same_from n n (omega arith) sprites places found ∙ left_from n sprites places below in
      let b = found_there n places found below long in
      let c : page_sides (sizes ++ size ∷ []) n ≡ sides_of size = ap sides_of (get_or_push sizes size _ n refl) in
      let d : numbers_from n kept (put_on n places found) ≡ waiting kept places =
      ap (λ r. picked r kept) (rows_same n n (omega arith) places found ∙ rows_left n places below) in
      subst (λ m. IsNextSheet o (sprites_from m sprites (put_on n places found)) (numbers_from m kept (put_on n places found))
      (page_sides (sizes ++ size ∷ []) m) (places_on m (put_on n places found))) (sym is)
      (subst (λ xs. IsNextSheet o xs (numbers_from n kept (put_on n places found)) (page_sides (sizes ++ size ∷ []) n)
      (places_on n (put_on n places found))) (sym a)
      (subst (λ ns. IsNextSheet o (sprites_left sprites places) ns (page_sides (sizes ++ size ∷ []) n)
      (places_on n (put_on n places found))) (sym d)
      (subst (λ ps. IsNextSheet o (sprites_left sprites places) (waiting kept places) (page_sides (sizes ++ size ∷ []) n) ps) (sym b)
      (subst (λ z. IsNextSheet o (sprites_left sprites places) (waiting kept places) z found) (sym c) next))))

  -- One sheet more.
  pub one_sheet_more : AreNextSheets o sprites kept (sizes ++ size ∷ []) (put_on n places found)
  one_sheet_more page less = by_last (cases_lt page n)
    where
      by_last : (page < length sizes) ⊎ (length sizes ≤ page)
          → IsNextSheet o (sprites_from page sprites (put_on (length sizes) places found))
          (numbers_from page kept (put_on (length sizes) places found))
          (page_sides (sizes ++ size ∷ []) page) (places_on page (put_on (length sizes) places found))
      by_last (inl old) = old_sheet page old
      by_last (inr new) = let more = length-append sizes (size ∷ []) in new_sheet page (omega (arith, less, new, more))

-- No number of a group is left.
without_none : (group : ℕ) (kept : List (Option ℕ)) → All (λ g. g ≢ Some group) (without_group group kept)
without_none group [] = All-nil (λ g. g ≢ Some group)
without_none group (g ∷ kept) = All-cons (λ h. h ≢ Some group) _ (without_group group kept) (head g) (without_none group kept)
  where
    number : Option ℕ → ℕ
    number None = 0
    number (Some m) = m

    some : Option ℕ → Bool
    some None = false
    some (Some m) = true

    by_test : (n : ℕ) (b : Bool) → (n ≡ group → b ≡ true) → cond b None (Some n) ≢ Some group
    by_test n true on e = false≢true (ap some e)
    by_test n false on e = false≢true (on (ap number e))

    head : (g : Option ℕ) → cond (is_in group g) None g ≢ Some group
    head None e = false≢true (ap some e)
    head (Some n) e = by_test n (is_in group (Some n)) (λ same. eq-eqb n group same) e

still_none : (group other : ℕ) (kept : List (Option ℕ)) → All (λ g. g ≢ Some other) kept →
    All (λ g. g ≢ Some other) (without_group group kept)
still_none group other [] none = All-nil (λ g. g ≢ Some other)
still_none group other (g ∷ kept) none =
    All-cons (λ h. h ≢ Some other) _ (without_group group kept) (by_test (is_in group g))
    (still_none group other kept (All-tail (λ h. h ≢ Some other) g kept none))
  where
    some : Option ℕ → Bool
    some None = false
    some (Some m) = true

    by_test : (b : Bool) → cond b None g ≢ Some other
    by_test true e = false≢true (ap some e)
    by_test false e = All-head (λ h. h ≢ Some other) g kept none e

-- A group that no way packs is kept no longer.
pub kept_without : (o : SheetOptions) (sprites : List Size) (groups kept less : List (Option ℕ)) (group : ℕ) → AreKept o sprites groups kept
    → NoWayFinds o (members group groups sprites) → less ≡ without_group group kept
    → AreKept o sprites groups less
kept_without o sprites groups kept less group are none is = subst (AreKept o sprites groups) (sym is) (record {
  long = length-map kept (λ g. cond (is_in group g) None g) ∙ are.long;
  each = λ g. by_equal g (are.each g) (cases_eq g group);
})
  where
    by_equal : (g : ℕ) → IsKept o sprites groups kept g → (g ≡ group) ⊎ (g ≢ group)
        → IsKept o sprites groups (without_group group kept) g
    by_equal g before (inl same) =
        inl (
          subst (λ n. NoWayFinds o (members n groups sprites)) (sym same) none,
          subst (λ n. All (λ h. h ≢ Some n) (without_group group kept)) (sym same) (without_none group kept),
        )
    by_equal g (inl lost) (inr other) = inl (lost.0, still_none group g kept lost.1)
    by_equal g (inr alike) (inr other) = inr (without_other group g other kept ∙ alike)

pub all_kept : (o : SheetOptions) (sprites : List Size) (groups kept : List (Option ℕ)) → kept ≡ groups → AreKept o sprites groups kept
all_kept o sprites groups kept is = record { long = ap length is; each = λ g. inr (ap (map (is_in g)) is) }

-- Where no number is that of a group there are no groups.
none_kept : (kept : List (Option ℕ)) → ((g : ℕ) → All (λ h. h ≢ Some g) kept) → All IsNone kept
none_kept [] each = All-nil IsNone
none_kept (None ∷ kept) each = All-cons IsNone None kept refl (none_kept kept (λ g. All-tail (λ h. h ≢ Some g) None kept (each g)))
none_kept (Some n ∷ kept) each = absurd (All-head (λ h. h ≢ Some n) (Some n) kept (each n) refl)

none_in : (g : ℕ) (kept groups : List (Option ℕ)) → All IsNone groups → map (is_in g) kept ≡ map (is_in g) groups
    → All (λ h. h ≢ Some g) kept
none_in g [] groups none same = All-nil (λ h. h ≢ Some g)
none_in g (k ∷ kept) [] none same = absurd (let e = ap length same in omega (arith, e))
none_in g (k ∷ kept) (Some n ∷ groups) none same = absurd (false≢true (sym (All-head IsNone (Some n) groups none)))
none_in g (k ∷ kept) (None ∷ groups) none same =
    All-cons (λ h. h ≢ Some g) k kept
    (λ e. false≢true (sym (ap (λ r. get_or r 0 false) same) ∙ ap (is_in g) e ∙ eq-eqb g g refl))
    (none_in g kept groups (All-tail IsNone None groups none) (ap (λ r. drop 1 r) same))

padded_none : (n : ℕ) (groups : List (Option ℕ)) → All IsNone groups → All IsNone (padded_to n groups)
padded_none n groups none =
    All-append IsNone (take n groups) (replicate (n - length groups) None) (taken n groups none) (bare (n - length groups))
  where
    bare : (m : ℕ) → All (IsNone {T = ℕ}) (replicate m None)
    bare zero = All-nil IsNone
    bare (suc m) = All-cons IsNone None (replicate m None) refl (bare m)

    taken : (m : ℕ) (groups : List (Option ℕ)) → All IsNone groups → All IsNone (take m groups)
    taken zero groups none = All-nil IsNone
    taken (suc m) [] none = All-nil IsNone
    taken (suc m) (g ∷ groups) none =
        All-cons IsNone g (take m groups) (All-head IsNone g groups none) (taken m groups (All-tail IsNone g groups none))

-- Without groups the sheets are those of sprites in no group.
pub plain_pages : (o : SheetOptions) (sprites sizes : List Size) (groups : List (Option ℕ)) (places : List (Option OnPage)) →
    All IsNone groups
    → AreGroupPages WAYS o sprites sizes places → AreGroupSheets o sprites (padded_to (length sprites) groups) sizes places
    → ArePages WAYS o sprites sizes places
plain_pages o sprites sizes groups places none pages are = record {
  long = pages.long;
  below = pages.below;
  pages = λ page less. by_sheet page (are.sheets page less);
}
  where
    none_of : All IsNone are.kept
    none_of = none_kept are.kept (λ g. by_kept g (are.are_kept.each g))
      where
        by_kept : (g : ℕ) → IsKept o sprites (padded_to (length sprites) groups) are.kept g → All (λ h. h ≢ Some g) are.kept
        by_kept g (inl lost) = lost.1
        by_kept g (inr alike) = none_in g are.kept (padded_to (length sprites) groups) (padded_none (length sprites) groups none) alike

    not_first : (first : ℕ) (numbers : List (Option ℕ)) → All IsNone numbers → IsFirstGroup first numbers → ⊥
    not_first first numbers all is =
        has_at numbers is.0 first is.1 is.2 (All-weaker IsNone (λ h. h ≢ Some first) (λ h no e. false≢true (sym no ∙ ap is_some e)) numbers
        all)

    by_sheet : (page : ℕ)
        → IsNextSheet o (sprites_from page sprites places) (numbers_from page are.kept places) (page_sides sizes page)
        (places_on page places)
        → IsPage WAYS o (sprites_from page sprites places) (page_sides sizes page) (places_on page places)
    by_sheet page (inl plain) = plain.1
    by_sheet page (inr sheet) =
        absurd (not_first sheet.0.groups.first (numbers_from page are.kept places)
        (all_picked IsNone (map (is_from page) places) are.kept none_of) sheet.0.groups.is_first)
