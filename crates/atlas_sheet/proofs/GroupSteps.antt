-- Sheets with groups on them, one after another.
use Rattle.std.proofs.Common.{◌≡◌, ◌≢◌, ◌==◌, ◌-◌, ◌+◌, ◌<◌, ◌≤◌, ◌⊎◌, ℕ, zero, suc, replicate, Bool, true, false, cond, is_none, is_some}
use Rattle.std.proofs.Common.{inl, inr, List, [], ◌∷◌, ◌++◌, length, map, take, All, Option, Some, None, IfSome, IsNone, pos, refl, ap, sym}
use Rattle.std.proofs.Common.{subst, ◌∙◌, arith}
use Rattle.std.specs.List.{AllZip, count_by}
use Rattle.std.proofs.lemmas.Bool.{eq-eqb, eqb-true, false≢true, ne_eqb}
use Rattle.std.proofs.lemmas.List.{length-append, length-replicate, length-take}
use Rattle.std.proofs.lemmas.List.Elements.{All-nil, All-cons, All-from_get_or, All-head, All-tail}
use Rattle.guillotiere.specs.declared.Size.{Size}
use Rattle.guillotiere.specs.Boxes.{Sides}
use Rattle.guillotiere.specs.Pixels.{sides_of}
use Rattle.guillotiere.proofs.TreeLemmas.TreeBasics.{one_if}
use Rattle.guillotiere.proofs.ListLemmas.ListCounts.{count_by-cons}
use Rattle.atlas_sheet.specs.declared.options.SheetOptions.{SheetOptions}
use Rattle.atlas_sheet.specs.declared.options.Spacing.{Spacing}
use Rattle.atlas_sheet.specs.declared.paging.OnPage.{OnPage}
use Rattle.atlas_sheet.specs.declared.placed.Placed.{Placed}
use Rattle.atlas_sheet.specs.declared.ways.Way.{Way}
use Rattle.atlas_sheet.specs.Allowances.{IsAllowed}
use Rattle.atlas_sheet.specs.Dense.{NoWayFinds}
use Rattle.atlas_sheet.specs.Grouping.{AreGroupPages, HasMember, IsGroupPage, LieTogether, LiesAs, SaysOf, is_in, members, padded_to}
use Rattle.atlas_sheet.specs.Grouping.{picked, waiting, those_placed, without_group}
use Rattle.atlas_sheet.specs.Lying.{IsPlacedFor, areas_of}
use Rattle.atlas_sheet.specs.Paging.{found_on, holes, page_sides, places_on, put_on, sprites_from, sprites_left}
use Rattle.atlas_sheet.specs.Settings.{spacing_of}
use Rattle.atlas_sheet.specs.Sheets.{covers_place}
use Rattle.atlas_sheet.proofs.GroupRows.{all_picked}
use Rattle.atlas_sheet.proofs.PageViews.{IsGood, page_good}

-- What each of those with a place keeps to, each keeps to.
each_back : (P : Size → Option Placed → Type 0) → ((s : Size) → P s None)
    → (sprites : List Size) (placed : List (Option Placed))
    → length placed ≡ length sprites → AllZip P (those_placed placed sprites) (those_placed placed placed)
    → AllZip P sprites placed
each_back P none [] [] long each = tt
each_back P none [] (p ∷ placed) long each = absurd (omega (arith, long))
each_back P none (s ∷ sprites) [] long each = absurd (omega (arith, long))
each_back P none (s ∷ sprites) (None ∷ placed) long each = (none s, each_back P none sprites placed (omega (arith, long)) each)
each_back P none (s ∷ sprites) (Some p ∷ placed) long each = (each.0, each_back P none sprites placed (omega (arith, long)) each.1)

-- Those without one cover nothing.
covers_back : (spacing : Spacing) (x y : ℕ) (placed : List (Option Placed))
    → count_by (covers_place spacing x y) (areas_of placed) ≡ count_by (covers_place spacing x y) (areas_of (those_placed placed placed))
covers_back spacing x y [] = refl
covers_back spacing x y (None ∷ placed) =
    let a : count_by (covers_place spacing x y) (None ∷ areas_of placed) ≡ 0 + count_by (covers_place spacing x y) (areas_of placed) =
    count_by-cons (covers_place spacing x y) None (areas_of placed) in
    let rest = covers_back spacing x y placed in
    omega (arith, a, rest)
covers_back spacing x y (Some p ∷ placed) =
    let a : count_by (covers_place spacing x y) (Some p.area ∷ areas_of placed)
    ≡ one_if (covers_place spacing x y (Some p.area)) + count_by (covers_place spacing x y) (areas_of placed) =
    count_by-cons (covers_place spacing x y) (Some p.area) (areas_of placed) in
    let b : count_by (covers_place spacing x y) (Some p.area ∷ areas_of (those_placed placed placed))
    ≡ one_if (covers_place spacing x y (Some p.area)) + count_by (covers_place spacing x y) (areas_of (those_placed placed placed)) =
    count_by-cons (covers_place spacing x y) (Some p.area) (areas_of (those_placed placed placed)) in
    let rest = covers_back spacing x y placed in
    omega (arith, a, b, rest)

pub group_good : (ways : List Way) (o : SheetOptions) (sprites : List Size) (sheet : Sides)
    (placed : List (Option Placed))
    → IsGroupPage ways o sprites sheet placed → IsGood o sprites sheet placed
group_good ways o sprites sheet placed (inl page) = page_good ways o sprites sheet placed page
group_good ways o sprites sheet placed (inr group) = record {
  each = each_back (λ sprite p. IfSome p (IsPlacedFor sheet (spacing_of o) o.turn sprite)) (λ s. tt) sprites placed group.0
      group.1.shown.each;
  apart = λ x y.
      let few : count_by (covers_place (spacing_of o) x y) (areas_of (those_placed placed placed)) ≤ 1 =
      group.1.shown.arranged.good.apart x y in
      let same = covers_back (spacing_of o) x y placed in
      omega (arith, few, same);
  used = λ none. group.1.used (all_picked IsNone (map is_some placed) placed none);
}

-- Where a group lies after a sheet more.
abbrev pub next_of : Option ℕ → Bool → (page : ℕ) → Option ℕ
next_of (Some q) b page = Some q
next_of None true page = Some page
next_of None false page = None

abbrev pub as_next : (whether : ℕ → Bool) → (page : ℕ) → (page_of : ℕ → Option ℕ) → ℕ → Option ℕ
as_next whether page page_of n = next_of (page_of n) (whether n) page

module _ (whether : ℕ → Bool) (page : ℕ) (page_of : ℕ → Option ℕ) where
  lies_still : (g : Option ℕ) (p : OnPage) → LiesAs page_of g (Some p)
      → LiesAs (as_next whether page page_of) g (Some p)
  lies_still None p lies = tt
  lies_still (Some n) p lies = subst (λ q. Some p.page ≡ next_of q (whether n) page) lies refl

  lies_next : (g : Option ℕ) (f : Option Placed) → LiesAs page_of g None → SaysOf whether g (is_some f)
      → LiesAs (as_next whether page page_of) g (found_on page f)
  lies_next None f lies says = tt
  lies_next (Some n) None lies says = λ i. next_of (lies i) (says i) page
  lies_next (Some n) (Some f) lies says = λ i. next_of (lies i) (says i) page

  -- What is found on a sheet leaves groups together, if it says the same of each sprite of a group.
  pub together_put : (kept : List (Option ℕ)) (places : List (Option OnPage)) (found : List (Option Placed))
      → length found ≡ holes places
      → AllZip (LiesAs page_of) kept places → AllZip (SaysOf whether) (waiting kept places) (map is_some found)
      → AllZip (LiesAs (as_next whether page page_of)) kept (put_on page places found)
  together_put [] [] found long same says = tt
  together_put [] (p ∷ places) found long same says = absurd same
  together_put (g ∷ kept) [] found long same says = absurd same
  together_put (g ∷ kept) (Some p ∷ places) found long same says =
      (lies_still g p same.0, together_put kept places found long same.1 says)
  together_put (g ∷ kept) (None ∷ places) [] long same says = absurd (omega (arith, long))
  together_put (g ∷ kept) (None ∷ places) (f ∷ found) long same says =
      (lies_next g f same.0 says.0, together_put kept places found (omega (arith, long)) same.1 says.1)

-- Of sprites in no group a row may say anything.
pub none_says : (whether : ℕ → Bool) (groups : List (Option ℕ)) (row : List Bool) → length row ≡ length groups
    → All IsNone groups
    → AllZip (SaysOf whether) groups row
none_says whether [] [] long none = tt
none_says whether [] (b ∷ row) long none = absurd (omega (arith, long))
none_says whether (g ∷ groups) [] long none = absurd (omega (arith, long))
none_says whether (None ∷ groups) (b ∷ row) long none = (
  tt,
  none_says whether groups row (omega (arith, long))
      (All-tail IsNone None groups none),
)
none_says whether (Some n ∷ groups) (b ∷ row) long none = absurd (false≢true (sym (All-head IsNone (Some n) groups none)))

-- As many wait as have no place.
pub waiting_long : (kept : List (Option ℕ)) (places : List (Option OnPage)) → length places ≡ length kept
    → length (waiting kept places) ≡ holes places
waiting_long [] [] long = refl
waiting_long [] (p ∷ places) long = absurd (omega (arith, long))
waiting_long (g ∷ kept) [] long = absurd (omega (arith, long))
waiting_long (g ∷ kept) (None ∷ places) long = ap suc (waiting_long kept places (omega (arith, long)))
waiting_long (g ∷ kept) (Some p ∷ places) long = waiting_long kept places (omega (arith, long))

-- A group of which one waits lies nowhere.
module _ (group : ℕ) (page_of : ℕ → Option ℕ) where
  none_waits : (q : ℕ) → page_of group ≡ Some q → (kept : List (Option ℕ)) (places : List (Option OnPage))
      → AllZip (LiesAs page_of) kept places
      → All (λ g. g ≢ Some group) (waiting kept places)
  none_waits q at [] [] same = All-nil (λ g. g ≢ Some group)
  none_waits q at [] (p ∷ places) same = absurd same
  none_waits q at (g ∷ kept) [] same = absurd same
  none_waits q at (g ∷ kept) (None ∷ places) same =
      All-cons (λ g. g ≢ Some group) g (waiting kept places)
      (λ e. let lies : None ≡ page_of group = subst (λ h. LiesAs page_of h None) e same.0 in
      let off : None ≡ Some q = lies ∙ at in
      false≢true (ap is_some off))
      (none_waits q at kept places same.1)
  none_waits q at (g ∷ kept) (Some p ∷ places) same = none_waits q at kept places same.1

  pub lies_nowhere : (kept : List (Option ℕ)) (places : List (Option OnPage)) → AllZip (LiesAs page_of) kept places
      → HasMember group (waiting kept places) → page_of group ≡ None
  lies_nowhere kept places same there = by_page (page_of group) refl
    where
      by_page : (q : Option ℕ) → page_of group ≡ q → page_of group ≡ None
      by_page None at = at
      by_page (Some q) at = absurd (there (none_waits q at kept places same))

  not_in : page_of group ≡ None → (g : Option ℕ) (p : OnPage) → LiesAs page_of g (Some p) → is_in group g ≡ false
  not_in nowhere None p lies = refl
  not_in nowhere (Some n) p lies =
      ne_eqb n group (λ e. let here : Some p.page ≡ None = lies ∙ ap page_of e ∙ nowhere in false≢true (sym (ap is_some here)))

  -- All its sprites wait.
  pub members_waiting : page_of group ≡ None
      → (kept : List (Option ℕ)) (places : List (Option OnPage)) (sprites : List Size)
      → length places ≡ length sprites → AllZip (LiesAs page_of) kept places
      → members group (waiting kept places) (sprites_left sprites places) ≡ members group kept sprites
  members_waiting nowhere [] [] sprites long same = refl
  members_waiting nowhere [] (p ∷ places) sprites long same = absurd same
  members_waiting nowhere (g ∷ kept) [] sprites long same = absurd same
  members_waiting nowhere (g ∷ kept) (p ∷ places) [] long same = absurd (omega (arith, long))
  members_waiting nowhere (g ∷ kept) (None ∷ places) (s ∷ sprites) long same =
      ap (λ xs. cond (is_in group g) (s ∷ xs) xs) (members_waiting nowhere kept places sprites (omega (arith, long)) same.1)
  members_waiting nowhere (g ∷ kept) (Some p ∷ places) (s ∷ sprites) long same =
      members_waiting nowhere kept places sprites (omega (arith, long)) same.1
      ∙ ap (λ b. cond b (s ∷ members group kept sprites) (members group kept sprites)) (sym (not_in nowhere g p same.0))

-- The number that there is.
abbrev pub number_or : Option ℕ → ℕ → ℕ
number_or None d = d
number_or (Some n) d = n

-- A group that no way packs is kept no longer.
module _ (group : ℕ) where
  in_other : (other n : ℕ) (b : Bool) → (b ≡ true → n ≡ group) → other ≢ group
      → is_in other (cond b None (Some n)) ≡ is_in other (Some n)
  in_other other n true is differ = sym (ne_eqb n other (λ e. differ (sym e ∙ is refl)))
  in_other other n false is differ = refl

  pub without_other : (other : ℕ) → other ≢ group → (kept : List (Option ℕ))
      → map (is_in other) (without_group group kept) ≡ map (is_in other) kept
  without_other other differ [] = refl
  without_other other differ (None ∷ kept) = ap (λ r. false ∷ r) (without_other other differ kept)
  without_other other differ (Some n ∷ kept) =
      λ i. in_other other n (n == group) (eqb-true n group) differ i ∷ without_other other differ kept i

  one_less : (b : Bool) (n : ℕ) → one_if (is_some (cond b None (Some n))) ≤ 1
  one_less true n = omega arith
  one_less false n = omega arith

  no_more_kept : (kept : List (Option ℕ)) → count_by is_some (without_group group kept) ≤ count_by is_some kept
  no_more_kept [] = omega arith
  no_more_kept (None ∷ kept) =
      let a : count_by is_some (None ∷ without_group group kept) ≡ 0 + count_by is_some (without_group group kept) =
      count_by-cons is_some None (without_group group kept) in
      let b : count_by is_some (None ∷ kept) ≡ 0 + count_by is_some kept = count_by-cons is_some None kept in
      let rest = no_more_kept kept in
      omega (arith, a, b, rest)
  no_more_kept (Some n ∷ kept) =
      let a = count_by-cons is_some (cond (n == group) None (Some n)) (without_group group kept) in
      let b : count_by is_some (Some n ∷ kept) ≡ 1 + count_by is_some kept = count_by-cons is_some (Some n) kept in
      let one = one_less (n == group) n in
      let rest = no_more_kept kept in
      omega (arith, a, b, one, rest)

  fewer_or_none : (kept : List (Option ℕ))
      → (count_by is_some (without_group group kept) < count_by is_some kept) ⊎ All (λ g. g ≢ Some group) kept
  fewer_or_none [] = inr (All-nil (λ g. g ≢ Some group))
  fewer_or_none (None ∷ kept) = by_rest (fewer_or_none kept)
    where
      by_rest : (count_by is_some (without_group group kept) < count_by is_some kept) ⊎ All (λ g. g ≢ Some group) kept
          → (count_by is_some (without_group group (None ∷ kept)) < count_by is_some (None ∷ kept))
          ⊎ All (λ g. g ≢ Some group) (None ∷ kept)
      by_rest (inl fewer) =
          let a : count_by is_some (None ∷ without_group group kept) ≡ 0 + count_by is_some (without_group group kept) =
          count_by-cons is_some None (without_group group kept) in
          let b : count_by is_some (None ∷ kept) ≡ 0 + count_by is_some kept = count_by-cons is_some None kept in
          inl (omega (arith, a, b, fewer))
      by_rest (inr none) = inr (All-cons (λ g. g ≢ Some group) None kept (λ e. false≢true (ap is_some e)) none)
  fewer_or_none (Some n ∷ kept) = by_head (n == group) refl (fewer_or_none kept)
    where
      by_head : (b : Bool) → (n == group) ≡ b
          → (count_by is_some (without_group group kept) < count_by is_some kept) ⊎ All (λ g. g ≢ Some group) kept
          → (count_by is_some (without_group group (Some n ∷ kept)) < count_by is_some (Some n ∷ kept))
          ⊎ All (λ g. g ≢ Some group) (Some n ∷ kept)
      by_head true is rest =
          let a : count_by is_some (cond (n == group) None (Some n) ∷ without_group group kept)
          ≡ one_if (is_some (cond (n == group) None (Some n))) + count_by is_some (without_group group kept) =
          count_by-cons is_some (cond (n == group) None (Some n)) (without_group group kept) in
          let c : one_if (is_some (cond (n == group) None (Some n))) ≡ 0 = ap (λ b. one_if (is_some (cond b None (Some n)))) is in
          let b : count_by is_some (Some n ∷ kept) ≡ 1 + count_by is_some kept = count_by-cons is_some (Some n) kept in
          let le = no_more_kept kept in
          inl (omega (arith, a, b, c, le))
      by_head false is (inl fewer) =
          let a = count_by-cons is_some (cond (n == group) None (Some n)) (without_group group kept) in
          let b : count_by is_some (Some n ∷ kept) ≡ 1 + count_by is_some kept = count_by-cons is_some (Some n) kept in
          let one = one_less (n == group) n in
          inl (omega (arith, a, b, one, fewer))
      by_head false is (inr none) =
          inr (All-cons (λ g. g ≢ Some group) (Some n) kept
          (λ e. let same : n ≡ group = ap (λ o. number_or o n) e in false≢true (sym is ∙ eq-eqb n group same)) none)

  pub fewer_kept : (kept : List (Option ℕ)) (places : List (Option OnPage)) → HasMember group (waiting kept places)
      → count_by is_some (without_group group kept) < count_by is_some kept
  fewer_kept kept places there = by_kept (fewer_or_none kept)
    where
      by_kept : (count_by is_some (without_group group kept) < count_by is_some kept) ⊎ All (λ g. g ≢ Some group) kept
          → count_by is_some (without_group group kept) < count_by is_some kept
      by_kept (inl fewer) = fewer
      by_kept (inr none) = absurd (there (all_picked (λ g. g ≢ Some group) (map is_none places) kept none))

-- Where each sprite has a place, each group that is kept lies on one sheet.
module _ (group : ℕ) (page_of : ℕ → Option ℕ) where
  on_page : (kept : List (Option ℕ)) (places : List OnPage) → AllZip (LiesAs page_of) kept (map Some places)
      → All (λ p. p.page ≡ number_or (page_of group) 0) (members group kept places)
  on_page [] [] same = All-nil (λ p. p.page ≡ number_or (page_of group) 0)
  on_page [] (p ∷ places) same = absurd same
  on_page (g ∷ kept) [] same = absurd same
  on_page (None ∷ kept) (p ∷ places) same = on_page kept places same.1
  on_page (Some n ∷ kept) (p ∷ places) same = by_head (n == group) (eqb-true n group) (on_page kept places same.1)
    where
      by_head : (b : Bool) → (b ≡ true → n ≡ group)
          → All (λ p. p.page ≡ number_or (page_of group) 0) (members group kept places)
          → All (λ p. p.page ≡ number_or (page_of group) 0) (cond b (p ∷ members group kept places) (members group kept places))
      by_head true is rest =
          All-cons (λ p. p.page ≡ number_or (page_of group) 0) p (members group kept places)
          (let here : Some p.page ≡ page_of group = same.0 ∙ ap page_of (is refl) in ap (λ q. number_or q 0) here) rest
      by_head false is rest = rest

pub all_together : (o : SheetOptions) (sprites : List Size) (groups kept : List (Option ℕ)) (places : List OnPage)
    (page_of : ℕ → Option ℕ)
    → AllZip (LiesAs page_of) kept (map Some places)
    → ((g : ℕ) → NoWayFinds o (members g groups sprites) ⊎ (map (is_in g) kept ≡ map (is_in g) groups))
    → (g : ℕ) → LieTogether g groups places ⊎ NoWayFinds o (members g groups sprites)
all_together o sprites groups kept places page_of same each g = by_each (each g)
  where
    by_each : NoWayFinds o (members g groups sprites) ⊎ (map (is_in g) kept ≡ map (is_in g) groups)
        → LieTogether g groups places ⊎ NoWayFinds o (members g groups sprites)
    by_each (inl none) = inr none
    by_each (inr e) =
        let page : ℕ = number_or (page_of g) 0 in
        inl (page, subst (λ row. All (λ p. p.page ≡ page) (picked row places)) e (on_page g page_of kept places same))

-- Before the first sheet.
pub begun_same : (kept : List (Option ℕ)) (n : ℕ) → length kept ≡ n
    → AllZip (LiesAs (λ g. None)) kept (replicate n None)
begun_same [] zero long = tt
begun_same [] (suc n) long = absurd (omega (arith, long))
begun_same (g ∷ kept) zero long = absurd (omega (arith, long))
begun_same (None ∷ kept) (suc n) long = (tt, begun_same kept n (omega (arith, long)))
begun_same (Some g ∷ kept) (suc n) long = (refl, begun_same kept n (omega (arith, long)))

-- Numbers that are made as many as the sprites name the same sprites.
module _ {X : Type 0} (group : ℕ) where
  bare_members : (n : ℕ) (xs : List X) → members group (replicate n None) xs ≡ []
  bare_members zero xs = refl
  bare_members (suc n) [] = refl
  bare_members (suc n) (x ∷ xs) = bare_members n xs

  pub padded_members : (n : ℕ) (groups : List (Option ℕ)) (xs : List X) → length xs ≡ n
      → members group (padded_to n groups) xs ≡ members group groups xs
  padded_members zero groups (x ∷ xs) long = absurd (omega (arith, long))
  padded_members (suc n) groups [] long = absurd (omega (arith, long))
  padded_members zero [] [] long = refl
  padded_members zero (g ∷ groups) [] long =
      let none : zero - length (g ∷ groups) ≡ zero = omega arith in
      ap (λ m. members group ([] ++ replicate m None) ([])) none
  padded_members (suc n) [] (x ∷ xs) long =
      let all : suc n - 0 ≡ suc n = omega arith in
      ap (λ m. members group (replicate m None) (x ∷ xs)) all ∙ bare_members (suc n) (x ∷ xs)
  padded_members (suc n) (g ∷ groups) (x ∷ xs) long =
      let less : suc n - length (g ∷ groups) ≡ n - length groups = omega arith in
      ap (λ m. members group (g ∷ take n groups ++ replicate m None) (x ∷ xs)) less
      ∙ ap (λ ys. cond (is_in group g) (x ∷ ys) ys) (padded_members n groups xs (omega (arith, long)))

padded_long : (n : ℕ) (groups : List (Option ℕ)) → length (padded_to n groups) ≡ n
padded_long n groups =
    let a = length-append (take n groups) (replicate (n - length groups) None) in
    let b = length-take n groups in
    let c = length-replicate {A = Option ℕ} (n - length groups) None in
    omega (arith, a, b, c)

-- What is said of the numbers that were made as many is so of those that were given.
module _ (o : SheetOptions) (sprites : List Size) (groups all : List (Option ℕ)) (n : ℕ) (long : length sprites ≡ n)
    (all_is : all ≡ padded_to n groups) where
  pub numbers_as_long : length all ≡ length sprites
  numbers_as_long = ap length all_is ∙ padded_long n groups ∙ sym long

  pub together_given : (places : List OnPage) → length places ≡ length sprites
      → ((g : ℕ) → LieTogether g all places ⊎ NoWayFinds o (members g all sprites))
      → (g : ℕ) → LieTogether g groups places ⊎ NoWayFinds o (members g groups sprites)
  together_given places count each g = by_each (each g)
    where
      by_each : LieTogether g all places ⊎ NoWayFinds o (members g all sprites)
          → LieTogether g groups places ⊎ NoWayFinds o (members g groups sprites)
      by_each (inl lie) =
          inl (
            lie.0,
            subst (All (λ p. p.page ≡ lie.0)) (ap (λ gs. members g gs places) all_is ∙
                padded_members g n groups places (count ∙ long)) lie.1,
          )
      by_each (inr none) =
          inr (subst (NoWayFinds o) (ap (λ gs. members g gs sprites) all_is ∙ padded_members g n groups sprites long) none)

-- Each sheet is one of those allowed.
group_allowed : (ways : List Way) (o : SheetOptions) (sprites : List Size) (sheet : Sides)
    (placed : List (Option Placed))
    → IsGroupPage ways o sprites sheet placed → IsAllowed o.allowed sheet
group_allowed ways o sprites sheet placed (inl page) = page.allowed
group_allowed ways o sprites sheet placed (inr group) = group.1.allowed

pub pages_allowed : (ways : List Way) (o : SheetOptions) (sprites sizes : List Size) (places : List (Option OnPage))
    → AreGroupPages ways o sprites sizes places
    → All (λ size. IsAllowed o.allowed (sides_of size)) sizes
pages_allowed ways o sprites sizes places are =
    All-from_get_or (λ size. IsAllowed o.allowed (sides_of size)) sizes (record { width = pos 0; height = pos 0 })
    (λ page inside. group_allowed ways o (sprites_from page sprites places) (page_sides sizes page) (places_on page places)
    (are.pages page inside))
