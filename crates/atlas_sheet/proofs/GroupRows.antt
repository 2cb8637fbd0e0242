-- Rows, and what stands in lists where they say so.
use Rattle.std.proofs.Common.{◌≡◌, ◌≢◌, ◌==◌, ◌||◌, ◌+◌, ◌<◌, ◌≤◌, ◌⊎◌, ℕ, suc, Bool, true, false, cond, is_none, is_some, inl, inr}
use Rattle.std.proofs.Common.{List, [], ◌∷◌, ◌++◌, length, map, drop, take, get_or, append-nil, add-one, All, Option, Some, None, IfSome}
use Rattle.std.proofs.Common.{IsSome, refl, ap, sym, subst, ◌∙◌, arith}
use Rattle.std.specs.List.{AllZip}
use Rattle.std.proofs.lemmas.Bool.{cases_lt, eq-eqb, false≢true}
use Rattle.std.proofs.Math.ListN.{drop_of_length-le}
use Rattle.std.proofs.Math.Seq.{drop-cons, take-suc}
use Rattle.std.proofs.lemmas.List.{append_assoc}
use Rattle.std.proofs.lemmas.List.Elements.{All-nil, All-cons, All-head, All-tail}
use Rattle.std.proofs.lemmas.Slice.Zip.{all_zipped_more}
use Rattle.guillotiere.specs.declared.Size.{Size}
use Rattle.atlas_sheet.specs.declared.options.SheetOptions.{SheetOptions}
use Rattle.atlas_sheet.specs.declared.paging.OnPage.{OnPage}
use Rattle.atlas_sheet.specs.declared.placed.Placed.{Placed}
use Rattle.atlas_sheet.specs.Grouping.{HasMember, IsClosed, SaysOf, is_in, picked, spread, those_placed, waiting, with_one}
use Rattle.atlas_sheet.specs.Settings.{CanPack, spacing_of}
use Rattle.atlas_sheet.specs.Sheets.{IsPackable}
use Rattle.atlas_sheet.proofs.Arrangements.{zip_at}

-- What was picked by the first k, and what is picked by the others.
abbrev pub IsPickedTo : {X : Type 0} → List Bool → List X → (k : ℕ) → List X → Type 0
IsPickedTo row xs k all = picked row xs ≡ all ++ picked (drop k row) (drop k xs)

module _ {X : Type 0} (row : List Bool) (xs : List X) (k : ℕ) (all more : List X) (b : Bool) (x : X) (inside : k < length row)
    (long : length row ≡ length xs) (b_at : b ≡ get_or row k b) (x_at : x ≡ get_or xs k x) (so : IsPickedTo row xs k all) where
  abbrev rest : List X
  rest = picked (drop (k + 1) row) (drop (k + 1) xs)

  split : picked (drop k row) (drop k xs) ≡ cond b (x ∷ rest) rest
  split =
      let r : drop k row ≡ b ∷ drop (k + 1) row = drop-cons row k b inside ∙ (λ i. sym b_at i ∷ (ap (λ m. drop m row) (sym (add-one k))) i)
      in
      let s : drop k xs ≡ x ∷ drop (k + 1) xs =
      drop-cons xs k x (omega (arith, inside, long)) ∙ (λ i. sym x_at i ∷ (ap (λ m. drop m xs) (sym (add-one k))) i) in
      λ i. picked (r i) (s i)

  pub picked_more : b ≡ true → more ≡ all ++ x ∷ [] → IsPickedTo row xs (k + 1) more
  picked_more on added =
      so ∙ ap (λ ys. all ++ ys) (split ∙ ap (λ c. cond c (x ∷ rest) rest) on)
      ∙ sym (append_assoc all (x ∷ []) rest) ∙ ap (λ ys. ys ++ rest) (sym added)

  pub picked_less : b ≡ false → IsPickedTo row xs (k + 1) all
  picked_less off = so ∙ ap (λ ys. all ++ ys) (split ∙ ap (λ c. cond c (x ∷ rest) rest) off)

-- What waits of the first k, and what waits of the others.
abbrev pub IsWaitingTo : List (Option ℕ) → List (Option OnPage) → (k : ℕ) → List (Option ℕ) → Type 0
IsWaitingTo groups places k all = waiting groups places ≡ all ++ waiting (drop k groups) (drop k places)

module _ (groups : List (Option ℕ)) (places : List (Option OnPage)) (k : ℕ) (all more : List (Option ℕ)) (q : Option OnPage) (g : Option ℕ)
    (inside : k < length places) (long : length places ≡ length groups) (q_at : q ≡ get_or places k q) (g_at : g ≡ get_or groups k g)
    (so : IsWaitingTo groups places k all) where
  abbrev others : List (Option ℕ)
  others = waiting (drop (k + 1) groups) (drop (k + 1) places)

  parted : waiting (drop k groups) (drop k places) ≡ cond (is_none q) (g ∷ others) others
  parted =
      let r : drop k places ≡ q ∷ drop (k + 1) places =
      drop-cons places k q inside ∙ (λ i. sym q_at i ∷ (ap (λ m. drop m places) (sym (add-one k))) i) in
      let s : drop k groups ≡ g ∷ drop (k + 1) groups =
      drop-cons groups k g (omega (arith, inside, long)) ∙ (λ i. sym g_at i ∷ (ap (λ m. drop m groups) (sym (add-one k))) i) in
      λ i. waiting (s i) (r i)

  pub waiting_more : is_none q ≡ true → more ≡ all ++ g ∷ [] → IsWaitingTo groups places (k + 1) more
  waiting_more on added =
      so ∙ ap (λ ys. all ++ ys) (parted ∙ ap (λ c. cond c (g ∷ others) others) on)
      ∙ sym (append_assoc all (g ∷ []) others) ∙ ap (λ ys. ys ++ others) (sym added)

  pub waiting_less : is_none q ≡ false → IsWaitingTo groups places (k + 1) all
  waiting_less off = so ∙ ap (λ ys. all ++ ys) (parted ∙ ap (λ c. cond c (g ∷ others) others) off)

-- What was spread to the first k, and what is spread to the others.
pub record IsSpreadTo (row : List Bool) (found : List (Option Placed)) (k next : ℕ) (all : List (Option Placed)) : Type 0 where
  pub put : spread row found ≡ all ++ spread (drop k row) (drop next found)
  pub missing : next + length (picked (drop k row) (drop k row)) ≡ length found

pub spread_end : (row : List Bool) (found : List (Option Placed)) (k next : ℕ) (all : List (Option Placed))
    → length row ≤ k
    → IsSpreadTo row found k next all → all ≡ spread row found
spread_end row found k next all end so =
    sym (so.put ∙ ap (λ r. all ++ spread r (drop next found)) (drop_of_length-le row end) ∙ append-nil all)

-- How many are picked doesn't hang on what stands there.
pub picked_long : {X : Type 0} (row : List Bool) (xs : List X) → length row ≡ length xs
    → length (picked row xs) ≡ length (picked row row)
picked_long [] [] long = refl
picked_long [] (x ∷ xs) long = absurd (omega (arith, long))
picked_long (b ∷ row) [] long = absurd (omega (arith, long))
picked_long (true ∷ row) (x ∷ xs) long = ap suc (picked_long row xs (omega (arith, long)))
picked_long (false ∷ row) (x ∷ xs) long = picked_long row xs (omega (arith, long))

pub all_picked : {X : Type 0} (P : X → Type 0) (row : List Bool) (xs : List X) → All P xs → All P (picked row xs)
all_picked P [] xs each = All-nil P
all_picked P (b ∷ row) [] each = All-nil P
all_picked P (true ∷ row) (x ∷ xs) each = All-cons P x (picked row xs) (All-head P x xs each) (all_picked P row xs (All-tail P x xs each))
all_picked P (false ∷ row) (x ∷ xs) each = all_picked P row xs (All-tail P x xs each)

-- Of sprites that can be packed those where a row says so.
pub can_pack_picked : (o : SheetOptions) (row : List Bool) (sprites : List Size) → CanPack o sprites
    → CanPack o (picked row sprites)
can_pack_picked o row sprites can = record {
  usable = can.usable;
  placing = record {
    aligned = can.placing.aligned;
    packable = all_picked (IsPackable (spacing_of o)) row sprites can.placing.packable;
  };
}

-- What is spread, of which each is there, stands where the row says so, and nowhere else.
pub spread_long : (row : List Bool) (found : List (Option Placed)) → length (spread row found) ≡ length row
spread_long [] found = refl
spread_long (false ∷ row) found = ap suc (spread_long row found)
spread_long (true ∷ row) [] = ap suc (spread_long row [])
spread_long (true ∷ row) (f ∷ found) = ap suc (spread_long row found)

some_true : (f : Option Placed) (found : List (Option Placed)) → All IsSome (f ∷ found) → is_some f ≡ true
some_true f found all = All-head IsSome f found all

pub spread_row : (row : List Bool) (found : List (Option Placed)) → length found ≡ length (picked row row)
    → All IsSome found
    → map is_some (spread row found) ≡ row
spread_row [] found long all = refl
spread_row (false ∷ row) found long all = ap (λ r. false ∷ r) (spread_row row found long all)
spread_row (true ∷ row) [] long all = absurd (omega (arith, long))
spread_row (true ∷ row) (f ∷ found) long all =
    λ i. some_true f found all i ∷ spread_row row found (omega (arith, long)) (All-tail IsSome f found all) i

picked_spread : (row : List Bool) (found : List (Option Placed)) → length found ≡ length (picked row row)
    → picked row (spread row found) ≡ found
picked_spread [] [] long = refl
picked_spread [] (f ∷ found) long = absurd (omega (arith, long))
picked_spread (false ∷ row) found long = picked_spread row found long
picked_spread (true ∷ row) [] long = absurd (omega (arith, long))
picked_spread (true ∷ row) (f ∷ found) long = ap (λ fs. f ∷ fs) (picked_spread row found (omega (arith, long)))

module _ (row : List Bool) (found : List (Option Placed)) (long : length found ≡ length (picked row row)) (all : All IsSome found) where
  pub spread_there : those_placed (spread row found) (spread row found) ≡ found
  spread_there = ap (λ r. picked r (spread row found)) (spread_row row found long all) ∙ picked_spread row found long

  pub spread_sprites : (sprites : List Size) → those_placed (spread row found) sprites ≡ picked row sprites
  spread_sprites sprites = ap (λ r. picked r sprites) (spread_row row found long all)

-- A row so far says the same of each sprite of a group.
pub record AreRowsTo (groups : List (Option ℕ)) (row : List Bool) (turned : (ℕ → Bool) → ℕ → Bool) (k : ℕ) (all : List Bool) : Type 0 where
  pub says : (whether : ℕ → Bool) → AllZip (SaysOf whether) groups row
      → AllZip (SaysOf (turned whether)) (take k groups) all

module _ (groups : List (Option ℕ)) (row : List Bool) (turned : (ℕ → Bool) → ℕ → Bool) (k : ℕ) (all more : List Bool) (g : Option ℕ)
    (b new : Bool)
    (inside : k < length groups) (g_at : g ≡ get_or groups k g) (b_at : b ≡ get_or row k b)
    (step : (whether : ℕ → Bool) → SaysOf whether g b → SaysOf (turned whether) g new) (added : more ≡ all ++ new ∷ []) where
  pub rows_more : AreRowsTo groups row turned k all → AreRowsTo groups row turned (k + 1) more
  rows_more so = record {
    says = λ whether same.
        let here : SaysOf whether g b =
        subst (λ h. SaysOf whether h b) (sym g_at) (subst (SaysOf whether (get_or groups k g)) (sym b_at)
        (zip_at (SaysOf whether) groups row k g b same inside)) in
        let longer = all_zipped_more (SaysOf (turned whether)) (take k groups) all g new (so.says whether same) (step whether here) in
        let taken : take (k + 1) groups ≡ take k groups ++ g ∷ [] =
        ap (λ m. take m groups) (add-one k) ∙ take-suc groups k g inside ∙ ap (λ h. take k groups ++ h ∷ []) (sym g_at) in
        subst (AllZip (SaysOf (turned whether)) (take (k + 1) groups)) (sym added)
        (subst (λ gs. AllZip (SaysOf (turned whether)) gs (all ++ new ∷ [])) (sym taken) longer);
  }

-- With a group as well.
pub says_with : (group : ℕ) (g : Option ℕ) (b : Bool) (whether : ℕ → Bool) → SaysOf whether g b
    → SaysOf (with_one group whether) g (b || is_in group g)
says_with group None b whether says = tt
says_with group (Some n) b whether says = ap (λ c. c || (n == group)) says

pub closed_with : (groups : List (Option ℕ)) (row all : List Bool) (group k : ℕ)
    → AreRowsTo groups row (with_one group) k all
    → take k groups ≡ groups → IsClosed groups row → IsClosed groups all
closed_with groups row all group k so taken closed = record {
  whether = with_one group closed.whether;
  same = subst (λ gs. AllZip (SaysOf (with_one group closed.whether)) gs all) taken (so.says closed.whether closed.same);
  first = closed.first;
  there = closed.there;
  chosen = ap (λ b. b || (closed.first == group)) closed.chosen;
}

-- With sprites in no group.
abbrev pub as_before : (ℕ → Bool) → ℕ → Bool
as_before whether n = whether n

pub says_before : (g : Option ℕ) (b new : Bool) → IfSome g (λ n. new ≡ b) → (whether : ℕ → Bool) → SaysOf whether g b
    → SaysOf (as_before whether) g new
says_before None b new is whether says = tt
says_before (Some n) b new is whether says = is ∙ says

pub closed_before : (groups : List (Option ℕ)) (row all : List Bool) (k : ℕ) → AreRowsTo groups row as_before k all
    → take k groups ≡ groups → IsClosed groups row → IsClosed groups all
closed_before groups row all k so taken closed = record {
  whether = closed.whether;
  same = subst (λ gs. AllZip (SaysOf closed.whether) gs all) taken (so.says closed.whether closed.same);
  first = closed.first;
  there = closed.there;
  chosen = closed.chosen;
}

-- The sprites of one group.
same_in : (group : ℕ) (groups : List (Option ℕ)) → AllZip (SaysOf (λ n. n == group)) groups (map (is_in group) groups)
same_in group [] = tt
same_in group (None ∷ groups) = (tt, same_in group groups)
same_in group (Some n ∷ groups) = (refl, same_in group groups)

pub closed_in : (group : ℕ) (groups : List (Option ℕ)) → HasMember group groups
    → IsClosed groups (map (is_in group) groups)
closed_in group groups there = record {
  whether = λ n. n == group;
  same = same_in group groups;
  first = group;
  there = there;
  chosen = eq-eqb group group refl;
}

-- A row that says yes of a group that there is picks something.
none_picked : (whether : ℕ → Bool) (first : ℕ) (groups : List (Option ℕ)) (row : List Bool) → whether first ≡ true
    → AllZip (SaysOf whether) groups row
    → length (picked row row) ≡ 0 → All (λ g. g ≢ Some first) groups
none_picked whether first [] row says same none = All-nil (λ g. g ≢ Some first)
none_picked whether first (g ∷ groups) [] says same none = absurd same
none_picked whether first (g ∷ groups) (true ∷ row) says same none = absurd (omega (arith, none))
none_picked whether first (g ∷ groups) (false ∷ row) says same none =
    All-cons (λ g. g ≢ Some first) g groups
    (λ e. false≢true (subst (λ h. SaysOf whether h false) e same.0 ∙ says))
    (none_picked whether first groups row says same.1 none)

pub closed_some : (groups : List (Option ℕ)) (row : List Bool) → IsClosed groups row → 0 < length (picked row row)
closed_some groups row closed = by_cases (cases_lt 0 (length (picked row row)))
  where
    by_cases : (0 < length (picked row row)) ⊎ (length (picked row row) ≤ 0) → 0 < length (picked row row)
    by_cases (inl some) = some
    by_cases (inr none) =
        absurd (closed.there (none_picked closed.whether closed.first groups row closed.chosen closed.same (omega (arith, none))))
