-- A sheet as it is found for the sprites that are left.
use Rattle.std.proofs.Common.{◌≡◌, ◌==◌, ◌/◌, ◌<◌, ◌≤◌, ◌⊎◌, ℕ, zero, suc, max, min, IsTrue, Bool, true, false, inl, inr, List, [], ◌∷◌}
use Rattle.std.proofs.Common.{◌++◌, length, replicate, take, All, Option, Some, None, IfSome, IsNone, IsSome, refl, ap, sym, subst, ◌∙◌}
use Rattle.std.proofs.Common.{arith}
use Rattle.std.specs.List.{AllZip}
use Rattle.std.proofs.Math.Nat.{le-max_left}
use Rattle.std.proofs.lemmas.Bool.{eq-eqb, eqb-true, false≢true}
use Rattle.std.proofs.lemmas.List.Elements.{All-nil, All-cons, All-head, All-tail}
use Rattle.std.proofs.lemmas.Slice.Zip.{AllZip-long}
use Rattle.guillotiere.specs.declared.Size.{Size}
use Rattle.guillotiere.specs.declared.Rectangle.{Rectangle}
use Rattle.guillotiere.specs.Boxes.{Sides}
use Rattle.guillotiere.specs.Pixels.{sides_of}
use Rattle.atlas_sheet.specs.declared.options.SheetOptions.{SheetOptions}
use Rattle.atlas_sheet.specs.declared.paging.OnPage.{OnPage}
use Rattle.atlas_sheet.specs.declared.placed.Placed.{Placed}
use Rattle.atlas_sheet.specs.declared.ways.Way.{Way}
use Rattle.atlas_sheet.specs.Allowances.{IsAllowed, IsGreatest}
use Rattle.atlas_sheet.specs.Fillings.{IsNoBetter, ways_tried}
use Rattle.atlas_sheet.specs.Lying.{IsPlacedFor, IsShown, MayLie, areas_of}
use Rattle.atlas_sheet.specs.Packings.{IsNoLarger}
use Rattle.atlas_sheet.specs.Paging.{ArePagesBy, IsFullSheet, IsPage, OneIsTooLarge, TakesAll, holes, put_on, sprites_left}
use Rattle.atlas_sheet.specs.Settings.{CanPack, spacing_of}
use Rattle.atlas_sheet.specs.Sheets.{IsPackable, used_area}
use Rattle.atlas_sheet.specs.Turnings.{InEach, has_room, laid}
use Rattle.atlas_sheet.specs.declared.turnings.Turning.TheVariants as turning
use Rattle.atlas_sheet.proofs.Arrangements.{shown_whole}
use Rattle.atlas_sheet.proofs.BareSheets.{none_area, room_found}
use Rattle.atlas_sheet.proofs.TurnedSprites.{lie_packable}
use Rattle.atlas_sheet.proofs.LaidSprites.{first_laid, greatest_once, laid_lies, laid_room}
use Rattle.atlas_sheet.proofs.PageSteps.{all_left, all_there, begun, fewer, left_first, left_long, one_page_more, put_long}

-- What is known of a sheet that was found.
abbrev pub IsKind : List Way → SheetOptions → List Size → Sides → List (Option Rectangle) → Type 0
IsKind ways o left sheet areas =
    (All IsSome areas × InEach o left (λ lying. IsNoLarger ways o.allowed (spacing_of o) lying sheet))
    ⊎ (IsGreatest o.allowed sheet
    × InEach o left (λ lying. All (IsNoBetter sheet (spacing_of o) lying (used_area areas)) (take (ways_tried (length left)) ways))
    × (All IsSome areas → ⊥))

-- A way that is tried first.
first_way : (P : Way → Type 0) (n : ℕ) (ways : List Way) → 0 < n → 0 < length ways → All P (take n ways)
    → (way : Way) × P way
first_way P zero ways some ways_some each = absurd (omega (arith, some))
first_way P (suc n) [] some ways_some each = absurd (omega (arith, ways_some))
first_way P (suc n) (way ∷ ways) some ways_some each = (way, All-head P way (take n ways) each)

-- A sheet that none of the ways fills with any pixels is too small for one of the sprites.
bare_sheet : (ways : List Way) (o : SheetOptions) (left : List Size) (sheet : Sides) → 0 < length ways
    → IsGreatest o.allowed sheet
    → InEach o left (λ lying. All (IsNoBetter sheet (spacing_of o) lying 0) (take (ways_tried (length left)) ways))
    → All (IsPackable (spacing_of o)) left → 0 < length left
    → All (λ s. (lying : Size) × MayLie o.turn s lying × IsTrue (has_room sheet (spacing_of o) lying)) left → ⊥
bare_sheet ways o left sheet ways_some greatest none packs some room =
    let first = first_laid o left (λ lying. All (IsNoBetter sheet (spacing_of o) lying 0) (take (ways_tried (length left)) ways)) none in
    let lying = first.0 in
    let at : first.1.sheet ≡ sheet = greatest_once o.allowed first.1.sheet sheet first.1.greatest greatest in
    let is : lying ≡ laid o.turn sheet (spacing_of o) turning.AsGiven left =
    first.1.lie ∙ ap (λ (s : Sides). laid o.turn s (spacing_of o) turning.AsGiven left) at in
    let may : AllZip (MayLie o.turn) left lying =
    subst (AllZip (MayLie o.turn) left) (sym is) (laid_lies sheet (spacing_of o) o.turn turning.AsGiven left) in
    let count : length lying ≡ length left = AllZip-long (MayLie o.turn) left lying may in
    let tried : 0 < ways_tried (length left) = omega (arith, le-max_left 1 (min (12000 / max (length left) 1) 10)) in
    let by = first_way (IsNoBetter sheet (spacing_of o) lying 0) (ways_tried (length left)) ways tried ways_some first.2 in
    let used = room_found sheet (spacing_of o) lying by.0 by.1.0 by.1.1 by.1.2 (omega (arith, count, some))
    (lie_packable (spacing_of o) o.turn left lying may packs)
    (subst (All (λ s. IsTrue (has_room sheet (spacing_of o) s))) (sym is) (laid_room sheet (spacing_of o) o.turn turning.AsGiven left room))
    in
    let few : used_area by.1.1 ≤ 0 = by.1.3 in
    absurd (omega (arith, used, few))

pub not_both : (placed : List (Option Placed)) → 0 < length placed → All IsSome placed → All IsNone placed → ⊥
not_both [] some all none = absurd (omega (arith, some))
not_both (None ∷ placed) some all none = absurd (false≢true (All-head IsSome None placed all))
not_both (Some p ∷ placed) some all none = absurd (false≢true (sym (All-head IsNone (Some p) placed none)))

pub areas_whole : (placed : List (Option Placed)) → All IsSome placed → All IsSome (areas_of placed)
areas_whole [] all = All-nil IsSome
areas_whole (None ∷ placed) all = absurd (false≢true (All-head IsSome None placed all))
areas_whole (Some p ∷ placed) all =
    All-cons IsSome (Some p.area) (areas_of placed) refl (areas_whole placed (All-tail IsSome (Some p) placed all))

pub shown_long : (sheet : Sides) (o : SheetOptions) (left : List Size) (order : List ℕ) (placed : List (Option Placed))
    → IsShown sheet (spacing_of o) o.turn left order placed → length placed ≡ length left
shown_long sheet o left order placed shown =
    AllZip-long (λ sprite p. IfSome p (IsPlacedFor sheet (spacing_of o) o.turn sprite)) left placed shown.each

module _ (ways : List Way) (o : SheetOptions) (left : List Size) (sheet : Sides) (order : List ℕ) (placed : List (Option Placed))
    (areas : List (Option Rectangle)) (shown : IsShown sheet (spacing_of o) o.turn left order placed) (are : areas_of placed ≡ areas)
    (kind : IsKind ways o left sheet areas) where
  kind_here : TakesAll ways o left sheet placed ⊎ IsFullSheet ways o left sheet placed
  kind_here = by_kind kind
    where
      by_kind : IsKind ways o left sheet areas
          → TakesAll ways o left sheet placed ⊎ IsFullSheet ways o left sheet placed
      by_kind (inl all) = inl (shown_whole placed areas are all.0, all.1)
      by_kind (inr full) = inr (
        full.0,
        subst (λ xs. InEach o left (λ lying. All (IsNoBetter sheet (spacing_of o) lying (used_area xs))
            (take (ways_tried (length left)) ways)))
            (sym are) full.1,
        λ whole. full.2 (subst (All IsSome) are (areas_whole placed whole)),
      )

  -- The sheet, where one of them has a place.
  pub page_found : IsAllowed o.allowed sheet → (All IsNone placed → ⊥) → IsPage ways o left sheet placed
  page_found allowed used = record {
    order = order;
    shown = shown;
    allowed = allowed;
    used = used;
    kind = kind_here;
  }

  -- Where none has a place one is too large.
  pub none_found : (sprites : List Size) (places : List (Option OnPage)) → 0 < length ways
      → left ≡ sprites_left sprites places → 0 < length left
      → All (IsPackable (spacing_of o)) left → All IsNone placed → OneIsTooLarge o sprites
  none_found sprites places ways_some is some packs none = by_kind kind_here
    where
      by_kind : TakesAll ways o left sheet placed ⊎ IsFullSheet ways o left sheet placed → OneIsTooLarge o sprites
      by_kind (inl all) =
          let long : length placed ≡ length left = shown_long sheet o left order placed shown in
          absurd (not_both placed (omega (arith, some, long)) all.0 none)
      by_kind (inr full) = record {
        sheet = sheet;
        greatest = full.0;
        large = λ fit.
            let Q : Size → Type 0 = λ s. (lying : Size) × MayLie o.turn s lying × IsTrue (has_room sheet (spacing_of o) lying) in
            bare_sheet ways o left sheet ways_some full.0
            (subst (λ n. InEach o left (λ lying. All (IsNoBetter sheet (spacing_of o) lying n) (take (ways_tried (length left)) ways)))
            (none_area placed none) full.1)
            packs some (subst (All Q) (sym is) (all_left Q sprites places fit));
      }

-- Before the first sheet.
module _ (sprites left : List Size) (places : List (Option OnPage)) (bare : places ≡ replicate (length sprites) None) where
  pub begun_with : (rule : List Size → Sides → List (Option Placed) → Type 0) (sizes : List Size) → sizes ≡ []
      → ArePagesBy rule sprites sizes places
  begun_with rule sizes none =
      subst (λ zs. ArePagesBy rule sprites zs places) (sym none) (subst (ArePagesBy rule sprites []) (sym bare) (begun rule sprites))

  pub left_with : left ≡ sprites → left ≡ sprites_left sprites places
  left_with all = all ∙ sym (left_first sprites) ∙ ap (sprites_left sprites) (sym bare)

-- From one sheet to the next.
module _ (sprites left : List Size) (places : List (Option OnPage)) (long : length places ≡ length sprites)
    (is : left ≡ sprites_left sprites places) where
  pub left_holes : length left ≡ holes places
  left_holes = ap length is ∙ left_long sprites places long

  pub none_left : length left ≡ 0 → All IsSome places
  none_left none = all_there places (sym left_holes ∙ none)

  pub left_packable : (P : Size → Type 0) → All P sprites → All P left
  left_packable P each = subst (All P) (sym is) (all_left P sprites places each)

  pub can_pack_left : (o : SheetOptions) → CanPack o sprites → CanPack o left
  can_pack_left o can = record {
    usable = can.usable;
    placing = record { aligned = can.placing.aligned; packable = left_packable (IsPackable (spacing_of o)) can.placing.packable };
  }

  module _ (n : ℕ) (found : List (Option Placed)) (count : length found ≡ length left) (put : List (Option OnPage))
      (put_is : put ≡ put_on n places found) where
    pub put_as_long : length put ≡ length sprites
    put_as_long = ap length put_is ∙ put_long n places found ∙ long

    pub fewer_left : (after : List Size) → after ≡ sprites_left sprites put → (All IsNone found → ⊥)
        → length after < length left
    fewer_left after after_is some =
        let less : holes (put_on n places found) < holes places = fewer n places found (count ∙ left_holes) some in
        let now : length after ≡ holes (put_on n places found) = ap length after_is ∙ left_long sprites put put_as_long ∙ ap holes put_is in
        let before : length left ≡ holes places = left_holes in
        omega (arith, less, now, before)

    pub more_pages : (rule : List Size → Sides → List (Option Placed) → Type 0) (sizes more : List Size) (size : Size)
        → n ≡ length sizes → more ≡ sizes ++ size ∷ []
        → ArePagesBy rule sprites sizes places → rule left (sides_of size) found → ArePagesBy rule sprites more put
    more_pages rule sizes more size n_is more_is are page =
        let next : rule (sprites_left sprites places) (sides_of size) found =
        subst (λ xs. rule xs (sides_of size) found) is page in
        let all = one_page_more rule sprites sizes places are size found (count ∙ left_holes) next in
        subst (λ zs. ArePagesBy rule sprites zs put) (sym more_is)
        (subst (ArePagesBy rule sprites (sizes ++ size ∷ [])) (sym (put_is ∙ ap (λ m. put_on m places found) n_is)) all)

-- Whether a list is empty, by its length.
pub some_left : (n : ℕ) (left : List Size) (b : Bool) → n ≡ length left → b ≡ (n == 0) → b ≡ false → 0 < length left
some_left n [] b is test off = absurd (false≢true (sym off ∙ test ∙ eq-eqb n 0 is))
some_left n (s ∷ left) b is test off = omega arith

pub empty_left : (n : ℕ) (left : List Size) (b : Bool) → n ≡ length left → b ≡ (n == 0) → b ≡ true → length left ≡ 0
empty_left n left b is test on = sym is ∙ eqb-true n 0 (sym test ∙ on)

-- What is found, as the calls say it: of the sprites that they are given, and of the size that they return.
module _ (ways : List Way) (o : SheetOptions) (left given seen : List Size) (given_is : given ≡ left) (seen_is : seen ≡ left)
    (size found_size : Size) (size_is : size ≡ found_size) (order : List ℕ) (placed : List (Option Placed))
    (areas : List (Option Rectangle))
    (shown : IsShown (sides_of size) (spacing_of o) o.turn seen order placed) (are : areas_of placed ≡ areas)
    (kind : IsKind ways o given (sides_of found_size) areas) where
  shown_here : IsShown (sides_of size) (spacing_of o) o.turn left order placed
  shown_here = subst (λ ls. IsShown (sides_of size) (spacing_of o) o.turn ls order placed) seen_is shown

  kind_so : IsKind ways o left (sides_of size) areas
  kind_so =
      subst (λ (s : Size). IsKind ways o left (sides_of s) areas) (sym size_is)
      (subst (λ ls. IsKind ways o ls (sides_of found_size) areas) given_is kind)

  pub count_as_given : length placed ≡ length left
  count_as_given = shown_long (sides_of size) o left order placed shown_here

  pub page_as_given : IsAllowed o.allowed (sides_of found_size) → (All IsNone placed → ⊥)
      → IsPage ways o left (sides_of size) placed
  page_as_given allowed some =
      page_found ways o left (sides_of size) order placed areas shown_here are kind_so
      (subst (λ (s : Size). IsAllowed o.allowed (sides_of s)) (sym size_is) allowed) some

  pub none_as_given : (sprites : List Size) (places : List (Option OnPage)) → 0 < length ways
      → left ≡ sprites_left sprites places → 0 < length left
      → All (IsPackable (spacing_of o)) left → All IsNone placed → OneIsTooLarge o sprites
  none_as_given = none_found ways o left (sides_of size) order placed areas shown_here are kind_so
