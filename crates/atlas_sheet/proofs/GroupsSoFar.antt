-- From one sheet with groups to the next.
use Rattle.std.proofs.Common.{◌≡◌, IsTrue, ◌<◌, ◌≤◌, ◌⊎◌, ◌+◌, ◌*◌, ◌++◌, ℕ, zero, suc, replicate, Bool, List, [], ◌∷◌, length, map, Option}
use Rattle.std.proofs.Common.{Some, None, is_some, inl, inr, refl, ap, sym, subst, ◌∙◌, arith}
use Rattle.std.specs.List.{AllZip, count_by}
use Rattle.std.proofs.Math.Nat.{mul-le-mul_right, suc-mul}
use Rattle.std.proofs.lemmas.Slice.Zip.{AllZip-long}
use Rattle.guillotiere.specs.declared.Size.{Size}
use Rattle.guillotiere.specs.Pixels.{sides_of}
use Rattle.atlas_sheet.specs.declared.options.SheetOptions.{SheetOptions}
use Rattle.atlas_sheet.specs.declared.paging.OnPage.{OnPage}
use Rattle.atlas_sheet.specs.declared.placed.Placed.{Placed}
use Rattle.atlas_sheet.specs.declared.ways.TheConstants.{WAYS}
use Rattle.atlas_sheet.specs.Dense.{NoWayFinds}
use Rattle.atlas_sheet.specs.Lying.{MayLie}
use Rattle.atlas_sheet.specs.Settings.{CanPack, spacing_of}
use Rattle.atlas_sheet.specs.Turnings.{has_room}
use Rattle.atlas_sheet.specs.Grouping.{AreGroupPages, AreGroupSheets, AreKept, AreNextSheets, AreSoFar, HasMember, IsGroupPage, IsKept}
use Rattle.atlas_sheet.specs.Grouping.{IsNextSheet, LieTogether, LiesAs, SaysOf, is_in, members, picked, to_do, waiting, without_group}
use Rattle.atlas_sheet.specs.Paging.{OneIsTooLarge, holes, put_on, sprites_left}
use Rattle.atlas_sheet.proofs.GroupSheets.{kept_without, one_sheet_more}
use Rattle.atlas_sheet.proofs.GroupSteps.{all_together, as_next, begun_same, fewer_kept, group_good, lies_nowhere, members_waiting}
use Rattle.atlas_sheet.proofs.GroupSteps.{together_put, waiting_long}
use Rattle.atlas_sheet.proofs.PageFinds.{begun_with, can_pack_left, fewer_left, left_holes, left_packable, left_with, more_pages}

-- A factor less is less, whatever is added below the other factor.
less_times : (a b s x y : ℕ) → a < b → x ≡ s → a * suc s + x < b * suc s + y
less_times a zero s x y less is = absurd (omega (arith, less))
less_times a (suc b) s x y less is =
    let le : a * suc s ≤ b * suc s = mul-le-mul_right {m = a} {n = b} (suc s) (omega (arith, less)) in
    let e : suc b * suc s ≡ b * suc s + suc s = suc-mul b (suc s) in
    omega (arith, le, e, is)

module _ {o : SheetOptions} {sprites : List Size} {groups : List (Option ℕ)} {sizes : List Size} {places : List (Option OnPage)}
    {left : List Size} {kept : List (Option ℕ)} (so : AreSoFar o sprites groups sizes places left kept) where
  pub so_holes : length left ≡ holes places
  so_holes = left_holes sprites left places so.are.long so.rest

  pub so_can_pack : CanPack o sprites → CanPack o left
  so_can_pack = can_pack_left sprites left places so.are.long so.rest o

  pub kept_long : length places ≡ length kept
  kept_long = AllZip-long (LiesAs so.page_of) kept places so.same

  pub numbers_long : length (waiting kept places) ≡ length left
  numbers_long = waiting_long kept places kept_long ∙ sym so_holes

  -- What is too large of those that are left.
  pub left_large : OneIsTooLarge o left → OneIsTooLarge o sprites
  left_large one = record {
    sheet = one.sheet;
    greatest = one.greatest;
    large = λ fit.
        one.large (left_packable sprites left places so.are.long so.rest
        (λ s. (lying : Size) × MayLie o.turn s lying × IsTrue (has_room one.sheet (spacing_of o) lying)) fit);
  }

  lost_or_kept : (g : ℕ) → IsKept o sprites groups kept g
      → NoWayFinds o (members g groups sprites) ⊎ (map (is_in g) kept ≡ map (is_in g) groups)
  lost_or_kept g (inl lost) = inl lost.0
  lost_or_kept g (inr alike) = inr alike

  -- Once none is left.
  module _ (all : List OnPage) (all_is : map Some all ≡ places) where
    pub so_pages : AreGroupPages WAYS o sprites sizes (map Some all)
    so_pages = subst (AreGroupPages WAYS o sprites sizes) (sym all_is) so.are

    pub so_together : (g : ℕ) → LieTogether g groups all ⊎ NoWayFinds o (members g groups sprites)
    so_together = all_together o sprites groups kept all so.page_of (subst (AllZip (LiesAs so.page_of) kept) (sym all_is) so.same)
        (λ g. lost_or_kept g (so.are_kept.each g))

    pub so_sheets : AreGroupSheets o sprites groups sizes (map Some all)
    so_sheets = record {
      kept = kept;
      are_kept = so.are_kept;
      sheets = subst (AreNextSheets o sprites kept sizes) (sym all_is) so.sheets;
    }

  -- One sheet more.
  module _ (size : Size) (found : List (Option Placed)) (count : length found ≡ length left)
      (page : IsGroupPage WAYS o left (sides_of size) found)
      (next : IsNextSheet o left (waiting kept places) (sides_of size) found) (whether : ℕ → Bool)
      (says : AllZip (SaysOf whether) (waiting kept places) (map is_some found))
      (more_sizes : List Size) (sizes_are : more_sizes ≡ sizes ++ size ∷ []) (more_places : List (Option OnPage))
      (places_are : more_places ≡ put_on (length sizes) places found) (less_left : List Size)
      (left_is : less_left ≡ sprites_left sprites more_places)
      (same_kept : List (Option ℕ)) (kept_is : same_kept ≡ kept) where
    pub so_more : AreSoFar o sprites groups more_sizes more_places less_left same_kept
    so_more = subst (AreSoFar o sprites groups more_sizes more_places less_left) (sym kept_is) (record {
      are = more_pages sprites left places so.are.long so.rest (length sizes) found count more_places places_are (IsGroupPage WAYS o) sizes
          more_sizes
          size refl sizes_are so.are page;
      rest = left_is;
      page_of = as_next whether (length sizes) so.page_of;
      same = subst (AllZip (LiesAs (as_next whether (length sizes) so.page_of)) kept) (sym places_are)
          (together_put whether (length sizes) so.page_of kept places found (count ∙ so_holes) so.same says);
      are_kept = so.are_kept;
      sheets = subst (λ zs. AreNextSheets o sprites kept zs more_places) (sym sizes_are)
          (subst (AreNextSheets o sprites kept (sizes ++ size ∷ [])) (sym places_are)
          (one_sheet_more o sprites kept sizes places so.are.below so.sheets size found (count ∙ so_holes)
          (subst (λ ls. IsNextSheet o ls (waiting kept places) (sides_of size) found) so.rest next)));
    })

    pub less_more : to_do sprites less_left same_kept < to_do sprites left kept
    less_more =
        let fewer : length less_left < length left =
        fewer_left sprites left places so.are.long so.rest (length sizes) found count more_places places_are less_left left_is
        (group_good WAYS o left (sides_of size) found page).used in
        let same : count_by is_some same_kept * suc (length sprites) ≡ count_by is_some kept * suc (length sprites) =
        ap (λ ks. count_by is_some ks * suc (length sprites)) kept_is in
        omega (arith, fewer, same)

  -- A group that no way packs.
  module _ (group : ℕ) (there : HasMember group (waiting kept places)) (none : NoWayFinds o (members group (waiting kept places) left))
      (less_kept : List (Option ℕ)) (kept_is : less_kept ≡ without_group group kept) where
    none_kept : NoWayFinds o (members group kept sprites)
    none_kept =
        subst (NoWayFinds o) (members_waiting group so.page_of (lies_nowhere group so.page_of kept places so.same there) kept places sprites
        so.are.long so.same)
        (subst (λ xs. NoWayFinds o (members group (waiting kept places) xs)) so.rest none)

    pub so_without : AreKept o sprites groups less_kept
    so_without = kept_without o sprites groups kept less_kept group so.are_kept (by_kept (so.are_kept.each group)) kept_is
      where
        by_kept : IsKept o sprites groups kept group → NoWayFinds o (members group groups sprites)
        by_kept (inl lost) = lost.0
        by_kept (inr alike) = subst (λ row. NoWayFinds o (picked row sprites)) alike none_kept

    pub less_without : (again : List Size) → again ≡ sprites → to_do sprites again less_kept < to_do sprites left kept
    less_without again all =
        let fewer = fewer_kept group kept places there in
        let same : count_by is_some less_kept ≡ count_by is_some (without_group group kept) = ap (count_by is_some) kept_is in
        let long : length again ≡ length sprites = ap length all in
        less_times (count_by is_some less_kept) (count_by is_some kept) (length sprites) (length again) (length left)
        (omega (arith, fewer, same)) long

-- Before the first sheet.
pub so_begun : (o : SheetOptions) (sprites : List Size) (groups : List (Option ℕ)) (sizes : List Size)
    (places : List (Option OnPage)) (left : List Size)
    (kept : List (Option ℕ)) → length groups ≡ length sprites → sizes ≡ [] → places ≡ replicate (length sprites) None → left ≡ sprites
    → AreKept o sprites groups kept
    → AreSoFar o sprites groups sizes places left kept
so_begun o sprites groups sizes places left kept long none bare all are_kept = record {
  are = begun_with sprites left places bare (IsGroupPage WAYS o) sizes none;
  rest = left_with sprites left places bare all;
  page_of = λ g. None;
  same = subst (AllZip (LiesAs (λ g. None)) kept) (sym bare) (begun_same kept (length sprites) (are_kept.long ∙ long));
  are_kept = are_kept;
  sheets = λ page less. absurd (let e : length sizes ≡ 0 = ap length none in omega (arith, e, less));
}
