-- A sheet for chosen sprites, as it is found.
use Rattle.std.proofs.Common.{◌≡◌, ◌<◌, ℕ, Bool, inl, List, length, map, All, Option, Some, None, IfNone, IsSome, is_some, refl, ap, sym}
use Rattle.std.proofs.Common.{subst, ◌∙◌, arith}
use Rattle.std.proofs.lemmas.List.Elements.{All-weaker}
use Rattle.guillotiere.specs.declared.Size.{Size}
use Rattle.guillotiere.specs.Boxes.{Sides}
use Rattle.guillotiere.specs.Pixels.{sides_of}
use Rattle.atlas_sheet.specs.declared.choosing.Chosen.{Chosen}
use Rattle.atlas_sheet.specs.declared.options.SheetOptions.{SheetOptions}
use Rattle.atlas_sheet.specs.declared.placed.Placed.{Placed}
use Rattle.atlas_sheet.specs.declared.ways.TheConstants.{WAYS}
use Rattle.atlas_sheet.specs.Allowances.{IsAllowed}
use Rattle.atlas_sheet.specs.Dense.{IsNoLargerThanWays, NoWayFinds}
use Rattle.atlas_sheet.specs.Grouping.{AreChosen, IsClosed, picked, spread, those_placed}
use Rattle.atlas_sheet.specs.Lying.{IsArranged, IsShown, areas_of}
use Rattle.atlas_sheet.specs.Packings.{NoneIsFound}
use Rattle.atlas_sheet.specs.Paging.{IsPage}
use Rattle.atlas_sheet.specs.Settings.{spacing_of}
use Rattle.atlas_sheet.specs.Turnings.{AreLaid, turnings}
use Rattle.atlas_sheet.proofs.GroupRows.{closed_some, picked_long, spread_long, spread_row, spread_sprites, spread_there}
use Rattle.atlas_sheet.proofs.PageFinds.{areas_whole, not_both, page_found, shown_long}

-- Whether the ways find a sheet doesn't hang on the effort.
pub plain_none : (o : SheetOptions) (sprites : List Size) → NoWayFinds (record o { effort = 0 }) sprites
    → NoWayFinds o sprites
plain_none o sprites none =
    All-weaker (λ how. (lying : List Size) × AreLaid (record o { effort = 0 }) how sprites lying ×
    NoneIsFound WAYS o.allowed (spacing_of o) lying)
    (λ how. (lying : List Size) × AreLaid o how sprites lying × NoneIsFound WAYS o.allowed (spacing_of o) lying)
    (λ how l. (l.0, record { sheet = l.1.sheet; greatest = l.1.greatest; lie = l.1.lie }, l.2)) (turnings o.turn) none

pub none_plainly : {T : Type 0} (found : Option T) (o : SheetOptions) (sprites : List Size)
    → IfNone found (NoWayFinds (record o { effort = 0 }) sprites)
    → IfNone found (NoWayFinds o sprites)
none_plainly None o sprites none = plain_none o sprites none
none_plainly (Some t) o sprites none = tt

pub are_chosen : {A : Type 0} (o : SheetOptions) (sprites some : List Size) (groups : List (Option ℕ))
    (chosen : Chosen A)
    → some ≡ picked chosen.row.items sprites → length chosen.row.items ≡ length sprites
    → IsClosed groups chosen.row.items
    → IsArranged o some chosen.page → IsAllowed o.allowed (sides_of chosen.page.size)
    → All IsSome chosen.page.places.items
    → AreChosen o sprites groups chosen
are_chosen o sprites some groups chosen some_is long closed arranged allowed whole = record {
  long = long;
  closed = closed;
  arranged = subst (λ ss. IsArranged o ss chosen.page) some_is arranged;
  allowed = allowed;
  whole = whole;
}

module _ (o : SheetOptions) (sprites some : List Size) (groups : List (Option ℕ)) (row : List Bool) (sheet : Sides) (order : List ℕ)
    (found placed : List (Option Placed)) (some_is : some ≡ picked row sprites) (long : length row ≡ length sprites)
    (closed : IsClosed groups row) (placed_is : placed ≡ spread row found) (shown : IsShown sheet (spacing_of o) o.turn some order found)
    (whole : All IsSome found) where
  pub found_long : length found ≡ length (picked row row)
  found_long = shown_long sheet o some order found shown ∙ ap length some_is ∙ picked_long row sprites long

  pub chosen_long : length placed ≡ length sprites
  chosen_long = ap length placed_is ∙ spread_long row found ∙ long

  pub chosen_closed : IsClosed groups (map is_some placed)
  chosen_closed = subst (IsClosed groups) (sym (ap (map is_some) placed_is ∙ spread_row row found found_long whole)) closed

  pub chosen_page : IsAllowed o.allowed sheet → IsNoLargerThanWays o some sheet
      → IsPage WAYS o (those_placed placed sprites) sheet (those_placed placed placed)
  chosen_page allowed larger =
      let few : 0 < length (picked row row) = closed_some groups row closed in
      let page : IsPage WAYS o some sheet found =
      page_found WAYS o some sheet order found (areas_of found) shown refl (inl (areas_whole found whole, larger)) allowed
      (λ none. not_both found (omega (arith, few, found_long)) whole none) in
      let sprites_are : some ≡ those_placed placed sprites =
      some_is ∙ sym (spread_sprites row found found_long whole sprites) ∙ ap (λ ps. those_placed ps sprites) (sym placed_is) in
      let places_are : found ≡ those_placed placed placed =
      sym (spread_there row found found_long whole) ∙ ap (λ ps. those_placed ps ps) (sym placed_is) in
      subst (λ fs. IsPage WAYS o (those_placed placed sprites) sheet fs) places_are
      (subst (λ ss. IsPage WAYS o ss sheet found) sprites_are page)

  pub chosen_row_is : map is_some placed ≡ row
  chosen_row_is = ap (map is_some) placed_is ∙ spread_row row found found_long whole
