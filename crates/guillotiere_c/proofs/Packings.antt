-- What a packing answered, put together.
use Rattle.std.proofs.Common.{◌≡◌, ◌⊎◌, ℕ, List, length, map, take, All, Option, Some, None, IfNone, IfSome, IsNone, subst}
use Rattle.std.specs.List.{AllZip}
use Rattle.guillotiere.specs.declared.Size.{Size}
use Rattle.guillotiere.specs.Pixels.{sides_of}
use Rattle.atlas_sheet.specs.declared.options.SheetOptions.{SheetOptions}
use Rattle.atlas_sheet.specs.declared.paging.OnPage.{OnPage}
use Rattle.atlas_sheet.specs.declared.placed.Placed.{Placed}
use Rattle.atlas_sheet.specs.declared.ways.TheConstants.{WAYS}
use Rattle.atlas_sheet.specs.Allowances.{IsAllowed, IsGreatest}
use Rattle.atlas_sheet.specs.Dense.{AreAllPlaced, ArePaddedApart, IsLeastDense, IsNoLargerThanWays, IsPackedOrDense, NoWayFinds}
use Rattle.atlas_sheet.specs.Dense.{NoneIsDense}
use Rattle.atlas_sheet.specs.Fillings.{FindsFewer, IsBestFound, IsNoBetter, ways_tried}
use Rattle.atlas_sheet.specs.Grouping.{AreGroupPages, AreGroupSheets, LieTogether, members, padded_to}
use Rattle.atlas_sheet.specs.Lying.{IsShown, areas_of}
use Rattle.atlas_sheet.specs.Packings.{IsFirstFound, IsNoLarger, IsSmaller}
use Rattle.atlas_sheet.specs.Paging.{AreGreatest, ArePages, AreUsed, IsOnPage, NoPlacesOverlap}
use Rattle.atlas_sheet.specs.Settings.{spacing_of}
use Rattle.atlas_sheet.specs.Sheets.{used_area}
use Rattle.atlas_sheet.specs.Turnings.{InEach, InFirst, InOne}
use Rattle.guillotiere_c.specs.DensePacking.{HasNoDenseSheet, IsDenseSheet}
use Rattle.guillotiere_c.specs.Filling.{IsFilledSheet}
use Rattle.guillotiere_c.specs.Packing.{IsPackedSheet}
use Rattle.guillotiere_c.specs.SheetGroups.{AreGroupedPages}
use Rattle.guillotiere_c.specs.SheetPages.{ArePackedPages}

-- The facts of a sheet that was found, if one was.
pub packed :
    {S : Type 0} (o : SheetOptions) (asked sprites : List Size)
    (size : S → Size) (order : S → List ℕ) (placed : S → List Placed) (found : Option S)
    → asked ≡ sprites
    → IfSome found (λ s. IsAllowed o.allowed (sides_of (size s)))
    → IfSome found (λ s. IsShown (sides_of (size s)) (spacing_of o) o.turn asked (order s) (map Some (placed s)))
    → (o.effort ≡ 0 → IfSome found (λ s. InOne o asked (λ lying. IsFirstFound WAYS o.allowed (spacing_of o) lying (sides_of (size s))
    (order s) (areas_of (map Some (placed s))))))
    → (o.effort ≡ 0 → IfSome found (λ s. InFirst o asked
    (λ lying. IsFirstFound WAYS o.allowed (spacing_of o) lying (sides_of (size s)) (order s) (areas_of (map Some (placed s))))
    (λ lying. IsSmaller WAYS o.allowed (spacing_of o) lying (sides_of (size s)))))
    → IfSome found (λ s. InEach o asked (λ lying. IsNoLarger WAYS o.allowed (spacing_of o) lying (sides_of (size s))))
    → IfSome found (λ s. IsPackedSheet o sprites (size s) (placed s))
packed o asked sprites size order placed None same allowed shown first earliest larger = allowed
packed o asked sprites size order placed (Some s) same allowed shown first earliest larger =
    let P : List Size → Type 0 = λ l. IsPackedSheet o l (size s) (placed s) in
    subst P same (record { order = order s; allowed = allowed; shown = shown; first = first; earliest = earliest; larger = larger })

-- The facts of a sheet with no guillotine cuts that was found, if one was.
pub packed_densely :
    {S : Type 0} (o : SheetOptions) (asked sprites : List Size) (size : S → Size) (order : S → List ℕ) (placed : S → List Placed)
    (found : Option S)
    → asked ≡ sprites
    → IfSome found (λ s. IsAllowed o.allowed (sides_of (size s)))
    → IfSome found (λ s. AreAllPlaced o (sides_of (size s)) asked (map Some (placed s)))
    → IfSome found (λ s. ArePaddedApart (spacing_of o) (map Some (placed s)))
    → IfSome found (λ s. IsNoLargerThanWays o asked (sides_of (size s)))
    → IfSome found (λ s. IsPackedOrDense o asked (sides_of (size s)) (order s) (placed s))
    → IfSome found (λ s. IsLeastDense o asked (sides_of (size s)))
    → IfSome found (λ s. IsDenseSheet o sprites (size s) (placed s))
packed_densely o asked sprites size order placed None same allowed each padded larger way least = allowed
packed_densely o asked sprites size order placed (Some s) same allowed each padded larger way least =
    let P : List Size → Type 0 = λ l. IsDenseSheet o l (size s) (placed s) in
    subst P same (record { allowed = allowed; each = each; padded = padded; larger = larger; order = order s; way = way; least = least })

-- Where none was found, neither a way nor that finds one.
pub densely_none :
    {S : Type 0} (o : SheetOptions) (asked sprites : List Size) (found : Option S) → asked ≡ sprites
    → IfNone found (NoWayFinds o asked) → IfNone found (NoneIsDense o asked) → IfNone found (HasNoDenseSheet o sprites)
densely_none o asked sprites None same none full = subst (HasNoDenseSheet o) same (none, full)
densely_none o asked sprites (Some s) same none full = tt

-- The facts of several sheets that were found, if they were.
pub packed_pages :
    {S : Type 0} (o : SheetOptions) (asked sprites : List Size)
    (sizes : S → List Size) (placed : S → List OnPage) (found : Option S)
    → asked ≡ sprites
    → IfSome found (λ p. AllZip (IsOnPage o (sizes p)) asked (placed p))
    → IfSome found (λ p. NoPlacesOverlap (sizes p) (placed p))
    → IfSome found (λ p. AreUsed (sizes p) (placed p))
    → IfSome found (λ p. AreGreatest o (sizes p))
    → IfSome found (λ p. ArePages WAYS o asked (sizes p) (map Some (placed p)))
    → IfSome found (λ p. ArePackedPages o sprites (sizes p) (placed p))
packed_pages o asked sprites sizes placed None same each apart used greatest pages = each
packed_pages o asked sprites sizes placed (Some p) same each apart used greatest pages =
    let P : List Size → Type 0 = λ l. ArePackedPages o l (sizes p) (placed p) in
    subst P same (record { each = each; apart = apart; used = used; greatest = greatest; pages = pages })

-- The facts of several sheets with groups that were found, if they were.
pub packed_groups :
    {S : Type 0} (o : SheetOptions) (asked sprites : List Size) (given groups : List (Option ℕ))
    (sizes : S → List Size) (placed : S → List OnPage) (found : Option S)
    → asked ≡ sprites
    → given ≡ groups
    → IfSome found (λ p. AllZip (IsOnPage o (sizes p)) asked (placed p))
    → IfSome found (λ p. NoPlacesOverlap (sizes p) (placed p))
    → IfSome found (λ p. AreUsed (sizes p) (placed p))
    → IfSome found (λ p. All (λ size. IsAllowed o.allowed (sides_of size)) (sizes p))
    → IfSome found (λ p. (group : ℕ) → LieTogether group given (placed p) ⊎ NoWayFinds o (members group given asked))
    → IfSome found (λ p. AreGroupPages WAYS o asked (sizes p) (map Some (placed p)))
    → IfSome found (λ p. AreGroupSheets o asked (padded_to (length asked) given) (sizes p) (map Some (placed p)))
    → (All IsNone given → IfSome found (λ p. ArePages WAYS o asked (sizes p) (map Some (placed p))))
    → IfSome found (λ p. AreGroupedPages o sprites groups (sizes p) (placed p))
packed_groups o asked sprites given groups sizes placed None same alike each apart used allowed together pages sheets plain = each
packed_groups o asked sprites given groups sizes placed (Some p) same alike each apart used allowed together pages sheets plain =
    let P : List Size → Type 0 = λ l. AreGroupedPages o l groups (sizes p) (placed p) in
    let Q : List (Option ℕ) → Type 0 = λ g. AreGroupedPages o asked g (sizes p) (placed p) in
    subst P same (subst Q alike (record {
      each = each;
      apart = apart;
      used = used;
      allowed = allowed;
      together = together;
      pages = pages;
      sheets = sheets;
      plain = plain;
    }))

-- The facts of a sheet that was filled.
pub filled_sheet :
    (o : SheetOptions) (asked sprites : List Size) (sheet : Size) (order : List ℕ) (placed : List (Option Placed)) (area : ℕ)
    → asked ≡ sprites
    → IsGreatest o.allowed (sides_of sheet)
    → IsShown (sides_of sheet) (spacing_of o) o.turn asked order placed
    → area ≡ used_area (areas_of placed)
    → InEach o asked (λ lying. All (IsNoBetter (sides_of sheet) (spacing_of o) lying area)
    (take (ways_tried (length asked)) WAYS))
    → (o.effort ≡ 0 → InOne o asked (λ lying. IsBestFound (take (ways_tried (length asked)) WAYS) (sides_of sheet)
    (spacing_of o) lying order (areas_of placed)))
    → (o.effort ≡ 0 → InFirst o asked (λ lying. IsBestFound (take (ways_tried (length asked)) WAYS) (sides_of sheet)
    (spacing_of o) lying order (areas_of placed))
    (λ lying. All (FindsFewer (sides_of sheet) (spacing_of o) lying area) (take (ways_tried (length asked)) WAYS)))
    → IsFilledSheet o sprites sheet placed
filled_sheet o asked sprites sheet order placed area same greatest shown used best plain earliest =
    let P : List Size → Type 0 = λ l. IsFilledSheet o l sheet placed in
    let Q : ℕ → Type 0 = λ n. InEach o asked (λ lying. All (IsNoBetter (sides_of sheet) (spacing_of o) lying n)
    (take (ways_tried (length asked)) WAYS)) in
    let best' : Q (used_area (areas_of placed)) = subst Q used best in
    let F : ℕ → Type 0 = λ n. o.effort ≡ 0 → InFirst o asked (λ lying. IsBestFound (take (ways_tried (length asked)) WAYS)
    (sides_of sheet) (spacing_of o) lying order (areas_of placed))
    (λ lying. All (FindsFewer (sides_of sheet) (spacing_of o) lying n) (take (ways_tried (length asked)) WAYS)) in
    let earliest' : F (used_area (areas_of placed)) = subst F used earliest in
    subst P same (record { order = order; greatest = greatest; shown = shown; best = best'; plain = plain; earliest = earliest' })
