-- What a packing into several sheets with groups answers, and what it writes.
use Rattle.std.specs.Prelude.{◌⊎◌, ◌==◌, ℕ, List, length, map, All, Option, Some, None, IsNone, if◌then◌else◌}
use Rattle.std.specs.List.{AllZip}
use Rattle.guillotiere.specs.declared.Size.{Size}
use Rattle.guillotiere.specs.Pixels.{sides_of}
use Rattle.atlas_sheet.specs.declared.options.SheetOptions.{SheetOptions}
use Rattle.atlas_sheet.specs.declared.paging.OnPage.{OnPage}
use Rattle.atlas_sheet.specs.declared.ways.TheConstants.{WAYS}
use Rattle.atlas_sheet.specs.Allowances.{IsAllowed}
use Rattle.atlas_sheet.specs.Dense.{NoWayFinds}
use Rattle.atlas_sheet.specs.Grouping.{AreGroupPages, AreGroupSheets, LieTogether, members, padded_to}
use Rattle.atlas_sheet.specs.Paging.{ArePages, AreUsed, IsOnPage, NoPlacesOverlap}
use Rattle.guillotiere_c.specs.declared.plain.TheConstants.{NO_GROUP}
use Rattle.guillotiere_c.specs.SheetPages.{AreMoreSheets, AreSheetsWritten, PageArrays}

-- The group of a sprite, by its number: every number but `NO_GROUP` is that of a group.
abbrev pub group_in : ℕ → Option ℕ
group_in n = if n == NO_GROUP then None else Some n

-- Sheets that take all sprites together, as `atlas_sheet::pack_groups` finds them, with the places in the order of the
-- sprites: a group lies on one sheet, or no way packs it alone into one. The sheets come as there, and without groups as those of
-- `pack_pages`.
pub record AreGroupedPages (o : SheetOptions) (sprites : List Size) (groups : List (Option ℕ)) (sizes : List Size)
    (placed : List OnPage) : Type 0 where
  pub each : AllZip (IsOnPage o sizes) sprites placed
  pub apart : NoPlacesOverlap sizes placed
  pub used : AreUsed sizes placed
  pub allowed : All (λ size. IsAllowed o.allowed (sides_of size)) sizes
  pub together : (group : ℕ) → LieTogether group groups placed ⊎ NoWayFinds o (members group groups sprites)
  pub pages : AreGroupPages WAYS o sprites sizes (map Some placed)
  pub sheets : AreGroupSheets o sprites (padded_to (length sprites) groups) sizes (map Some placed)
  pub plain : All IsNone groups → ArePages WAYS o sprites sizes (map Some placed)

-- Sheets that take all sprites together, and more of them than there is room for.
abbrev pub AreMoreGroups : SheetOptions → (sprites : List Size) → (groups : List (Option ℕ)) → (room : ℕ) → Type 0
AreMoreGroups o sprites groups room = AreMoreSheets (AreGroupedPages o sprites groups) room

-- Such sheets are written.
abbrev pub AreGroupsWritten : SheetOptions → (sprites : List Size) → (groups : List (Option ℕ)) → (count : ℕ)
    → (old new : PageArrays) → Type 0
AreGroupsWritten o sprites groups count old new = AreSheetsWritten (AreGroupedPages o sprites groups) sprites count old new
