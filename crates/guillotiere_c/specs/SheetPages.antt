-- What a packing into several sheets answers, and what it writes.
use Rattle.std.specs.Prelude.{◌≡◌, ◌<◌, ◌≤◌, ℕ, min, List, length, map, Some}
use Rattle.std.specs.List.{AllZip}
use Rattle.guillotiere.specs.declared.Size.{Size}
use Rattle.atlas_sheet.specs.declared.options.SheetOptions.{SheetOptions}
use Rattle.atlas_sheet.specs.declared.paging.OnPage.{OnPage}
use Rattle.atlas_sheet.specs.declared.ways.TheConstants.{WAYS}
use Rattle.atlas_sheet.specs.Paging.{AreGreatest, ArePages, AreUsed, IsOnPage, NoPlacesOverlap}
use Rattle.guillotiere_c.specs.declared.plain.PlainSize.{PlainSize}
use Rattle.guillotiere_c.specs.declared.plain_sheet.PlainOnPage.{PlainOnPage}
use Rattle.guillotiere_c.specs.Numbers.{size_in}
use Rattle.guillotiere_c.specs.SheetNumbers.{on_page_in, IsPageToldByBit}
use Rattle.guillotiere_c.specs.Writing.{AreFirst, IsWritten}

-- Sheets that take all sprites together, as `atlas_sheet::pack_pages` finds them, with the places in the order of the
-- sprites.
pub record ArePackedPages (o : SheetOptions) (sprites sizes : List Size) (placed : List OnPage) : Type 0 where
  pub each : AllZip (IsOnPage o sizes) sprites placed
  pub apart : NoPlacesOverlap sizes placed
  pub used : AreUsed sizes placed
  pub greatest : AreGreatest o sizes
  pub pages : ArePages WAYS o sprites sizes (map Some placed)

-- Two arrays of the caller's.
pub record PageArrays : Type 0 where
  pub places : List PlainOnPage
  pub sizes : List PlainSize

-- Sheets of which something holds, and more of them than there is room for.
pub record AreMoreSheets (packed_so : List Size → List OnPage → Type 0) (room : ℕ) : Type 0 where
  pub sizes : List Size
  pub placed : List OnPage
  pub packed : packed_so sizes placed
  pub beyond : room < length sizes

-- The places and the sizes of such sheets stand at the start of their arrays, which have room for them; and the sheets are
-- counted.
pub record AreSheetsWritten (packed_so : List Size → List OnPage → Type 0) (sprites : List Size) (count : ℕ)
    (old new : PageArrays) : Type 0 where
  pub sizes : List Size
  pub placed : List OnPage
  pub room : length sprites ≤ length old.places
  pub room_for_sizes : length sizes ≤ length old.sizes
  pub packed : packed_so sizes placed
  pub places_written : IsWritten on_page_in placed old.places new.places
  pub bits : AreFirst IsPageToldByBit (min (length placed) (length old.places)) new.places
  pub sizes_written : IsWritten size_in sizes old.sizes new.sizes
  pub counted : count ≡ length sizes

-- Sheets that take all sprites together, and more of them than there is room for.
abbrev pub AreMorePages : SheetOptions → (sprites : List Size) → (room : ℕ) → Type 0
AreMorePages o sprites room = AreMoreSheets (ArePackedPages o sprites) room

-- Such sheets are written.
abbrev pub ArePagesWritten : SheetOptions → (sprites : List Size) → (count : ℕ) → (old new : PageArrays) → Type 0
ArePagesWritten o sprites count old new = AreSheetsWritten (ArePackedPages o sprites) sprites count old new
