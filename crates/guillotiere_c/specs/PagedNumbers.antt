-- What statuses and structs of numbers of boxes on several pages mean.
use Rattle.std.specs.Prelude.{ℕ, ◌==◌, if◌then◌else◌, Option, Some, None, Result, Ok, Err}
use Rattle.guillotiere_c.specs.declared.plain.TheConstants.{DONE, NO_ROOM, BAD_CALL, NOT_LIVE, SLOTS, MEMORY, NO_PAGE}
use Rattle.guillotiere_c.specs.declared.plain_paged.PlainPageAllocation.{PlainPageAllocation}
use Rattle.guillotiere_c.specs.Numbers.{corners_in}
use Rattle.guillotiere.specs.declared.AtlasError.{AtlasError}
use Rattle.guillotiere.specs.declared.AtlasError.TheVariants as error
use Rattle.atlas_pages.specs.declared.error.PagesError.{PagesError}
use Rattle.atlas_pages.specs.declared.error.PagesError.TheVariants as fault
use Rattle.atlas_pages.specs.declared.paged.PageAllocation.{PageAllocation}

abbrev pub page_allocation_in : PlainPageAllocation → PageAllocation
page_allocation_in a = record { page = a.page; id = a.id; rectangle = corners_in a.rectangle }

-- The answer of a request that wrote this, if it is one.
abbrev pub page_answer : (status : ℕ) → PlainPageAllocation → Option (Result (Option PageAllocation) AtlasError)
page_answer status written =
    if status == DONE then Some (Ok (Some (page_allocation_in written)))
    else (if status == NO_ROOM then Some (Ok None)
    else (if status == NOT_LIVE then Some (Err error.NotLive)
    else (if status == SLOTS then Some (Err error.Slots)
    else (if status == MEMORY then Some (Err error.Memory) else None))))

-- The status of an error of an atlas.
abbrev pub error_status : AtlasError → ℕ
error_status error.NotLive = NOT_LIVE
error_status error.Slots = SLOTS
error_status error.Memory = MEMORY

-- The status of an error of pages: what is wrong with a size or with options has one for all.
abbrev pub pages_status : PagesError → ℕ
pages_status fault.NoPage = NO_PAGE
pages_status (fault.Refused e) = error_status e
pages_status e = BAD_CALL
