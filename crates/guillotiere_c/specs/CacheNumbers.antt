-- What statuses and structs of numbers of a cache mean.
use Rattle.std.specs.Prelude.{ℕ, ◌==◌, if◌then◌else◌, Option, Some, None, Result, Ok, Err}
use Rattle.guillotiere_c.specs.declared.plain.TheConstants.{DONE, SLOTS, MEMORY, OTHER_SIZE, NUMBERS}
use Rattle.guillotiere_c.specs.declared.plain.TheConstants.{HELD, FRAME_FULL, NEVER_FITS}
use Rattle.guillotiere_c.specs.declared.plain.TheConstants.{EMPTY_PAGE}
use Rattle.guillotiere_c.specs.declared.plain.TheConstants.{LARGEST_PAGE, NO_PAGES, BAD_PADDING, BAD_ATLAS, NOTHING_FITS}
use Rattle.guillotiere_c.specs.declared.plain.TheConstants.{NOT_HELD, PAGE_ADDED, PAGE_GROWN, EVICTED, MOVED, PAGE_REMOVED}
use Rattle.guillotiere_c.specs.declared.plain_cache.PlainCacheChange.{PlainCacheChange}
use Rattle.guillotiere_c.specs.declared.plain_cache.PlainCacheOptions.{PlainCacheOptions}
use Rattle.guillotiere_c.specs.declared.plain_cache.PlainCounts.{PlainCounts}
use Rattle.guillotiere_c.specs.declared.plain_cache.PlainPlace.{PlainPlace}
use Rattle.guillotiere_c.specs.Numbers.{allocator_options_in, corners_in, size_in}
use Rattle.atlas_cache.specs.declared.changes.CacheChange.{CacheChange}
use Rattle.atlas_cache.specs.declared.changes.CacheChange.TheVariants.{PageAdded, PageGrown, Evicted, Moved, PageRemoved}
use Rattle.atlas_cache.specs.declared.counts.Counts.{Counts}
use Rattle.atlas_cache.specs.declared.CacheError.{CacheError}
use Rattle.atlas_cache.specs.declared.CacheError.TheVariants as error
use Rattle.atlas_cache.specs.declared.error.OptionsError.{OptionsError}
use Rattle.atlas_cache.specs.declared.error.OptionsError.TheVariants as fault
use Rattle.atlas_cache.specs.declared.inserted.Inserted.{Inserted}
use Rattle.atlas_cache.specs.declared.inserted.Inserted.TheVariants.{Placed, Held, FrameFull, NeverFits}
use Rattle.atlas_cache.specs.declared.options.CacheOptions.{CacheOptions}
use Rattle.atlas_cache.specs.declared.places.Place.{Place}

abbrev pub place_in : PlainPlace → Place
place_in p =
    record { number = p.number; page = p.page; rectangle = corners_in p.rectangle; inner = corners_in p.inner }

abbrev pub counts_in : PlainCounts → Counts
counts_in c = record { hits = c.hits; misses = c.misses; evictions = c.evictions; forced = c.forced }

abbrev pub cache_options_in : PlainCacheOptions → CacheOptions
cache_options_in o =
    record {
      page = size_in o.page;
      largest_page = size_in o.largest_page;
      pages = o.pages;
      padding = o.padding;
      atlas = allocator_options_in o.atlas;
    }

-- The change that a struct tells, if it is of one of the five kinds.
abbrev pub cache_change_in : PlainCacheChange → Option (CacheChange ℕ)
cache_change_in c =
    if c.kind == PAGE_ADDED then Some (PageAdded c.page (size_in c.size))
    else (if c.kind == PAGE_GROWN then Some (PageGrown c.page (size_in c.size))
    else (if c.kind == EVICTED then Some (Evicted c.key (place_in c.from))
    else (if c.kind == MOVED then Some (Moved c.key (place_in c.from) (place_in c.to))
    else (if c.kind == PAGE_REMOVED then Some (PageRemoved c.page) else None))))

-- The error that a status tells of options.
abbrev pub options_fault : ℕ → Option OptionsError
options_fault status =
    if status == EMPTY_PAGE then Some fault.EmptyPage
    else (if status == LARGEST_PAGE then Some fault.LargestPage
    else (if status == NO_PAGES then Some fault.NoPages
    else (if status == BAD_PADDING then Some fault.Padding
    else (if status == BAD_ATLAS then Some fault.Atlas
    else (if status == NOTHING_FITS then Some fault.NothingFits else None)))))

-- The error that a status tells of a cache.
abbrev pub cache_error : ℕ → Option CacheError
cache_error status =
    if status == MEMORY then Some error.Memory
    else (if status == NUMBERS then Some error.Numbers
    else (if status == SLOTS then Some error.Slots
    else (if status == OTHER_SIZE then Some error.OtherSize else None)))

-- The answer of an insert that wrote this, if it is one.
abbrev pub insert_answer : (status : ℕ) → PlainPlace → Option (Result Inserted CacheError)
insert_answer status written =
    if status == DONE then Some (Ok (Placed (place_in written)))
    else (if status == HELD then Some (Ok (Held (place_in written)))
    else (if status == FRAME_FULL then Some (Ok FrameFull)
    else (if status == NEVER_FITS then Some (Ok NeverFits)
    else (if status == MEMORY then Some (Err error.Memory)
    else (if status == NUMBERS then Some (Err error.Numbers)
    else (if status == SLOTS then Some (Err error.Slots)
    else (if status == OTHER_SIZE then Some (Err error.OtherSize) else None)))))))

-- The place that a look-up of a key wrote, if its answer is one.
abbrev pub found_answer : (status : ℕ) → PlainPlace → Option (Option Place)
found_answer status written =
    if status == DONE then Some (Some (place_in written)) else (if status == NOT_HELD then Some None else None)

-- The key and the place that a walk along the order of use wrote, if its answer is one.
abbrev pub keyed_answer : (status key : ℕ) → PlainPlace → Option (Option (ℕ × Place))
keyed_answer status key written =
    if status == DONE then Some (Some (key, place_in written)) else (if status == NOT_HELD then Some None else None)
