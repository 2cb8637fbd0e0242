-- How many slots the pages are ready to use: as one number, and page by page.
use Rattle.std.proofs.Common.{◌≡◌, ◌+◌, ◌-◌, ◌<◌, ◌≤◌, ◌∷◌, [], ℕ, zero, suc, List, Some, slice_get, arith, refl}
use Rattle.guillotiere.specs.Stored.{AtlasValue}
use Rattle.atlas_cache.specs.Reserving.{ready_slots, ready_slots_of, AllowSlots, HaveSlots, UseAtMost}

-- No page is ready for fewer than all of them.
least_ready : (pages : List AtlasValue) (page : ℕ) (s : AtlasValue) → slice_get pages page ≡ Some s
    → ready_slots pages ≤ ready_slots_of s
least_ready [] page s at = cc
least_ready (p ∷ pages) zero s at =
    let same : ready_slots_of p ≡ ready_slots_of s = cc in omega (arith, same)
least_ready (p ∷ pages) (suc page) s at = omega (arith, least_ready pages page s at)

-- All of them are for as many as each page is.
all_ready : (n : ℕ) (pages : List AtlasValue) → n ≤ 4294967295
    → ((page : ℕ) (s : AtlasValue) → slice_get pages page ≡ Some s → n ≤ ready_slots_of s) → n ≤ ready_slots pages
all_ready n [] few each = few
all_ready n (p ∷ pages) few each =
    let first = each zero p refl in
    omega (arith, first, all_ready n pages few (λ page s at. each (suc page) s at))

pub most_ready : (pages : List AtlasValue) → ready_slots pages ≤ 4294967295
most_ready [] = omega arith
most_ready (p ∷ pages) = omega (arith, most_ready pages)

-- What is ready is in reserve on each page.
pub have_ready : (n : ℕ) (pages : List AtlasValue) → 0 < n → n ≤ ready_slots pages → HaveSlots n pages
have_ready n pages some most page s at = omega (arith, some, most, least_ready pages page s at)

-- Each may use it.
pub allow_ready : (n : ℕ) (pages : List AtlasValue) → 0 < n → n ≤ ready_slots pages → AllowSlots n pages
allow_ready n pages some most page s at = omega (arith, some, most, least_ready pages page s at)

-- And what is in reserve on each page, and may be used, is ready.
pub ready_had : (n : ℕ) (pages : List AtlasValue) → n ≤ 4294967295 → HaveSlots n pages → AllowSlots n pages
    → n ≤ ready_slots pages
ready_had n pages few have allow = all_ready n pages few (λ page s at. omega (arith, have page s at, allow page s at))

-- What is ready after so many were used.
pub ready_left : (m : ℕ) (old new : List AtlasValue) → UseAtMost m old new → ready_slots old ≤ ready_slots new + m
ready_left m old new uses =
    let each = all_ready (ready_slots old - m) new (omega (arith, most_ready old)) (λ page t is.
    let was = uses page t is in
    omega (arith, least_ready old page was.0 was.1, was.2.used, was.2.capacity)) in
    omega (arith, each)
