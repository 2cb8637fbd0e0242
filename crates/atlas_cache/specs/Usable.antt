-- How much of what is free on a page is of no use for entries of a size.
use Rattle.std.specs.Prelude.{ℕ, List, map, sum_by}
use Rattle.atlas_allocator.specs.Room.{lost}
use Rattle.guillotiere.specs.declared.Size.{Size}
use Rattle.guillotiere.specs.Choice.{rounded}
use Rattle.guillotiere.specs.Pixels.{options_of}
use Rattle.guillotiere.specs.States.{free_in}
use Rattle.guillotiere.specs.Stored.{AtlasValue, state_of}
use Rattle.atlas_cache.specs.declared.options.CacheOptions.{CacheOptions}
use Rattle.atlas_cache.specs.Asking.{bordered}

-- The area on each page that is free in boxes which have no room for an entry of this size, with its padding and rounded
-- up to the alignment.
abbrev pub unusable_by_page : CacheOptions → Size → List AtlasValue → List ℕ
unusable_by_page o size pages =
    map (λ s. sum_by (lost (rounded (options_of o.atlas) (bordered o size))) (free_in (state_of s))) pages
