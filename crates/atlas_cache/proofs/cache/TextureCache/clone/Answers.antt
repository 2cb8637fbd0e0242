use Rattle.std.proofs.Common.{refl}
use Rattle.atlas_cache.specs.Caches.{entries_of}
use Rattle.atlas_entries.specs.Entries.{lying}
use Rattle.atlas_cache.proofs.HoldingLemmas.{stays}
use Rattle.atlas_cache.proofs.RoomLemmas.StoredPages.{states_same}
use Rattle.atlas_cache.proofs.RoomLemmas.PageReserves.{same_rectangles, same_sizes}
use Rattle.atlas_cache.proofs.cache.TextureCache.clone.Goals as goal

pub invariant_of-result : goal.invariant_of-result
invariant_of-result g c =
    let was = c.self.invariant in
    let old = c.self.inside.rooms.pages in
    let new = c.in_ok-rooms.rooms.pages in
    let states = states_same old new c.in_ok-rooms.ensures.stored in
    rw (c.in_ok-rooms.ensures.options, c.in_ok-entries.ensures) (record {
      held = stays old new (same_rectangles old new states) (lying (entries_of c.self.inside.entries.entries)) was.held;
      bordered = was.bordered;
      frames = was.frames;
    })

pub returns-clause-sizes : goal.returns-clause-sizes
returns-clause-sizes g c =
    let old = c.self.inside.rooms.pages in
    let new = c.in_ok-rooms.rooms.pages in
    rw (← c.self.view_is) (same_sizes old new (states_same old new c.in_ok-rooms.ensures.stored))

pub returns-clause-options : goal.returns-clause-options
returns-clause-options g c = rw (← c.self.view_is) c.in_ok-rooms.ensures.options

pub returns-clause-stored : goal.returns-clause-stored
returns-clause-stored g c = rw (← c.self.view_is) c.in_ok-rooms.ensures.stored

pub returns-clause-entries : goal.returns-clause-entries
returns-clause-entries g c = rw (← c.self.view_is, c.in_ok-entries.ensures) refl

pub returns-clause-numbers : goal.returns-clause-numbers
returns-clause-numbers g c = rw (← c.self.view_is, c.in_ok-entries.ensures) refl

pub returns-clause-reserved : goal.returns-clause-reserved
returns-clause-reserved g c = rw c.in_ok-entries.ensures refl

pub returns-clause-frame : goal.returns-clause-frame
returns-clause-frame g c = rw (← c.self.view_is) refl

pub returns-clause-counts : goal.returns-clause-counts
returns-clause-counts g c = rw (← c.self.view_is) refl
