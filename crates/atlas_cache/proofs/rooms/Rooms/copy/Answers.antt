use Rattle.std.proofs.Common.{◌∙◌, ap}
use Rattle.atlas_cache.specs.Rooms.{stored_on}
use Rattle.atlas_cache.proofs.RoomLemmas.StoredPages.{states_same}
use Rattle.atlas_cache.proofs.RoomLemmas.KnownPages.{known_same}
use Rattle.atlas_cache.proofs.RoomLemmas.PageReserves.{same_rooms}
use Rattle.atlas_cache.proofs.rooms.Rooms.copy.Goals as goal

pub invariant_of-result : goal.invariant_of-result
invariant_of-result g c =
    let r = c.self.inside in
    let old = r.pages.items in
    let new = c.in_ok-pages.pages.items in
    let states = states_same old new (c.in_ok-pages.ensures ∙ ap stored_on c.deref.ensures.value) in (
      same_rooms old new states r.options c.self.invariant.0,
      rw (c.in_ok-known.ensures.items, c.deref-2.ensures.value) (known_same old new r.known.items states c.self.invariant.1),
    )
