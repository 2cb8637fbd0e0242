use Rattle.std.proofs.Common.{arith}
use Rattle.std.proofs.lemmas.Option.{slice_get_within}
use Rattle.atlas_cache.proofs.rooms.Rooms.place.Goals as goal

pub place_among-requires-clause-others : goal.place_among-requires-clause-others
place_among-requires-clause-others g c =
    rw (← c.self.view_is) (λ k s is room.
    (omega arith, omega (arith, c.len-to.ensures, slice_get_within c.self.inside.pages.items k s is)))
