use Rattle.std.proofs.Common.{sym, ◌∙◌, arith}
use Rattle.std.proofs.lemmas.Bool.{false≢true}
use Rattle.atlas_model.specs.Pixels.{sides_of}
use Rattle.atlas_store.proofs.WalkLemmas.AreaSums.{small-IsAtlas}
use Rattle.atlas_allocator.proofs.AtlasLemmas.GrantedAtlas.{no_room-unrounded, found-room, room-at_once}
use Rattle.atlas_allocator.proofs.atlas.AtlasAllocator.can_fit.Goals as goal

pub returns-then-fits_at_once : goal.returns-then-fits_at_once
returns-then-fits_at_once g c =
    let room = room-at_once _ c.self.invariant (sides_of c.args.requested_size) c.in-Some.size c.in-Some.ensures
    (c.fits_at_once.ensures c.if-fits_at_once.true) in
    rw (← c.self.view_is) ((λ yes. room), (λ there. c.if-fits_at_once.true))

pub returns-else-fits_at_once : goal.returns-else-fits_at_once
returns-else-fits_at_once g c =
    let is = found-room _ c.self.invariant (sides_of c.args.requested_size) c.in-Some.size c.in-Some.ensures
    c.choose.result c.choose.ensures.none c.choose.ensures.some in
    rw (← c.self.view_is) (
      (λ yes. is.0 (sym c.is_some.ensures ∙ yes)),
      (λ room. c.is_some.ensures ∙ is.1 room),
    )

pub returns-in-None : goal.returns-in-None
returns-in-None g c =
    let small = small-IsAtlas _ c.self.invariant 0 in
    let none = no_room-unrounded _ c.self.invariant (sides_of c.args.requested_size) c.in-None.ensures
    (omega (arith, small.0)) (omega (arith, small.1)) in
    rw (← c.self.view_is) ((λ yes. absurd (false≢true yes)), (λ room. absurd (none room)))
