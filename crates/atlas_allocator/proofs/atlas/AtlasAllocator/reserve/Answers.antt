use Rattle.std.proofs.Common.{arith}
use Rattle.atlas_store.proofs.WalkLemmas.StoredAtlas.{used-IsAtlas}
use Rattle.atlas_allocator.proofs.AtlasLemmas.Reserves.{slots-refused, made-ready}
use Rattle.atlas_allocator.proofs.atlas.AtlasAllocator.reserve.Goals as goal

pub make_room-requires-clause-used : goal.make_room-requires-clause-used
make_room-requires-clause-used g c = omega (
  arith,
  used-IsAtlas _ c.self.invariant,
  c.self.invariant.sound.counted,
  c.self.invariant.sound.limited,
)

pub returns-clause-ready : goal.returns-clause-ready
returns-clause-ready g c =
    made-ready _ c.self.invariant c.make_room.new.self c.args.additional c.make_room.new.self.turns.count
    c.make_room.ensures.same.shelf c.make_room.result c.make_room.ensures.ready

pub returns-clause-slots : goal.returns-clause-slots
returns-clause-slots g c =
    rw (← c.self.view_is)
    (slots-refused _ _ c.self.invariant c.args.additional _ c.make_room.result c.make_room.ensures.ok c.make_room.ensures.refused)

pub returns-clause-had : goal.returns-clause-had
returns-clause-had g c =
    rw (← c.self.view_is) (λ had e. absurd (omega (arith, had, c.make_room.ensures.full e, used-IsAtlas _ c.self.invariant)))
