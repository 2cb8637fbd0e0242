use Rattle.std.proofs.Common.{rules, arith}
use Rattle.atlas_store.proofs.WalkLemmas.NamedSlots.{named-found, named-missed, not_missed}
use Rattle.atlas_allocator.proofs.atlas.AtlasAllocatorIndexAllocId.index.Goals as goal

pub unreachable-requires : goal.unreachable-requires
unreachable-requires g c = grind (arith, not_missed, named-missed)

pub returns : goal.returns
returns g c = search (rules, named-found)
