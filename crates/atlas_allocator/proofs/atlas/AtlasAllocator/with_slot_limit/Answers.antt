use Rattle.std.proofs.Common.{rules, arith}
use Rattle.atlas_store.proofs.StoreLemmas.Starts.{whole_atlas, whole_state}
use Rattle.atlas_store.proofs.StoreLemmas.TakenOnce.{once-first}
use Rattle.atlas_allocator.proofs.atlas.AtlasAllocator.with_slot_limit.Goals as goal

pub invariant_of-result : goal.invariant_of-result
invariant_of-result g c = grind (arith, whole_atlas)

pub returns-clause-state : goal.returns-clause-state
returns-clause-state g c = search (rules, whole_state)

pub returns-clause-anew : goal.returns-clause-anew
returns-clause-anew g c = once-first _ c.in_ok-store.ensures.begun.once
