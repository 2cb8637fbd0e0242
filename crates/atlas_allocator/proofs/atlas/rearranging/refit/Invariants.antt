use Rattle.atlas_model.specs.Refits.Refitted.{IsRefitting}
use Rattle.atlas_store.specs.Generations.{AreFirstGenerations}
use Rattle.atlas_store.specs.Stored.{state_of}
use Rattle.atlas_allocator.proofs.atlas.rearranging.refit.Given as goal

abbrev pub invariant-loop-at : goal.invariant-loop-at
invariant-loop-at g l =
    IsRefitting (state_of l.fn.atlas) l.fn.order.items (state_of l.atlas) l.at l.failed l.changes.items l.failures.items
    × (AreFirstGenerations l.fn.atlas → AreFirstGenerations l.atlas)
