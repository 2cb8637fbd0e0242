use Rattle.std.proofs.Common.{◌∙◌, sym, rules}
use Rattle.atlas_store.specs.Slots.{blank_slot}
use Rattle.atlas_allocator.proofs.AtlasLemmas.SlotSteps.{live-step}
use Rattle.atlas_allocator.proofs.atlas.iter.live_from.Goals as goal

pub returns-then-eq-clause-found : goal.returns-then-eq-clause-found
returns-then-eq-clause-found c =
    sym c.loop-at.invariant ∙ live-step c.args.slots.now c.loop-at.at _ blank_slot (search rules) c.eq.result c.eq.ensures c.if-eq.true
