use Rattle.std.proofs.Common.{sym, ◌∙◌}
use Rattle.atlas_store.proofs.WalkLemmas.FreedAtlas.{live-found}
use Rattle.atlas_allocator.proofs.atlas.AtlasAllocator.is_live.Goals as goal

pub returns-clause-live : goal.returns-clause-live
returns-clause-live g c =
    let is = live-found _ c.self.invariant c.args.id c.slots.result.now c.named_slot.result c.slots.ensures c.named_slot.ensures.named
    c.named_slot.ensures.none in
    rw (← c.self.view_is) (
      (λ t. is.0 (sym c.is_some.ensures ∙ t)),
      (λ live. c.is_some.ensures ∙ is.1 live),
    )
