use Rattle.atlas_allocator.proofs.AtlasLemmas.FreedLists.{named-live_once, live-named_once}
use Rattle.atlas_allocator.proofs.atlas.AtlasAllocator.are_live_once.Goals as goal

pub returns-clause-live : goal.returns-clause-live
returns-clause-live g c =
    let is = c.are_named_once.ensures.named in
    rw (← c.self.view_is) (
      (λ t. named-live_once _ c.self.invariant c.self.inside.store.turns.count c.args.ids.now (is.0 t)),
      (λ h. is.1 (live-named_once _ c.self.invariant c.self.inside.store.turns.count c.args.ids.now h)),
    )
