use Rattle.std.proofs.Common.{subst}
use Rattle.std.specs.Fn.{CalledAt, TakesAt}
use Rattle.atlas_store.specs.Slots.{nodes}
use Rattle.atlas_store.specs.Stored.{state_of}
use Rattle.atlas_store.specs.Visits.{AreFreeAreas, free_areas}
use Rattle.atlas_store.specs.Walks.{IsShownArea}
use Rattle.atlas_store.proofs.WalkLemmas.AlongLists.{along-all, shown_areas-IsAtlas}
use Rattle.atlas_allocator.proofs.AtlasLemmas.ShownLists.{free_areas-IsAtlas}
use Rattle.atlas_allocator.proofs.atlas.AtlasAllocator.for_each_free_rectangle.Goals as goal

pub visit_free-requires : goal.visit_free-requires
visit_free-requires g c =
    let shown = subst (λ w. AreFreeAreas (state_of w) (free_areas (nodes c.slots.result.now))) c.self.view_is
    (free_areas-IsAtlas _ c.self.invariant c.self.inside.store.turns.count _ c.slots.ensures) in
    along-all (λ p x q. CalledAt g.F.FnMut p x tt q) IsShownArea (λ p x. TakesAt g.F.FnMut p x) c.args.visit _
    (shown_areas-IsAtlas _ c.self.invariant 0 _ c.slots.ensures) (c.requires _ shown)

pub returns : goal.returns
returns g c = rw (← c.self.view_is) (_, free_areas-IsAtlas _ c.self.invariant 0 _ c.slots.ensures, c.visit_free.ensures)
