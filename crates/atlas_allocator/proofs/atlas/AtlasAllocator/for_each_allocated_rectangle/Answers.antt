use Rattle.std.proofs.Common.{All, subst}
use Rattle.atlas_store.specs.Slots.{nodes}
use Rattle.atlas_store.specs.Stored.{state_of}
use Rattle.atlas_store.specs.Visits.{AreGrants, CalledAtGrant, allocated_from}
use Rattle.atlas_store.specs.Walks.{IsShownGrant, TakesAtGrant}
use Rattle.atlas_store.proofs.WalkLemmas.AlongLists.{along-all, shown-IsAtlas}
use Rattle.atlas_allocator.proofs.AtlasLemmas.ShownLists.{grants-IsAtlas}
use Rattle.atlas_allocator.proofs.atlas.AtlasAllocator.for_each_allocated_rectangle.Goals as goal

pub visit_allocated-requires-clause-callable : goal.visit_allocated-requires-clause-callable
visit_allocated-requires-clause-callable g c =
    let grants = subst (λ w. AreGrants (state_of w) (allocated_from 0 (nodes c.slots.result.now))) c.self.view_is
    (grants-IsAtlas _ c.self.invariant c.self.inside.store.turns.count _ c.slots.ensures) in
    let shown = subst (λ w. All (IsShownGrant (state_of w)) (allocated_from 0 (nodes c.slots.result.now))) c.self.view_is
    (shown-IsAtlas _ c.self.invariant c.self.inside.store.turns.count _ c.slots.ensures) in
    along-all (CalledAtGrant g.F.FnMut) (IsShownGrant (state_of c.args.self.now)) (λ p x. TakesAtGrant g.F.FnMut p x) c.args.visit _ shown
    (c.requires _ grants)

pub returns : goal.returns
returns g c = rw (← c.self.view_is) (_, grants-IsAtlas _ c.self.invariant 0 _ c.slots.ensures, c.visit_allocated.ensures)
