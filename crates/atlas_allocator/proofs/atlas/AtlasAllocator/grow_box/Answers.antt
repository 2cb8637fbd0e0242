use Rattle.std.proofs.Common.{◌≡◌, [], ap, subst, sym, arith}
use Rattle.atlas_model.specs.Boxes.{Fits}
use Rattle.atlas_model.specs.Pixels.{sides_of}
use Rattle.atlas_model.specs.States.{live_in, IsSound}
use Rattle.atlas_model.specs.Steps.AtlasReply.{Done}
use Rattle.atlas_store.specs.Store.Holdings.{shelf_of}
use Rattle.atlas_store.specs.Stored.{state_of}
use Rattle.atlas_allocator.proofs.AtlasLemmas.GrownAtlas.{tree-here, lone-here, box-done}
use Rattle.atlas_model.proofs.StepLemmas.CallerSteps.{growth_keeps}
use Rattle.atlas_allocator.proofs.AtlasLemmas.Reserves.{growth-few}
use Rattle.atlas_allocator.proofs.atlas.AtlasAllocator.grow_box.Goals as goal

pub grow_whole-requires-clause-tree : goal.grow_whole-requires-clause-tree
grow_whole-requires-clause-tree g c =
    let none = subst (λ w. live_in (state_of w) ≡ []) (sym c.self.view_is) c.requires.idle in
    (_, _, tree-here _ c.self.invariant, lone-here _ c.self.invariant none)

pub invariant_of-self : goal.invariant_of-self
invariant_of-self g c =
    let larger = subst (λ w. Fits (state_of w).size (sides_of c.args.size)) (sym c.self.view_is) c.requires.larger in
    let none = subst (λ w. live_in (state_of w) ≡ []) (sym c.self.view_is) c.requires.idle in
    (box-done _ c.self.invariant c.args.size larger none (shelf_of c.grow_whole.new.store) c.grow_whole.ensures.takes.options
    c.grow_whole.ensures.grown).atlas

pub returns-clause-step : goal.returns-clause-step
returns-clause-step g c =
    let larger = subst (λ w. Fits (state_of w).size (sides_of c.args.size)) (sym c.self.view_is) c.requires.larger in
    let none = subst (λ w. live_in (state_of w) ≡ []) (sym c.self.view_is) c.requires.idle in
    rw (← c.self.view_is) ((box-done _ c.self.invariant c.args.size larger none (shelf_of c.grow_whole.new.store)
    c.grow_whole.ensures.takes.options c.grow_whole.ensures.grown).step c.grow_whole.new.store.turns.count
    c.self.inside.store.turns.count)

pub returns-clause-keeps : goal.returns-clause-keeps
returns-clause-keeps g c =
    growth_keeps _ _ (subst (λ w. IsSound (state_of w)) c.self.view_is c.self.invariant.sound) (sides_of c.args.size) Done
    (returns-clause-step g c)

pub returns-clause-slots : goal.returns-clause-slots
returns-clause-slots g c = record {
  used = growth-few (state_of c.args.self.now) _ (sides_of c.args.size) (returns-clause-step g c);
  capacity = omega (arith, ap (λ v. v.capacity) c.self.view_is, c.grow_whole.ensures.takes.capacity);
}
