use Rattle.std.proofs.Common.{rules, ◌≡◌, [], sym, ap, subst, ◌∙◌, arith}
use Rattle.std.proofs.lemmas.Bool.{false≢true}
use Rattle.std.specs.Prelude.{Err}
use Rattle.atlas_model.specs.Boxes.{Fits}
use Rattle.atlas_model.specs.Pixels.{sides_of}
use Rattle.atlas_model.specs.States.{live_in, IsSound}
use Rattle.atlas_model.specs.Steps.AtlasReply.{Done}
use Rattle.atlas_store.specs.Stored.{state_of}
use Rattle.atlas_store.proofs.WalkLemmas.StoredAtlas.{used-IsAtlas}
use Rattle.atlas_allocator.proofs.AtlasLemmas.GrownAtlas.{tree-here, some-plan, fits-from, refused-step, some-growable, grow-done}
use Rattle.atlas_model.proofs.StepLemmas.CallerSteps.{growth_keeps}
use Rattle.atlas_allocator.proofs.AtlasLemmas.Reserves.{growth-few}
use Rattle.atlas_allocator.proofs.atlas.AtlasAllocator.grow.Goals as goal

pub growth_for-growth-requires-clause-tree : goal.growth_for-growth-requires-clause-tree
growth_for-growth-requires-clause-tree g c = (_, tree-here _ c.self.invariant)

pub slots_for-added-requires-clause-tree : goal.slots_for-added-requires-clause-tree
slots_for-added-requires-clause-tree g c =
    let larger = subst (λ w. Fits (state_of w).size (sides_of c.args.new_size)) (sym c.self.view_is) c.requires in
    some-plan _ c.self.invariant c.args.new_size larger c.growth_for-growth.result c.growth_for-growth.ensures

pub slots_for-added-requires-clause-fits : goal.slots_for-added-requires-clause-fits
slots_for-added-requires-clause-fits g c =
    let larger = subst (λ w. Fits (state_of w).size (sides_of c.args.new_size)) (sym c.self.view_is) c.requires in
    fits-from _ c.self.invariant c.args.new_size larger c.growth_for-growth.result c.growth_for-growth.ensures

pub make_room-requires-clause-used : goal.make_room-requires-clause-used
make_room-requires-clause-used g c = omega (
  arith,
  used-IsAtlas _ c.self.invariant,
  c.self.invariant.sound.counted,
  c.self.invariant.sound.limited,
)

pub returns-in_err-make_room-clause-step : goal.returns-in_err-make_room-clause-step
returns-in_err-make_room-clause-step g c =
    let larger = subst (λ w. Fits (state_of w).size (sides_of c.args.new_size)) (sym c.self.view_is) c.requires in
    let busy : live_in (state_of c.args.self.now) ≡ [] → ⊥ = λ none. false≢true (sym c.if-is_empty.false ∙ c.is_empty.ensures.empty.1 none)
    in
    let some = subst (λ w. live_in (state_of w) ≡ [] → ⊥) (sym c.self.view_is) busy in
    let same : c.from_residual.result ≡ Err c.in_err-make_room.field-0.0 = search rules in
    rw (← c.self.view_is)
    (refused-step _ c.self.invariant c.args.new_size larger c.growth_for-growth.result c.growth_for-growth.ensures some
    c.slots_for-added.result c.slots_for-added.ensures.need
    c.make_room.new.self c.make_room.ensures.same.shelf c.from_residual.result c.in_err-make_room.field-0.0 same
    c.in_err-make_room.ensures.refused c.make_room.new.self.turns.count c.self.inside.store.turns.count)

pub grow_tree-self-inside-requires : goal.grow_tree-self-inside-requires
grow_tree-self-inside-requires g c =
    let larger = subst (λ w. Fits (state_of w).size (sides_of c.args.new_size)) (sym c.self.view_is) c.requires in
    let busy : live_in (state_of c.args.self.now) ≡ [] → ⊥ = λ none. false≢true (sym c.if-is_empty.false ∙ c.is_empty.ensures.empty.1 none)
    in
    let some = subst (λ w. live_in (state_of w) ≡ [] → ⊥) (sym c.self.view_is) busy in
    some-growable _ c.self.invariant c.args.new_size larger c.growth_for-growth.result c.growth_for-growth.ensures some
    c.slots_for-added.result c.slots_for-added.ensures.need
    c.make_room.new.self c.make_room.ensures.same.shelf c.in_ok-make_room.ensures.ok

pub invariant_of-self-2 : goal.invariant_of-self-2
invariant_of-self-2 g c =
    let larger = subst (λ w. Fits (state_of w).size (sides_of c.args.new_size)) (sym c.self.view_is) c.requires in
    let busy : live_in (state_of c.args.self.now) ≡ [] → ⊥ = λ none. false≢true (sym c.if-is_empty.false ∙ c.is_empty.ensures.empty.1 none)
    in
    let some = subst (λ w. live_in (state_of w) ≡ [] → ⊥) (sym c.self.view_is) busy in
    (grow-done _ c.self.invariant c.args.new_size larger c.growth_for-growth.result c.growth_for-growth.ensures some
    c.slots_for-added.result c.slots_for-added.ensures.need
    c.make_room.new.self c.make_room.ensures.same.shelf c.in_ok-make_room.ensures.ok
    c.grow_tree-self-inside.new.store c.grow_tree-self-inside.result c.grow_tree-self-inside.ensures).atlas

pub returns-clause-step : goal.returns-clause-step
returns-clause-step g c =
    let larger = subst (λ w. Fits (state_of w).size (sides_of c.args.new_size)) (sym c.self.view_is) c.requires in
    let busy : live_in (state_of c.args.self.now) ≡ [] → ⊥ = λ none. false≢true (sym c.if-is_empty.false ∙ c.is_empty.ensures.empty.1 none)
    in
    let some = subst (λ w. live_in (state_of w) ≡ [] → ⊥) (sym c.self.view_is) busy in
    rw (← c.self.view_is) ((grow-done _ c.self.invariant c.args.new_size larger c.growth_for-growth.result c.growth_for-growth.ensures some
    c.slots_for-added.result c.slots_for-added.ensures.need
    c.make_room.new.self c.make_room.ensures.same.shelf c.in_ok-make_room.ensures.ok
    c.grow_tree-self-inside.new.store c.grow_tree-self-inside.result c.grow_tree-self-inside.ensures).step
    c.grow_tree-self-inside.new.store.turns.count c.self.inside.store.turns.count)

pub returns-clause-keeps : goal.returns-clause-keeps
returns-clause-keeps g c =
    growth_keeps _ _ (subst (λ w. IsSound (state_of w)) c.self.view_is c.self.invariant.sound) (sides_of c.args.new_size) Done
    (returns-clause-step g c)

pub returns-clause-slots : goal.returns-clause-slots
returns-clause-slots g c = record {
  used = growth-few (state_of c.args.self.now) _ (sides_of c.args.new_size) (returns-clause-step g c);
  capacity =
      omega (
        arith,
        ap (λ v. v.capacity) c.self.view_is,
        c.make_room.ensures.same.capacity,
        c.grow_tree-self-inside.ensures.takes.capacity,
      );
}

pub returns-in_err-make_room-clause-memory : goal.returns-in_err-make_room-clause-memory
returns-in_err-make_room-clause-memory g c =
    let same : c.from_residual.result ≡ Err c.in_err-make_room.field-0.0 = search rules in
    rw (← c.self.view_is) (λ had e. absurd (omega (
      arith,
      had,
      c.in_err-make_room.ensures.full (sym same ∙ e),
      c.slots_for-added.ensures.few,
      used-IsAtlas _ c.self.invariant,
    )))
