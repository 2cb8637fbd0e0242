use Rattle.std.proofs.Common.{◌<◌, ◌⊎◌, rules, sym, subst, arith}
use Rattle.atlas_model.specs.Choice.{rounded}
use Rattle.guillotiere.specs.FreeBoxes.BoxShelves.{box_shelf}
use Rattle.atlas_model.specs.Pixels.{options_of, sides_of}
use Rattle.guillotiere.specs.FreeBoxes.FreeLists.{state_of_items}
use Rattle.guillotiere.specs.SimpleStored.{simple_state_of}
use Rattle.atlas_model.specs.Simple.{IsGuarded}
use Rattle.atlas_model.proofs.SimpleLemmas.SimpleGrants.{step-guarded}
use Rattle.guillotiere.proofs.SimpleLemmas.EntryCounts.{uses-old}
use Rattle.guillotiere.proofs.SimpleLemmas.GrantedBoxes.{past_is_none}
use Rattle.guillotiere.proofs.SimpleLemmas.StoredStates.{stored-step}
use Rattle.guillotiere.proofs.simple.SimpleAtlasAllocator.allocate.Goals as goal
use Rattle.atlas_search.proofs.SearchLemmas.Bests.{natural-most}

pub invariant_of-self : goal.invariant_of-self
invariant_of-self g c =
    let a = c.self.inside in
    record {
      state = stored-step (box_shelf a.boxes) (box_shelf c.grant.new.boxes) a.size a.options (sides_of c.args.requested_size) c.grant.result
          c.self.invariant.state c.grant.ensures.kept
          (c.grant.ensures.step (sides_of a.size) (natural-most a.size.width (search rules)) (natural-most a.size.height (search rules))
          c.self.invariant.state.simple);
      room = omega (arith, c.self.invariant.room, c.grant.ensures.capacity);
    }

pub returns-clause-entries : goal.returns-clause-entries
returns-clause-entries g c =
    let a = c.self.inside in
    rw (← c.self.view_is) (uses-old (options_of a.options) (box_shelf a.boxes) (box_shelf c.grant.new.boxes) c.grant.ensures.kept
    c.grant.ensures.entries)

pub returns-clause-simple : goal.returns-clause-simple
returns-clause-simple g c =
    let a = c.self.inside in
    (stored-step (box_shelf a.boxes) (box_shelf c.grant.new.boxes) a.size a.options (sides_of c.args.requested_size) c.grant.result
    c.self.invariant.state c.grant.ensures.kept
    (c.grant.ensures.step (sides_of a.size) (natural-most a.size.width (search rules)) (natural-most a.size.height (search rules))
    c.self.invariant.state.simple)).simple

pub returns-clause-guarded : goal.returns-clause-guarded
returns-clause-guarded g c held guarded =
    let a = c.self.inside in
    step-guarded (state_of_items (box_shelf a.boxes).entries (sides_of a.size) a.options)
    (state_of_items (box_shelf c.grant.new.boxes).entries (sides_of a.size) a.options) (sides_of c.args.requested_size) c.grant.result
    held
    c.self.invariant.state.simple
    (c.grant.ensures.step (sides_of a.size) (natural-most a.size.width (search rules)) (natural-most a.size.height (search rules))
    c.self.invariant.state.simple)
    (subst (λ w. IsGuarded (simple_state_of w) held) (sym c.self.view_is) guarded)

pub returns-clause-past : goal.returns-clause-past
returns-clause-past g c past =
    let a = c.self.inside in
    past_is_none (state_of_items (box_shelf a.boxes).entries (sides_of a.size) a.options)
    (state_of_items (box_shelf c.grant.new.boxes).entries (sides_of a.size) a.options)
    (sides_of c.args.requested_size) c.self.invariant.state.simple
    (natural-most a.size.width (search rules)) (natural-most a.size.height (search rules))
    (subst
    (λ w. (2147483647 < (rounded (simple_state_of w).options (sides_of c.args.requested_size)).width)
    ⊎ (2147483647 < (rounded (simple_state_of w).options (sides_of c.args.requested_size)).height))
    (sym c.self.view_is) past)
    c.grant.result
    (c.grant.ensures.step (sides_of a.size) (natural-most a.size.width (search rules)) (natural-most a.size.height (search rules))
    c.self.invariant.state.simple)
