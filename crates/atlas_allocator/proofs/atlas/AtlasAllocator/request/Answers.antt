use Rattle.std.proofs.Common.{rules, ◌≡◌, refl, ap, subst, sym, arith}
use Rattle.std.specs.Prelude.{Err}
use Rattle.atlas_model.specs.Boxes.{Fits, box_sides}
use Rattle.atlas_model.specs.Pixels.{box_of, rectangle_of, sides_of}
use Rattle.atlas_store.specs.declared.slots.Node.{Node}
use Rattle.atlas_model.specs.Replies.{grant_of}
use Rattle.atlas_model.specs.States.{IsSound}
use Rattle.atlas_model.specs.Steps.AtlasReply.{Allocated}
use Rattle.atlas_model.specs.declared.error.AtlasError.TheVariants.{Memory}
use Rattle.atlas_store.specs.Stored.{state_of}
use Rattle.atlas_store.proofs.WalkLemmas.StoredAtlas.{used-IsAtlas}
use Rattle.atlas_allocator.proofs.AtlasLemmas.UnsignedRectangles.{sides_of-size, unsigned-measurable}
use Rattle.atlas_allocator.proofs.AtlasLemmas.GrantedAtlas.{grant-done, some-grantable, no_room-unrounded, no_room-none, taken-inside}
use Rattle.atlas_allocator.proofs.AtlasLemmas.GrantedAtlas.{taken-exact, taken-fits, refused-step}
use Rattle.atlas_store.proofs.StoreLemmas.TakenOnce.{first-once, once-first, once-shelf}
use Rattle.atlas_allocator.proofs.AtlasLemmas.Reserves.{request-few, plan-few}
use Rattle.atlas_model.proofs.StepLemmas.CallerGrants.{no_room_answer, refused_answer, request_granted}
use Rattle.atlas_allocator.proofs.atlas.AtlasAllocator.request.Goals as goal
use Rattle.atlas_search.proofs.SearchLemmas.Bests.{natural-most}

pub returns-in_default-clause-step : goal.returns-in_default-clause-step
returns-in_default-clause-step g c =
    rw (← c.self.view_is) (
      no_room-unrounded _ c.self.invariant (sides_of c.args.requested_size) c.in_default.ensures
          (natural-most c.self.inside.size.width (search rules)) (natural-most c.self.inside.size.height (search rules)),
      refl,
    )

pub returns-in_default-choose-clause-step : goal.returns-in_default-choose-clause-step
returns-in_default-choose-clause-step g c =
    rw (← c.self.view_is) (
      no_room-none _ c.self.invariant (sides_of c.args.requested_size) (sides_of c.in-Some.size)
          (sides_of-size c.in-Some.size _ c.in-Some.ensures.1) (c.choose.ensures.none c.in_default-choose.is),
      refl,
    )

pub node-requires : goal.node-requires
node-requires g c = taken-inside _ c.self.invariant (sides_of c.args.requested_size) c.in-Some.size c.in-Some.ensures
    c.in-Some-choose.chosen c.in-Some-choose.ensures.some

pub plan_for-plan-requires-clause-exact : goal.plan_for-plan-requires-clause-exact
plan_for-plan-requires-clause-exact g c =
    subst (λ (n : Node). n.area ≡ rectangle_of (box_of n.area)) (sym c.node.ensures)
    (taken-exact _ c.self.invariant (sides_of c.args.requested_size) c.in-Some.size c.in-Some.ensures c.in-Some-choose.chosen
    c.in-Some-choose.ensures.some)

pub plan_for-plan-requires-clause-fits : goal.plan_for-plan-requires-clause-fits
plan_for-plan-requires-clause-fits g c =
    subst (λ (n : Node). Fits (sides_of c.in-Some.size) (box_sides (box_of n.area))) (sym c.node.ensures)
    (taken-fits _ c.self.invariant (sides_of c.args.requested_size) c.in-Some.size c.in-Some.ensures c.in-Some-choose.chosen
    c.in-Some-choose.ensures.some)

pub make_room-requires-clause-used : goal.make_room-requires-clause-used
make_room-requires-clause-used g c = omega (
  arith,
  used-IsAtlas _ c.self.invariant,
  c.self.invariant.sound.counted,
  c.self.invariant.sound.limited,
)

pub returns-in_err-make_room-clause-step : goal.returns-in_err-make_room-clause-step
returns-in_err-make_room-clause-step g c =
    let same : c.from_residual.result ≡ Err c.in_err-make_room.field-0.0 = search rules in
    rw (← c.self.view_is)
    (refused-step _ c.self.invariant (sides_of c.args.requested_size) c.in-Some.size c.in-Some.ensures c.in-Some-choose.chosen
    c.in-Some-choose.ensures.some
    c.node.result c.node.ensures c.plan_for-plan.result c.plan_for-plan.ensures.line c.plan_for-plan.ensures.feasible c.make_room.new.self
    c.make_room.ensures.same.shelf c.slots_needed-needed.result c.slots_needed-needed.ensures c.from_residual.result
    c.in_err-make_room.field-0.0 same c.in_err-make_room.ensures.refused c.make_room.new.self.turns.count
    c.self.inside.store.turns.count)

pub grant-requires : goal.grant-requires
grant-requires g c =
    some-grantable _ c.self.invariant (sides_of c.args.requested_size) c.in-Some.size c.in-Some.ensures c.in-Some-choose.chosen
    c.in-Some-choose.ensures.some
    c.node.result c.node.ensures c.plan_for-plan.result c.plan_for-plan.ensures.line c.plan_for-plan.ensures.feasible c.make_room.new.self
    c.make_room.ensures.same.shelf c.slots_needed-needed.result c.slots_needed-needed.ensures c.in_ok-make_room.ensures.ok

pub invariant_of-self-2 : goal.invariant_of-self-2
invariant_of-self-2 g c =
    (grant-done _ c.self.invariant (sides_of c.args.requested_size) c.in-Some.size c.in-Some.ensures c.in-Some-choose.chosen
    c.in-Some-choose.ensures.some
    c.node.result c.node.ensures c.plan_for-plan.result c.plan_for-plan.ensures.line c.plan_for-plan.ensures.feasible c.make_room.new.self
    c.make_room.ensures.same.shelf c.slots_needed-needed.result c.slots_needed-needed.ensures c.in_ok-make_room.ensures.ok
    c.grant.new.store c.grant.result c.grant.ensures).atlas

pub returns-clause-step : goal.returns-clause-step
returns-clause-step g c =
    let done = grant-done _ c.self.invariant (sides_of c.args.requested_size) c.in-Some.size c.in-Some.ensures c.in-Some-choose.chosen
    c.in-Some-choose.ensures.some
    c.node.result c.node.ensures c.plan_for-plan.result c.plan_for-plan.ensures.line c.plan_for-plan.ensures.feasible c.make_room.new.self
    c.make_room.ensures.same.shelf c.slots_needed-needed.result c.slots_needed-needed.ensures c.in_ok-make_room.ensures.ok
    c.grant.new.store c.grant.result c.grant.ensures in
    rw (← c.self.view_is) (done.granted c.grant.new.store.turns.count c.self.inside.store.turns.count)

pub returns-clause-exact : goal.returns-clause-exact
returns-clause-exact g c =
    (grant-done _ c.self.invariant (sides_of c.args.requested_size) c.in-Some.size c.in-Some.ensures c.in-Some-choose.chosen
    c.in-Some-choose.ensures.some
    c.node.result c.node.ensures c.plan_for-plan.result c.plan_for-plan.ensures.line c.plan_for-plan.ensures.feasible c.make_room.new.self
    c.make_room.ensures.same.shelf c.slots_needed-needed.result c.slots_needed-needed.ensures c.in_ok-make_room.ensures.ok
    c.grant.new.store c.grant.result c.grant.ensures).exact

pub returns-clause-slots : goal.returns-clause-slots
returns-clause-slots g c = record {
  used =
      request-few _ _ (sides_of c.args.requested_size)
      (Allocated (grant_of c.grant.result))
      (subst (λ w. IsSound (state_of w)) c.self.view_is c.self.invariant.sound) (returns-clause-step g c);
  capacity =
      omega (arith, ap (λ v. v.capacity) c.self.view_is, c.make_room.ensures.same.capacity, c.grant.ensures.takes.capacity);
}

pub returns-in_err-make_room-clause-memory : goal.returns-in_err-make_room-clause-memory
returns-in_err-make_room-clause-memory g c =
    let same : c.from_residual.result ≡ Err c.in_err-make_room.field-0.0 = search rules in
    rw (← c.self.view_is) (λ had e.
    let is : c.in_err-make_room.field-0.0 ≡ Memory = cc in
    absurd (omega (
      arith,
      had,
      c.in_err-make_room.ensures.full (ap (λ x. Err x) is),
      plan-few c.plan_for-plan.result,
      c.slots_needed-needed.ensures,
      used-IsAtlas _ c.self.invariant,
    )))

pub returns-in_default-clause-answer : goal.returns-in_default-clause-answer
returns-in_default-clause-answer g c = no_room_answer _ _ c.args.requested_size (returns-in_default-clause-step g c)

pub returns-in_default-choose-clause-answer : goal.returns-in_default-choose-clause-answer
returns-in_default-choose-clause-answer g c =
    no_room_answer _ _ c.args.requested_size (returns-in_default-choose-clause-step g c)

pub returns-in_err-make_room-clause-answer : goal.returns-in_err-make_room-clause-answer
returns-in_err-make_room-clause-answer g c =
    let same : c.from_residual.result ≡ Err c.in_err-make_room.field-0.0 = search rules in
    refused_answer _ _ c.args.requested_size c.from_residual.result _ same (returns-in_err-make_room-clause-step g c)

pub returns-clause-answer : goal.returns-clause-answer
returns-clause-answer g c =
    request_granted _ _ (subst (λ w. IsSound (state_of w)) c.self.view_is c.self.invariant.sound) c.args.requested_size
    c.grant.result.id c.grant.result.rectangle (returns-clause-step g c) (returns-clause-exact g c)
    (unsigned-measurable c.grant.result.rectangle (returns-clause-exact g c) (search rules) (search rules) (search rules) (search rules))

pub returns-clause-first : goal.returns-clause-first
returns-clause-first g c =
    rw (← c.self.view_is) (λ f.
    once-first _ (c.grant.ensures.takes.once (once-shelf _ _ c.make_room.ensures.same.shelf (first-once _ f))))

pub returns-in_err-make_room-clause-first : goal.returns-in_err-make_room-clause-first
returns-in_err-make_room-clause-first g c =
    rw (← c.self.view_is) (λ f. once-first _ (once-shelf _ _ c.make_room.ensures.same.shelf (first-once _ f)))
