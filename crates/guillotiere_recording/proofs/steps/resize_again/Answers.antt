use Rattle.std.proofs.Common.{sym, subst, refl, ◌∙◌}
use Rattle.guillotiere.specs.Steps as atlas
use Rattle.guillotiere.specs.Pixels.{sides_of}
use Rattle.guillotiere.specs.Stored.{state_of}
use Rattle.guillotiere_recording.specs.Events.{list_value_of}
use Rattle.guillotiere_recording.specs.Events.EventValue.{ResizeAndRearrange}
use Rattle.guillotiere_recording.specs.Kept.{IsFollowed, IsUnlike}
use Rattle.guillotiere_recording.specs.Standing.{IsStopped}
use Rattle.guillotiere_recording.proofs.KeptNames.{value_of, names_kept}
use Rattle.guillotiere_recording.proofs.RearrangedReplays.{rearranged_on, other_resizing, unlike_stops}
use Rattle.guillotiere_recording.proofs.ReplaySteps.{stopped_as}
use Rattle.guillotiere_recording.proofs.steps.resize_again.Goals as goal

pub follow-requires : goal.follow-requires
follow-requires g c = record {
  before = value_of c.args.atlas.now c.args.names.now;
  kept = names_kept c.args.atlas.now c.args.names.now c.requires.0 c.requires.1 c.in_ok-entries.ensures.ordered
      c.in_ok-entries.ensures.found;
  names = sym (c.deref.ensures.value ∙ c.in_ok-entries.ensures.list);
  new = state_of c.resize_and_rearrange.new.self;
  asked = atlas.ResizeAndRearrange (sides_of c.args.size);
  step = c.in_ok-list.ensures.step;
}

pub returns-in_err-names-clause-fault : goal.returns-in_err-names-clause-fault
returns-in_err-names-clause-fault g c =
    let entries = c.deref.ensures.value ∙ c.in_ok-entries.ensures.list in
    let e = c.in_err-names.field-0.0 in
    let said = list_value_of c.args.recorded.now in
    let unlike = subst (λ es. IsUnlike es c.in_ok-list.list said e) entries c.in_err-names.ensures.fault in
    stopped_as (IsStopped c.args.atlas.now c.args.names.now (ResizeAndRearrange c.args.size said)) c.from_residual-in_err-names.result e
    c.from_residual-in_err-names.ensures.1
    (unlike_stops c.args.atlas.now c.args.names.now c.in_ok-list.list said (ResizeAndRearrange c.args.size said) e
    (λ s h other. other_resizing c.args.atlas.now c.resize_and_rearrange.new.self c.args.names.now
    (atlas.ResizeAndRearrange (sides_of c.args.size)) c.in_ok-list.list c.in_ok-list.ensures.step c.in_ok-list.ensures.exact
    c.in_ok-entries.ensures.ordered c.in_ok-entries.ensures.found s h c.args.size said (let p = c.in_ok-list.ensures.step in p.0) other
    refl) unlike)

pub returns-clause-ok : goal.returns-clause-ok
returns-clause-ok g c = λ s h.
    let entries = c.deref.ensures.value ∙ c.in_ok-entries.ensures.list in
    let said = list_value_of c.args.recorded.now in
    let followed = subst (λ es. IsFollowed es c.in_ok-list.list said c.in_ok-names.field-0) entries c.in_ok-names.ensures.ok in
    rearranged_on c.args.atlas.now c.resize_and_rearrange.new.self c.args.names.now (atlas.ResizeAndRearrange (sides_of c.args.size))
    c.in_ok-list.list c.in_ok-list.ensures.step c.in_ok-list.ensures.exact
    c.in_ok-entries.ensures.ordered c.in_ok-entries.ensures.found s h said c.in_ok-names.field-0 followed
    (ResizeAndRearrange c.args.size said) (λ t led. led)
