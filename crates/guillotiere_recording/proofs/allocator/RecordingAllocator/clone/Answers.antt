use Rattle.std.proofs.Common.{◌≡◌, ◌∙◌, ◌<◌, List, All, ap, subst, sym}
use Rattle.guillotiere.specs.States.{State}
use Rattle.guillotiere.specs.Stored.{Stored, state_of}
use Rattle.guillotiere_recording.specs.Events.{given_names}
use Rattle.guillotiere_recording.specs.Logs.{recording_of, RecordingValue}
use Rattle.guillotiere_recording.specs.Names.{AreLiveIds, AreRisingNames, name_among}
use Rattle.guillotiere_recording.specs.Recordings.{LeadsTo}
use Rattle.guillotiere_recording.specs.declared.names.LiveName.{LiveName}
use Rattle.guillotiere_recording.proofs.allocator.RecordingAllocator.clone.Goals as goal

pub invariant_of-result : goal.invariant_of-result
invariant_of-result g c =
    let was = c.self.invariant in
    let s = c.self.inside in
    let new = c.in_ok-atlas.atlas in
    let state : state_of new ≡ state_of s.atlas = ap (λ (v : Stored). state_of (record { stored = v; turns = 0; capacity = 0 }))
    c.in_ok-atlas.ensures.equal in
    let names : c.in_ok-names.names.items ≡ s.names.items = c.in_ok-names.ensures.items ∙ c.deref.ensures.value in
    let log = c.in_ok-log.ensures.same in
    record {
      faithful = record {
        leads = subst (λ (r : RecordingValue). LeadsTo r (record { state = state_of new; name = name_among c.in_ok-names.names.items }))
            (sym log)
            (subst (λ (ns : List LiveName). LeadsTo (recording_of s.log) (record { state = state_of new; name = name_among ns }))
            (sym names)
            (subst (λ (u : State). LeadsTo (recording_of s.log) (record { state = u; name = name_among s.names.items })) (sym state)
            was.faithful.leads));
        given = ap (λ (r : RecordingValue). given_names r.events) log ∙ was.faithful.given;
      };
      ids = subst (λ (ns : List LiveName). AreLiveIds (state_of new) ns) (sym names)
          (subst (λ (u : State). AreLiveIds u s.names.items) (sym state) was.ids);
      rising = subst (λ (ns : List LiveName). AreRisingNames ns) (sym names) was.rising;
      below = subst (λ (ns : List LiveName). All (λ (n : LiveName). n.name < s.given) ns) (sym names) was.below;
      most = was.most;
    }

pub returns-clause-atlas : goal.returns-clause-atlas
returns-clause-atlas g c = c.in_ok-atlas.ensures.equal ∙ ap (λ v. v.atlas.stored) c.self.view_is

pub returns-clause-given : goal.returns-clause-given
returns-clause-given g c = ap (λ v. v.given) c.self.view_is

pub returns-clause-recording : goal.returns-clause-recording
returns-clause-recording g c = c.in_ok-log.ensures.same ∙ ap (λ v. v.recording) c.self.view_is
