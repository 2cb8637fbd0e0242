use Rattle.std.proofs.Common.{rules, ◌≡◌, ◌<◌, length, ap, ◌∙◌, arith}
use Rattle.std.proofs.Common.{Err}
use Rattle.atlas_allocator.proofs.AtlasLemmas.RefitLoops.{refitting-start, refitting-end, refitting-exact, refitting-same, refitting-change}
use Rattle.atlas_allocator.proofs.AtlasLemmas.RefitLoops.{refitting-failure, refitting-refusal}
use Rattle.atlas_allocator.proofs.atlas.rearranging.refit.Goals as goal
use Rattle.atlas_allocator.proofs.atlas.rearranging.refit.Goals.{in-Some+in_ok-push-in-Some, in-None}

pub loop-at-init : goal.loop-at-init
loop-at-init g c = (refitting-start _ _ _ c.new-changes.ensures.items, λ f. f)

pub size_of_box-requires : goal.size_of_box-requires
size_of_box-requires g c =
    refitting-exact _ _ _ _ _ _ _ c.loop-at.invariant.0
    (omega (arith, c.loop-at-test.true, c.len-at-end.ensures, c.loop-at.invariant.0.length)) c.index-old.result.now c.index-old.ensures
    c.requires.exact

pub returns-in_err-new-clause-refused : goal.returns-in_err-new-clause-refused
returns-in_err-new-clause-refused g c =
    let same : c.from_residual.result ≡ Err c.in_err-new.field-0.0 = search rules in
    refitting-refusal _ _ _ _ _ _ _ c.loop-at.invariant.0
    (omega (arith, c.loop-at-test.true, c.len-at-end.ensures, c.loop-at.invariant.0.length)) c.index-old.result.now c.index-old.ensures
    _ c.size_of_box.ensures _ c.in_err-new.field-0.0 c.in_err-new.ensures.step c.from_residual.result same

pub loop-at-preserved : goal.loop-at-preserved
loop-at-preserved g c =
    let below : c.loop-at.at < length c.loop-at.failures.items = omega (
      arith,
      c.loop-at-test.true,
      c.len-at-end.ensures,
      c.loop-at.invariant.0.length,
    ) in
    let exact = refitting-exact _ _ _ _ _ _ _ c.loop-at.invariant.0 below c.index-old.result.now c.index-old.ensures c.requires.exact in
    elim c.match-branch-2.branch [
      | in-Some+in_ok-push-in-Some w ↦ (
        refitting-same _ _ _ _ _ _ _ _ _ _ w.failed-is (ap (λ v. v.items) w.changes-is ∙ w.in_ok-push-in-Some.ensures.items)
            (ap (λ v. v.items) w.failures-is)
            (refitting-change _ _ _ _ _ _ _ c.loop-at.invariant.0 below c.index-old.result.now c.index-old.ensures
            _ c.size_of_box.ensures _ w.in-Some.new c.in_ok-new.field-0 w.in-Some.is c.in_ok-new.ensures.step c.in_ok-new.ensures.exact
            exact),
        λ f. c.in_ok-new.ensures.first (c.loop-at.invariant.1 f),
      )
      | in-None w ↦ (
        refitting-same _ _ _ _ _ _ _ _ _ _ w.failed-is (ap (λ v. v.items) w.changes-is) (ap (λ v. v.items) w.failures-is)
            (refitting-failure _ _ _ _ _ _ _ c.loop-at.invariant.0 below c.index-old.result.now c.index-old.ensures
            _ c.size_of_box.ensures _ c.in_ok-new.field-0 w.in-None.is c.in_ok-new.ensures.step exact),
        λ f. c.in_ok-new.ensures.first (c.loop-at.invariant.1 f),
      )
    ]

pub returns-clause-refits : goal.returns-clause-refits
returns-clause-refits g c =
    refitting-end _ _ _ _ _ _ _ c.loop-at.invariant.0
    (omega (arith, c.loop-at-test.false, c.len-at-end.ensures)) c.truncate.new.self.items c.truncate.ensures.items

pub returns-clause-first : goal.returns-clause-first
returns-clause-first g c = c.loop-at.invariant.1
