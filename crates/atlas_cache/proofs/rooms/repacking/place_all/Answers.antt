use Rattle.std.proofs.Common.{◌<◌, ◌≡◌, length, refl, ap, ◌∙◌, arith, rules, Err}
use Rattle.atlas_allocator.proofs.AtlasLemmas.RefitLoops.{refitting-start, refitting-end, refitting-exact, refitting-same, refitting-change}
use Rattle.atlas_allocator.proofs.AtlasLemmas.RefitLoops.{refitting-failure}
use Rattle.atlas_cache.proofs.ReadyLemmas.{error_is}
use Rattle.atlas_cache.proofs.rooms.repacking.place_all.Goals as goal
use Rattle.atlas_cache.proofs.rooms.repacking.place_all.Goals.{in-Some+in_ok-push-in-Some, in-None}

pub loop-at-init : goal.loop-at-init
loop-at-init g c = record {
  refits = refitting-start _ _ _ c.new-changes.ensures.items;
  used = omega arith;
  limit = refl;
}

pub request-requires : goal.request-requires
request-requires g c =
    refitting-exact _ _ _ _ _ _ _ c.loop-at.invariant.refits
    (omega (arith, c.loop-at-test.true, c.len-at-end.ensures, c.loop-at.invariant.refits.length)) c.index-old.result.now c.index-old.ensures
    c.requires.exact

pub loop-at-preserved : goal.loop-at-preserved
loop-at-preserved g c =
    let below : c.loop-at.at < length c.loop-at.failures.items = omega (
      arith,
      c.loop-at-test.true,
      c.len-at-end.ensures,
      c.loop-at.invariant.refits.length,
    ) in
    let exact = refitting-exact _ _ _ _ _ _ _ c.loop-at.invariant.refits below c.index-old.result.now c.index-old.ensures c.requires.exact
    in
    record {
      refits = elim c.match-branch-2.branch [
        | in-Some+in_ok-push-in-Some w ↦
            refitting-same _ _ _ _ _ _ _ _ _ _ w.failed-is (ap (λ v. v.items) w.changes-is ∙ w.in_ok-push-in-Some.ensures.items)
            (ap (λ v. v.items) w.failures-is)
            (refitting-change _ _ _ _ _ _ _ c.loop-at.invariant.refits below c.index-old.result.now c.index-old.ensures
            _ refl _ w.in-Some.new c.in_ok-new.field-0 w.in-Some.is c.in_ok-new.ensures.step c.in_ok-new.ensures.exact exact)
        | in-None w ↦
            refitting-same _ _ _ _ _ _ _ _ _ _ w.failed-is (ap (λ v. v.items) w.changes-is) (ap (λ v. v.items) w.failures-is)
            (refitting-failure _ _ _ _ _ _ _ c.loop-at.invariant.refits below c.index-old.result.now c.index-old.ensures
            _ refl _ c.in_ok-new.field-0 w.in-None.is c.in_ok-new.ensures.step exact)
      ];
      used = omega (arith, c.loop-at.invariant.used, c.in_ok-new.ensures.slots.used);
      limit = c.in_ok-new.ensures.limit ∙ c.loop-at.invariant.limit;
    }

pub returns-clause-refits : goal.returns-clause-refits
returns-clause-refits g c =
    refitting-end _ _ _ _ _ _ _ c.loop-at.invariant.refits
    (omega (arith, c.loop-at-test.false, c.len-at-end.ensures)) c.truncate.new.self.items c.truncate.ensures.items

pub returns-in_err-new-clause-short : goal.returns-in_err-new-clause-short
returns-in_err-new-clause-short g c = λ is.
    let was = c.loop-at.invariant in
    let same : c.from_residual.result ≡ Err c.in_err-new.field-0.0 = search rules in
    let short = c.in_err-new.ensures.short (ap Err (error_is c.in_err-new.field-0.0 c.from_residual.result same is)) in
    omega (arith, short, was.used, was.limit, c.loop-at-test.true, c.len-at-end.ensures, was.refits.length)
