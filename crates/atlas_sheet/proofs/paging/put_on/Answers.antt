use Rattle.std.proofs.Common.{arith}
use Rattle.std.proofs.lemmas.Grind.{common_steps}
use Rattle.atlas_sheet.proofs.Failures.{its_error, no_value}
use Rattle.atlas_sheet.proofs.PageSteps.{put_end}
use Rattle.atlas_sheet.proofs.paging.put_on.Goals as goal

pub returns-in_err-push-in-None : goal.returns-in_err-push-in-None
returns-in_err-push-in-None g c =
    let r = c.from_residual-in_err-push-in-None in
    record { places = no_value r.result _ _ r.ensures.1; unless = its_error r.result _ r.ensures.1 }

pub returns-in_err-push-in-Some : goal.returns-in_err-push-in-Some
returns-in_err-push-in-Some g c =
    let r = c.from_residual in
    record { places = no_value r.result _ _ r.ensures.1; unless = its_error r.result _ r.ensures.1 }

pub bounds-found-next : goal.bounds-found-next
bounds-found-next g c = grind (arith, common_steps)

pub loop-place-preserved : goal.loop-place-preserved
loop-place-preserved g c = grind (arith, common_steps)

pub returns-clause-places : goal.returns-clause-places
returns-clause-places g c = put_end _ _ _ _ _ _ c.loop-place-test.false c.loop-place.invariant
