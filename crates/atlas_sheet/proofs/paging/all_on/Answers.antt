use Rattle.std.proofs.Common.{arith, ◌∙◌, take_all}
use Rattle.std.proofs.lemmas.Grind.{common_steps}
use Rattle.atlas_sheet.proofs.Failures.{its_error, no_value}
use Rattle.atlas_sheet.proofs.paging.all_on.Goals as goal

pub returns-clause-all : goal.returns-clause-all
returns-clause-all g c = c.loop-place.invariant ∙ take_all c.loop-place.place-index c.args.places.now c.loop-place-test.false

pub loop-place-preserved : goal.loop-place-preserved
loop-place-preserved g c = grind (arith, common_steps)

pub returns-in_err-push : goal.returns-in_err-push
returns-in_err-push g c =
    let r = c.from_residual in
    record { all = no_value r.result _ _ r.ensures.1; unless = its_error r.result _ r.ensures.1 }
