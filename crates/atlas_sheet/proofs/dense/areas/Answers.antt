use Rattle.std.proofs.Common.{arith}
use Rattle.std.proofs.lemmas.Grind.{common_steps}
use Rattle.atlas_sheet.proofs.Failures.{its_error, no_value}
use Rattle.atlas_sheet.proofs.dense.areas.Goals as goal

pub returns-in_err-push : goal.returns-in_err-push
returns-in_err-push g c =
    let r = c.from_residual in
    record { areas = no_value r.result _ _ r.ensures.1; unless = its_error r.result _ r.ensures.1 }

pub loop-place-preserved : goal.loop-place-preserved
loop-place-preserved g c = grind (arith, common_steps)

pub returns-clause-areas : goal.returns-clause-areas
returns-clause-areas g c = grind (arith, common_steps)
