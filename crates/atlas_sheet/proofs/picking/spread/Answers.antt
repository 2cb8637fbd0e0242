use Rattle.std.proofs.Common.{arith}
use Rattle.std.proofs.lemmas.Grind.{common_steps}
use Rattle.atlas_sheet.proofs.Failures.{its_error, no_value}
use Rattle.atlas_sheet.proofs.GroupRows.{spread_end}
use Rattle.atlas_sheet.proofs.picking.spread.Goals as goal

pub returns-in_err-push-2 : goal.returns-in_err-push-2
returns-in_err-push-2 g c =
    let r = c.from_residual-in_err-push-2 in
    record { spread = no_value r.result _ _ r.ensures.1; unless = its_error r.result _ r.ensures.1 }

pub returns-in_err-push : goal.returns-in_err-push
returns-in_err-push g c =
    let r = c.from_residual in
    record { spread = no_value r.result _ _ r.ensures.1; unless = its_error r.result _ r.ensures.1 }

pub bounds-found-next : goal.bounds-found-next
bounds-found-next g c = grind (arith, common_steps)

pub loop-chosen-preserved : goal.loop-chosen-preserved
loop-chosen-preserved g c = grind (arith, common_steps)

pub returns-clause-spread : goal.returns-clause-spread
returns-clause-spread g c = spread_end _ _ _ _ _ c.loop-chosen-test.false c.loop-chosen.invariant
