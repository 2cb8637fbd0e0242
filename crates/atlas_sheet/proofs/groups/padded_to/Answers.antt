use Rattle.atlas_sheet.proofs.Failures.{its_error, no_value}
use Rattle.atlas_sheet.proofs.groups.padded_to.Goals as goal

pub returns-in_err-all : goal.returns-in_err-all
returns-in_err-all g c =
    let r = c.from_residual in
    record { padded = no_value r.result _ _ r.ensures.1; unless = its_error r.result _ r.ensures.1 }

pub returns-in_err-resize : goal.returns-in_err-resize
returns-in_err-resize g c =
    let r = c.from_residual-in_err-resize in
    record { padded = no_value r.result _ _ r.ensures.1; unless = its_error r.result _ r.ensures.1 }
