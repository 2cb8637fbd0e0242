use Rattle.atlas_sheet.proofs.Failures.{no_value, same_error}
use Rattle.atlas_sheet.proofs.dense.denser.Goals as goal

pub returns-in_err-order : goal.returns-in_err-order
returns-in_err-order g c =
    let r = c.from_residual in
    record {
      whole = no_value r.result _ _ r.ensures.1;
      none = no_value r.result _ _ r.ensures.1;
      least = no_value r.result _ _ r.ensures.1;
      full = no_value r.result _ _ r.ensures.1;
      unless = same_error r.result _ _ r.ensures.1 c.in_err-order.ensures.unless;
    }
