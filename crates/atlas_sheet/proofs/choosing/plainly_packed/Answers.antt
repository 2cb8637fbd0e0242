use Rattle.atlas_sheet.proofs.GroupFinds.{none_plainly}
use Rattle.atlas_sheet.proofs.choosing.plainly_packed.Goals as goal

pub returns-clause-none : goal.returns-clause-none
returns-clause-none g c = none_plainly c.in_ok-found.found c.args.options.now c.args.sprites.now c.in_ok-found.ensures.none
