use Rattle.atlas_sheet.proofs.TooMany.{whole_or_many}
use Rattle.atlas_sheet.proofs.choosing.plainly_filled.Goals as goal

pub returns-clause-whole : goal.returns-clause-whole
returns-clause-whole g c =
    whole_or_many c.args.options.now c.args.sprites.now c.in_ok-page.page c.requires c.in_ok-page.ensures.arranged c.in_ok-page.ensures.size
    c.in_ok-page.ensures.best
