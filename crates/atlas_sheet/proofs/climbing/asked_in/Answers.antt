use Rattle.std.proofs.Common.{◌≡◌}
use Rattle.guillotiere.specs.Pixels.{sides_of}
use Rattle.atlas_sheet.specs.Settings.{spacing_of}
use Rattle.atlas_sheet.proofs.Arrangements.{arranged_as_given}
use Rattle.atlas_sheet.proofs.climbing.asked_in.Goals as goal

pub returns-clause-arranged : goal.returns-clause-arranged
returns-clause-arranged g c =
    let lying : c.in_ok-lying.lying.items ≡ c.args.sprites.now = c.in_ok-lying.ensures.items in
    let order : c.in_ok-order.order.items ≡ c.args.order.now = c.in_ok-order.ensures.items in
    rw (lying, order)
    (arranged_as_given (sides_of c.args.size) (spacing_of c.args.options.now) c.args.options.now.turn c.args.sprites.now c.args.choice
    c.args.order.now c.in_ok-places.places.items c.requires.positive c.requires.good.aligned c.requires.good.packable c.requires.permuted
    c.in_ok-places.ensures.count (rw c.spacing.ensures at c.in_ok-places.ensures.found))
