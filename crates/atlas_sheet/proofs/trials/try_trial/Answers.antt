use Rattle.std.proofs.Common.{◌≡◌}
use Rattle.guillotiere.specs.Pixels.{sides_of}
use Rattle.atlas_sheet.proofs.Packings.{a_way_packs}
use Rattle.atlas_sheet.proofs.trials.try_trial.Goals as goal

pub returns-clause-packed : goal.returns-clause-packed
returns-clause-packed g c = λ ways tried.
    let e : c.in_ok-order.order.items ≡ c.args.trial.now.order.items = cc (c.in_ok-order.ensures.items) in
    let long = rw c.in-Some.is at c.in_ok-found.ensures.count in
    let found = rw c.deref.ensures.value at (rw c.in-Some.is at c.in_ok-found.ensures.found) in
    rw e
    (a_way_packs ways (sides_of c.args.size) c.args.spacing c.args.sprites.now
    (record { way = c.args.trial.now.way; order = c.args.trial.now.order.items; places = c.in-Some.places.items })
    tried c.requires.positive c.requires.good.aligned c.requires.good.packable c.requires.order long found)
