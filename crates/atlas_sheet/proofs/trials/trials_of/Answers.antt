use Rattle.std.proofs.Common.{refl}
use Rattle.atlas_sheet.specs.Packings.{IsOrderBy}
use Rattle.atlas_sheet.proofs.Packings.{all_added, ways_added}
use Rattle.atlas_sheet.proofs.Failures.{its_error, no_value, same_error}
use Rattle.atlas_sheet.proofs.trials.trials_of.Goals as goal

pub loop-way-preserved : goal.loop-way-preserved
loop-way-preserved g c =
    let before = c.loop-way.invariant in
    let added = c.in_ok-push.ensures.items in
    record {
      ways = ways_added (λ t. t.way) c.loop-way.trials.items c.push.new.self.items _ added c.args.ways.now c.loop-way.way-index _
          c.loop-way-test.true refl before.ways;
      orders = all_added (λ t. t.way) c.loop-way.trials.items c.push.new.self.items _ added
          (λ t. IsOrderBy t.way c.args.sprites.now t.order.items) before.orders
          (record { permuted = c.in_ok-order.ensures.permuted; greatest = c.in_ok-order.ensures.greatest });
    }

pub returns-in_err-order : goal.returns-in_err-order
returns-in_err-order g c =
    let r = c.from_residual in
    record {
      ways = no_value r.result _ _ r.ensures.1;
      orders = no_value r.result _ _ r.ensures.1;
      unless = same_error r.result _ _ r.ensures.1 c.in_err-order.ensures.unless;
    }

pub returns-in_err-push : goal.returns-in_err-push
returns-in_err-push g c =
    let r = c.from_residual-in_err-push in
    record {
      ways = no_value r.result _ _ r.ensures.1;
      orders = no_value r.result _ _ r.ensures.1;
      unless = its_error r.result _ r.ensures.1;
    }
