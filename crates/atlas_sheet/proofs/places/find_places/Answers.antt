use Rattle.std.proofs.Common.{◌≡◌, length, ap, arith, rules}
use Rattle.atlas_sheet.specs.Sheets.{IsPackable}
use Rattle.atlas_sheet.proofs.NumberedSprites.{order_all, order_below, order_once}
use Rattle.atlas_sheet.proofs.Failures.{its_error, no_value, same_error}
use Rattle.atlas_sheet.proofs.places.find_places.Goals as goal

pub find_in-requires-clause-packable : goal.find_in-requires-clause-packable
find_in-requires-clause-packable g c =
    order_all c.args.sprites.now c.args.order.now c.requires.permuted (IsPackable c.args.spacing) c.requires.good.packable

pub find_in-requires-clause-numbers : goal.find_in-requires-clause-numbers
find_in-requires-clause-numbers g c =
    let long : length c.in_ok-places.places.items ≡ length c.args.sprites.now = search rules in
    let slice : length c.deref_mut.result.now ≡ length c.in_ok-places.places.items = ap length c.deref_mut.ensures.value in
    order_below c.args.sprites.now c.args.order.now c.requires.permuted (length c.deref_mut.result.now) (omega arith)

pub find_in-requires-clause-once : goal.find_in-requires-clause-once
find_in-requires-clause-once g c = order_once c.args.sprites.now c.args.order.now c.requires.permuted

pub returns-in_err-find_in : goal.returns-in_err-find_in
returns-in_err-find_in g c =
    let r = c.from_residual-in_err-find_in in
    record {
      count = no_value r.result _ _ r.ensures.1;
      found = no_value r.result _ _ r.ensures.1;
      unless = same_error r.result _ _ r.ensures.1 c.in_err-find_in.ensures.unless;
    }

pub returns-in_err-packer : goal.returns-in_err-packer
returns-in_err-packer g c =
    let r = c.from_residual-in_err-packer in
    record {
      count = no_value r.result _ _ r.ensures.1;
      found = no_value r.result _ _ r.ensures.1;
      unless = same_error r.result _ _ r.ensures.1 c.in_err-packer.ensures.unless;
    }

pub returns-in_err-places : goal.returns-in_err-places
returns-in_err-places g c =
    let r = c.from_residual in
    record {
      count = no_value r.result _ _ r.ensures.1;
      found = no_value r.result _ _ r.ensures.1;
      unless = its_error r.result _ r.ensures.1;
    }
