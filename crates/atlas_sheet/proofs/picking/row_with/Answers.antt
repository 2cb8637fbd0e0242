use Rattle.std.proofs.Common.{◌∙◌, [], ◌∷◌, ◌<◌, length, get_or, take_all, false, None, arith, ap}
use Rattle.atlas_sheet.specs.Grouping.{chosen_row, with_one}
use Rattle.std.proofs.lemmas.List.{get_or_default, length-append}
use Rattle.atlas_sheet.proofs.GroupRows.{closed_with, rows_more, says_with}
use Rattle.atlas_sheet.proofs.GroupTakes.{chosen_long, with_more}
use Rattle.atlas_sheet.proofs.picking.row_with.Goals as goal

pub loop-number-preserved : goal.loop-number-preserved
loop-number-preserved g c =
    let k = c.loop-number.number in
    let row = c.args.row.now in
    let groups = c.args.groups.now in
    let n = get_or groups k None in
    let b = get_or row k false in
    let inside : k < length groups = omega (arith, c.loop-number-test.true, c.requires) in
    let longer = ap length c.in_ok-push.ensures.items ∙ length-append c.loop-number.all.items (c.or_in-is_chosen.result ∷ []) in
    record {
      rows = rows_more groups row (with_one c.args.group) k c.loop-number.all.items c.push.new.self.items n b c.or_in-is_chosen.result
          inside
          (get_or_default groups k None n inside) (get_or_default row k false b c.loop-number-test.true)
          (λ whether says. rw c.or_in-is_chosen.ensures (says_with c.args.group n b whether says)) c.in_ok-push.ensures.items
          c.loop-number.invariant.rows;
      long = omega (arith, longer, c.loop-number.invariant.long);
      chosen = λ there row_is.
          with_more c.args.group there groups row k c.loop-number.all.items c.push.new.self.items c.or_in-is_chosen.result inside row_is
          c.or_in-is_chosen.ensures c.in_ok-push.ensures.items (c.loop-number.invariant.chosen there row_is);
    }

pub returns-clause-closed : goal.returns-clause-closed
returns-clause-closed g c closed =
    let k = c.loop-number.number in
    let groups = c.args.groups.now in
    closed_with groups c.args.row.now c.loop-number.all.items c.args.group k c.loop-number.invariant.rows
    (take_all k groups (omega (arith, c.loop-number-test.false, c.requires))) closed

pub returns-clause-row : goal.returns-clause-row
returns-clause-row g c there row_is =
    let k = c.loop-number.number in
    let groups = c.args.groups.now in
    let full = chosen_row (with_one c.args.group there) 0 groups in
    let long = chosen_long (with_one c.args.group there) 0 groups in
    c.loop-number.invariant.chosen there row_is ∙ take_all k full (omega (arith, c.loop-number-test.false, c.requires, long))
