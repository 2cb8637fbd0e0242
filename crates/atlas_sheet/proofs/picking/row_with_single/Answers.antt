use Rattle.std.proofs.Common.{◌∙◌, [], ◌∷◌, ◌<◌, length, get_or, false, None, arith, ap, take_all}
use Rattle.std.proofs.lemmas.List.{get_or_default, length-append}
use Rattle.atlas_sheet.proofs.GroupRows.{as_before, closed_before, rows_more, says_before}
use Rattle.atlas_sheet.proofs.GroupTakes.{single_end, single_more}
use Rattle.atlas_sheet.proofs.picking.row_with_single.Goals as goal

pub loop-number-preserved : goal.loop-number-preserved
loop-number-preserved g c =
    let k = c.loop-number.number in
    let row = c.args.row.now in
    let groups = c.args.groups.now in
    let n = get_or groups k None in
    let b = get_or row k false in
    let inside : k < length groups = omega (arith, c.loop-number-test.true, c.requires) in
    let longer = ap length c.in_ok-push.ensures.items ∙ length-append c.loop-number.all.items (c.or_single-is_chosen.result ∷ []) in
    record {
      rows = rows_more groups row as_before k c.loop-number.all.items c.push.new.self.items n b c.or_single-is_chosen.result inside
          (get_or_default groups k None n inside) (get_or_default row k false b c.loop-number-test.true)
          (says_before n b c.or_single-is_chosen.result c.or_single-is_chosen.ensures.group) c.in_ok-push.ensures.items
          c.loop-number.invariant.rows;
      long = omega (arith, longer, c.loop-number.invariant.long);
      chosen = λ there row_is.
          single_more there c.args.many groups row k c.loop-number.room c.room_left-room.result c.loop-number.all.items
          c.push.new.self.items
          c.or_single-is_chosen.result inside row_is c.or_single-is_chosen.ensures.group c.or_single-is_chosen.ensures.none
          c.room_left-room.ensures.same c.room_left-room.ensures.less c.in_ok-push.ensures.items
          (c.loop-number.invariant.chosen there row_is);
    }

pub returns-clause-closed : goal.returns-clause-closed
returns-clause-closed g c closed =
    let k = c.loop-number.number in
    let groups = c.args.groups.now in
    closed_before groups c.args.row.now c.loop-number.all.items k c.loop-number.invariant.rows
    (take_all k groups (omega (arith, c.loop-number-test.false, c.requires))) closed

pub returns-clause-row : goal.returns-clause-row
returns-clause-row g c there row_is =
    single_end there c.args.many c.args.groups.now c.loop-number.number c.loop-number.room c.loop-number.all.items
    (omega (arith, c.loop-number-test.false, c.requires)) (c.loop-number.invariant.chosen there row_is)
