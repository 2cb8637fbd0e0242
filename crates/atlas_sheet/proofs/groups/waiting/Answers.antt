use Rattle.std.proofs.Common.{◌≡◌, ◌<◌, length, get_or, is_none, true, false, None, arith, rules}
use Rattle.std.proofs.lemmas.Grind.{common_steps}
use Rattle.std.proofs.lemmas.List.{get_or_default}
use Rattle.atlas_sheet.proofs.GroupRows.{waiting_less, waiting_more}
use Rattle.atlas_sheet.proofs.Failures.{its_error, no_value}
use Rattle.atlas_sheet.proofs.groups.waiting.Goals as goal
use Rattle.atlas_sheet.proofs.groups.waiting.Goals.{then-is_none+in_ok-push, else-is_none}

pub loop-number-preserved : goal.loop-number-preserved
loop-number-preserved g c =
    let k = c.loop-number.number in
    let groups = c.args.groups.now in
    let places = c.args.places.now in
    let n = get_or groups k None in
    let q = get_or places k None in
    let inside : k < length groups = omega (arith, c.loop-number-test.true, c.requires) in
    elim c.if-is_none.branch [
      | then-is_none+in_ok-push w ↦
          let none : is_none q ≡ true = search (rules, w.if-is_none) in
          rw w.all-is
          (waiting_more groups places k c.loop-number.all.items _ q n c.loop-number-test.true c.requires
          (get_or_default places k None q c.loop-number-test.true) (get_or_default groups k None n inside)
          c.loop-number.invariant none w.in_ok-push.ensures.items)
      | else-is_none w ↦
          let some : is_none q ≡ false = search (rules, w.if-is_none) in
          rw w.all-is
          (waiting_less groups places k c.loop-number.all.items c.loop-number.all.items q n c.loop-number-test.true c.requires
          (get_or_default places k None q c.loop-number-test.true) (get_or_default groups k None n inside)
          c.loop-number.invariant some)
    ]

pub returns-in_err-push : goal.returns-in_err-push
returns-in_err-push g c =
    let r = c.from_residual in
    record { waiting = no_value r.result _ _ r.ensures.1; unless = its_error r.result _ r.ensures.1 }

pub returns-clause-waiting : goal.returns-clause-waiting
returns-clause-waiting g c = grind (arith, common_steps)
