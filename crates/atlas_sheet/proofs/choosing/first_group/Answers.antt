use Rattle.std.proofs.Common.{add-one, get_or, rules, subst, sym, take, take_all, All, IsNone, None}
use Rattle.std.proofs.lemmas.List.Elements.{All-push}
use Rattle.std.proofs.Math.Seq.{take-suc}
use Rattle.atlas_sheet.proofs.choosing.first_group.Goals as goal

pub loop-number-preserved : goal.loop-number-preserved
loop-number-preserved c =
    let k = c.loop-number.number-index in
    let groups = c.args.groups.now in
    let here : IsNone (get_or groups k None) = first_of (search (rules, c.in_default.not-Some), search rules, grind c.in_default.not-Some)
    in
    rw add-one
    (subst (All IsNone) (sym (take-suc groups k None c.loop-number-test.true))
    (All-push IsNone (take k groups) (get_or groups k None) c.loop-number.invariant here))

pub returns-clause-none : goal.returns-clause-none
returns-clause-none c =
    subst (All IsNone) (take_all c.loop-number.number-index c.args.groups.now c.loop-number-test.false) c.loop-number.invariant
