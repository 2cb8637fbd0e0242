use Rattle.std.proofs.Common.{All, subst, take_all, add-one}
use Rattle.atlas_sheet.specs.Sheets.{IsPackable}
use Rattle.atlas_sheet.proofs.BestWays.{all_more}
use Rattle.atlas_sheet.proofs.filling.check.Goals as goal

pub loop-number-preserved : goal.loop-number-preserved
loop-number-preserved c =
    rw add-one
    (all_more (IsPackable c.args.spacing) c.args.sprites.now c.loop-number.number _ c.loop-number-test.true c.loop-number.invariant
    c.in_ok-check_sprite.ensures.ok)

pub returns-clause-ok : goal.returns-clause-ok
returns-clause-ok c =
    subst (All (IsPackable c.args.spacing)) (take_all c.loop-number.number c.args.sprites.now c.loop-number-test.false)
    c.loop-number.invariant
