use Rattle.std.proofs.Common.{subst, sym}
use Rattle.atlas_sheet.specs.Grouping.{AreKept}
use Rattle.atlas_sheet.proofs.GroupSheets.{all_kept}
use Rattle.atlas_sheet.proofs.GroupTakes.{has_at}
use Rattle.atlas_sheet.proofs.groups.kept_groups.Goals as goal
use Rattle.atlas_sheet.proofs.groups.kept_groups.Goals.{in-Some+then-is_new+in_ok-kept-2, in-Some+else-is_new, in_default}

pub loop-number-init : goal.loop-number-init
loop-number-init g c = all_kept c.args.options.now c.args.sprites.now c.args.groups.now c.in_ok-kept.kept.items c.in_ok-kept.ensures.items

pub kept_unless_lost-requires-clause-there : goal.kept_unless_lost-requires-clause-there
kept_unless_lost-requires-clause-there g c = has_at c.args.groups.now c.loop-number.number c.in-Some.group c.loop-number-test.true
    c.in-Some.is

pub loop-number-preserved : goal.loop-number-preserved
loop-number-preserved g c =
    let o = c.args.options.now in
    let sprites = c.args.sprites.now in
    let groups = c.args.groups.now in
    elim c.match-place.branch [
      | in-Some+then-is_new+in_ok-kept-2 w ↦ subst (λ v. AreKept o sprites groups v.items) (sym w.kept-is) w.in_ok-kept-2.ensures.kept
      | in-Some+else-is_new w ↦ subst (λ v. AreKept o sprites groups v.items) (sym w.kept-is) c.loop-number.invariant
      | in_default w ↦ subst (λ v. AreKept o sprites groups v.items) (sym w.kept-is) c.loop-number.invariant
    ]
