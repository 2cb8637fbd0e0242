use Rattle.std.proofs.Common.{◌∙◌, ap, sym}
use Rattle.atlas_sheet.specs.Dense.{NoWayFinds}
use Rattle.atlas_sheet.specs.Grouping.{members, without_group}
use Rattle.atlas_sheet.proofs.GroupSheets.{kept_without}
use Rattle.atlas_sheet.proofs.Maybes.{at_none}
use Rattle.atlas_sheet.proofs.groups.kept_unless_lost.Goals as goal

pub returns-clause-kept : goal.returns-clause-kept
returns-clause-kept g c =
    let o = c.args.options.now in
    let sprites = c.args.sprites.now in
    let groups = c.args.groups.now in
    let none : NoWayFinds o (members c.args.group groups sprites) =
    at_none c.in_ok-found.found (sym c.is_some.ensures ∙ c.if-is_some.false) c.in_ok-found.ensures.none in
    kept_without o sprites groups c.args.kept.items c.in_ok-less.less.items c.args.group c.requires.kept none
    (c.in_ok-less.ensures.without ∙ ap (without_group c.args.group) c.deref.ensures.value)
