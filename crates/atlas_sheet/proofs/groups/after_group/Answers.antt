use Rattle.std.proofs.Common.{◌∙◌, ◌<◌, ap, subst, sym}
use Rattle.atlas_sheet.specs.Grouping.{to_do, without_group}
use Rattle.atlas_sheet.proofs.GroupsSoFar.{less_without, so_without}
use Rattle.atlas_sheet.proofs.groups.after_group.Goals as goal

pub begun-requires-clause-kept : goal.begun-requires-clause-kept
begun-requires-clause-kept g c =
    so_without c.requires.so_far c.args.group c.requires.there c.requires.none c.in_ok-kept.kept.items
    (c.in_ok-kept.ensures.without ∙ ap (without_group c.args.group) c.deref.ensures.value)

pub returns-clause-less : goal.returns-clause-less
returns-clause-less g c =
    let again = c.in_ok-again.again in
    let before = c.args.so_far in
    subst (λ ks. to_do c.args.sprites.now again.left.items ks < to_do c.args.sprites.now before.left.items before.kept.items)
    (sym (ap (λ k. k.items) c.in_ok-again.ensures.kept))
    (less_without c.requires.so_far c.args.group c.requires.there c.requires.none c.in_ok-kept.kept.items
    (c.in_ok-kept.ensures.without ∙ ap (without_group c.args.group) c.deref.ensures.value) again.left.items c.in_ok-again.ensures.left)
