use Rattle.std.proofs.Common.{◌∙◌, ap}
use Rattle.atlas_sheet.proofs.GroupsSoFar.{less_more, so_holes, so_more}
use Rattle.atlas_sheet.proofs.groups.after_sheet.Goals as goal

pub with_sheet-requires-clause-count : goal.with_sheet-requires-clause-count
with_sheet-requires-clause-count g c =
    c.requires.count ∙ so_holes c.requires.so_far

pub with_sheet-requires-clause-long : goal.with_sheet-requires-clause-long
with_sheet-requires-clause-long g c = c.requires.so_far.are.long

pub returns-clause-so_far : goal.returns-clause-so_far
returns-clause-so_far g c =
    let m = c.in_ok-more.more in
    so_more c.requires.so_far c.args.sheet.size c.args.sheet.places.items c.requires.count c.requires.page c.requires.next c.requires.says.0
    c.requires.says.1
    m.sizes.items c.in_ok-more.ensures.sizes m.places.items c.in_ok-more.ensures.places m.left.items c.in_ok-more.ensures.left m.kept.items
    (ap (λ k. k.items) c.in_ok-more.ensures.kept)

pub returns-clause-less : goal.returns-clause-less
returns-clause-less g c =
    let m = c.in_ok-more.more in
    less_more c.requires.so_far c.args.sheet.size c.args.sheet.places.items c.requires.count c.requires.page c.requires.next
    c.requires.says.0 c.requires.says.1
    m.sizes.items c.in_ok-more.ensures.sizes m.places.items c.in_ok-more.ensures.places m.left.items c.in_ok-more.ensures.left m.kept.items
    (ap (λ k. k.items) c.in_ok-more.ensures.kept)
