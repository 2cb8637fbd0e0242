use Rattle.std.proofs.Common.{◌∙◌, All, IsSome, subst, sym}
use Rattle.atlas_sheet.proofs.GroupsSoFar.{so_pages, so_sheets, so_together}
use Rattle.atlas_sheet.proofs.PageFinds.{empty_left, none_left, some_left}
use Rattle.atlas_sheet.proofs.groups.grouped.Goals as goal

pub step-requires-clause-some : goal.step-requires-clause-some
step-requires-clause-some g c =
    let left = c.loop-so_far.so_far.left in
    some_left left.len left.items c.is_empty.result left.ok.0 c.is_empty.ensures c.loop-so_far-test.true

pub all_on-requires : goal.all_on-requires
all_on-requires g c =
    let left = c.loop-so_far.so_far.left in
    let so = c.loop-so_far.invariant in
    subst (All IsSome) (sym c.deref.ensures.value)
    (none_left c.args.sprites.now left.items c.loop-so_far.so_far.places.items so.are.long so.rest
    (empty_left left.len left.items c.is_empty.result left.ok.0 c.is_empty.ensures c.loop-so_far-test.false))

pub returns-clause-pages : goal.returns-clause-pages
returns-clause-pages g c =
    so_pages c.loop-so_far.invariant c.in_ok-all.all.items (c.in_ok-all.ensures.all ∙ c.deref.ensures.value)

pub returns-clause-together : goal.returns-clause-together
returns-clause-together g c =
    so_together c.loop-so_far.invariant c.in_ok-all.all.items (c.in_ok-all.ensures.all ∙ c.deref.ensures.value)

pub returns-clause-sheets : goal.returns-clause-sheets
returns-clause-sheets g c =
    so_sheets c.loop-so_far.invariant c.in_ok-all.all.items (c.in_ok-all.ensures.all ∙ c.deref.ensures.value)
