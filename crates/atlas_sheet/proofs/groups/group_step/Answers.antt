use Rattle.std.proofs.Common.{◌∙◌, ap, inr, is_some, length, map, subst, sym}
use Rattle.std.specs.List.{AllZip}
use Rattle.guillotiere.specs.Pixels.{sides_of}
use Rattle.atlas_sheet.specs.Dense.{NoWayFinds}
use Rattle.atlas_sheet.specs.Grouping.{HasMember, IsGroupSheet, SaysOf, members, waiting}
use Rattle.atlas_sheet.specs.Settings.{CanPack}
use Rattle.atlas_sheet.proofs.GroupsSoFar.{numbers_long, so_can_pack}
use Rattle.atlas_sheet.proofs.groups.group_step.Goals as goal

pub group_sheet-requires-clause-good : goal.group_sheet-requires-clause-good
group_sheet-requires-clause-good g c =
    subst (CanPack c.args.options.now) (sym c.deref.ensures.value)
    (so_can_pack c.requires.so_far c.requires.good)

pub group_sheet-requires-clause-long : goal.group_sheet-requires-clause-long
group_sheet-requires-clause-long g c =
    ap length c.requires.numbers ∙ numbers_long c.requires.so_far ∙ ap length (sym c.deref.ensures.value)

pub after_sheet-requires-clause-page : goal.after_sheet-requires-clause-page
after_sheet-requires-clause-page g c = rw c.deref.ensures.value at (rw c.in-Some.is at c.in_ok-found.ensures.page)

pub after_sheet-requires-clause-next : goal.after_sheet-requires-clause-next
after_sheet-requires-clause-next g c =
    let s = c.in-Some.sheet in
    let o = c.args.options.now in
    inr (subst (λ ns. IsGroupSheet o c.args.so_far.left.items ns (sides_of s.size) s.places.items) c.requires.numbers
    (subst (λ ls. IsGroupSheet o ls c.args.numbers.now (sides_of s.size) s.places.items) c.deref.ensures.value
    (rw c.in-Some.is at c.in_ok-found.ensures.sheet)))

pub after_sheet-requires-clause-count : goal.after_sheet-requires-clause-count
after_sheet-requires-clause-count g c = (rw c.in-Some.is at c.in_ok-found.ensures.count) ∙ ap length c.deref.ensures.value

pub after_sheet-requires-clause-says : goal.after_sheet-requires-clause-says
after_sheet-requires-clause-says g c =
    let closed = rw c.in-Some.is at c.in_ok-found.ensures.closed in (
      closed.whether,
      subst (λ ns. AllZip (SaysOf closed.whether) ns (map is_some c.in-Some.sheet.places.items)) c.requires.numbers
          closed.same,
    )

pub after_group-requires-clause-there : goal.after_group-requires-clause-there
after_group-requires-clause-there g c = subst (HasMember c.args.group) c.requires.numbers c.requires.there

pub after_group-requires-clause-none : goal.after_group-requires-clause-none
after_group-requires-clause-none g c =
    subst (NoWayFinds c.args.options.now)
    (ap (λ ns. members c.args.group ns c.deref.result.now) c.requires.numbers
    ∙ ap (λ ls. members c.args.group (waiting c.args.so_far.kept.items c.args.so_far.places.items) ls) c.deref.ensures.value)
    (rw c.in-None.is at c.in_ok-found.ensures.none)
