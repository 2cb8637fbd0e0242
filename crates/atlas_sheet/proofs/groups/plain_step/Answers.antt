use Rattle.std.proofs.Common.{◌≡◌, ◌<◌, ◌∙◌, ap, inl, length, is_some, map, subst, sym, false}
use Rattle.std.proofs.lemmas.List.{length-map}
use Rattle.atlas_sheet.specs.Paging.{OneIsTooLarge}
use Rattle.atlas_sheet.specs.Settings.{CanPack}
use Rattle.atlas_sheet.specs.Grouping.{waiting}
use Rattle.atlas_sheet.proofs.GroupsSoFar.{left_large, numbers_long, so_can_pack}
use Rattle.atlas_sheet.proofs.GroupSteps.{none_says}
use Rattle.atlas_sheet.proofs.groups.plain_step.Goals as goal

pub plain_sheet-requires-clause-good : goal.plain_sheet-requires-clause-good
plain_sheet-requires-clause-good g c =
    subst (CanPack c.args.options.now) (sym c.deref.ensures.value)
    (so_can_pack c.requires.so_far c.requires.good)

pub plain_sheet-requires-clause-some : goal.plain_sheet-requires-clause-some
plain_sheet-requires-clause-some g c = subst (λ ls. 0 < length ls) (sym c.deref.ensures.value) c.requires.some

pub after_sheet-requires-clause-page : goal.after_sheet-requires-clause-page
after_sheet-requires-clause-page g c = inl (rw c.deref.ensures.value at (rw c.in-Some.is at c.in_ok-found.ensures.page))

pub after_sheet-requires-clause-next : goal.after_sheet-requires-clause-next
after_sheet-requires-clause-next g c = inl (
  c.requires.no_group,
  rw c.deref.ensures.value at
      (rw c.in-Some.is at c.in_ok-found.ensures.page),
)

pub after_sheet-requires-clause-count : goal.after_sheet-requires-clause-count
after_sheet-requires-clause-count g c = (rw c.in-Some.is at c.in_ok-found.ensures.count) ∙ ap length c.deref.ensures.value

pub after_sheet-requires-clause-says : goal.after_sheet-requires-clause-says
after_sheet-requires-clause-says g c =
    let places = c.in-Some.sheet.places.items in
    let count : length places ≡ length c.args.so_far.left.items = (rw c.in-Some.is at c.in_ok-found.ensures.count) ∙
    ap length c.deref.ensures.value in (
      (λ n. false),
      none_says (λ n. false) (waiting c.args.so_far.kept.items c.args.so_far.places.items) (map is_some places)
          (length-map places is_some ∙ count ∙ sym (numbers_long c.requires.so_far))
          c.requires.no_group,
    )

pub returns-in-None-clause-none : goal.returns-in-None-clause-none
returns-in-None-clause-none g c =
    left_large c.requires.so_far
    (subst (OneIsTooLarge c.args.options.now) c.deref.ensures.value (rw c.in-None.is at c.in_ok-found.ensures.none))
