use Rattle.std.proofs.Common.{◌≡◌, ◌∙◌, ap, length, subst, sym}
use Rattle.std.proofs.lemmas.List.{length-map}
use Rattle.atlas_sheet.specs.Dense.{NoWayFinds}
use Rattle.atlas_sheet.specs.Grouping.{IsClosed, is_in, picked}
use Rattle.atlas_sheet.specs.Settings.{CanPack}
use Rattle.atlas_sheet.proofs.GroupFinds.{are_chosen}
use Rattle.atlas_sheet.proofs.GroupRows.{can_pack_picked, closed_in}
use Rattle.atlas_sheet.proofs.GroupTakes.{chosen_in}
use Rattle.atlas_sheet.proofs.choosing.opened.Goals as goal

pub picked-requires : goal.picked-requires
picked-requires g c =
    ap length (c.deref.ensures.value ∙ c.in_ok-row.ensures.row) ∙ length-map c.args.groups.now (is_in c.args.group) ∙ c.requires.long

pub plainly_packed-requires : goal.plainly_packed-requires
plainly_packed-requires g c =
    subst (CanPack c.args.options.now) (sym (c.deref-2.ensures.value ∙ c.in_ok-some.ensures.picked))
    (can_pack_picked c.args.options.now c.deref.result.now c.args.sprites.now c.requires.good)

pub returns-in-Some-clause-chosen : goal.returns-in-Some-clause-chosen
returns-in-Some-clause-chosen g c =
    let row = c.in_ok-row.row.items in
    let some_is : c.deref-2.result.now ≡ picked row c.args.sprites.now =
    c.deref-2.ensures.value ∙ c.in_ok-some.ensures.picked ∙ ap (λ r. picked r c.args.sprites.now) c.deref.ensures.value in
    are_chosen c.args.options.now c.args.sprites.now c.deref-2.result.now c.args.groups.now _ some_is
    (ap length c.in_ok-row.ensures.row ∙ length-map c.args.groups.now (is_in c.args.group) ∙ c.requires.long)
    (subst (IsClosed c.args.groups.now) (sym c.in_ok-row.ensures.row) (closed_in c.args.group c.args.groups.now c.requires.there))
    (rw c.in-Some.is at c.in_ok-found.ensures.arranged) (rw c.in-Some.is at c.in_ok-found.ensures.allowed)
    (rw c.in-Some.is at c.in_ok-found.ensures.whole)

pub returns-in-None-clause-none : goal.returns-in-None-clause-none
returns-in-None-clause-none g c =
    subst (NoWayFinds c.args.options.now)
    (c.deref-2.ensures.value ∙ c.in_ok-some.ensures.picked ∙ ap (λ r. picked r c.args.sprites.now)
    (c.deref.ensures.value ∙ c.in_ok-row.ensures.row))
    (rw c.in-None.is at c.in_ok-found.ensures.none)

pub returns-in-Some-clause-row : goal.returns-in-Some-clause-row
returns-in-Some-clause-row g c = c.in_ok-row.ensures.row ∙ chosen_in c.args.group c.args.groups.now
