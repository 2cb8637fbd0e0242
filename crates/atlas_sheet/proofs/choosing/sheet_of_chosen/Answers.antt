use Rattle.std.proofs.Common.{◌≡◌, ◌∙◌, ap, length, subst, sym}
use Rattle.guillotiere.specs.Pixels.{sides_of}
use Rattle.atlas_sheet.specs.Grouping.{picked, spread}
use Rattle.atlas_sheet.specs.Lying.{IsArranged}
use Rattle.atlas_sheet.specs.Settings.{CanPack}
use Rattle.atlas_sheet.proofs.GroupFinds.{chosen_closed, chosen_long, chosen_page, chosen_row_is, found_long}
use Rattle.atlas_sheet.proofs.GroupRows.{can_pack_picked}
use Rattle.atlas_sheet.proofs.choosing.sheet_of_chosen.Goals as goal

pub picked-requires : goal.picked-requires
picked-requires g c = ap length c.deref.ensures.value ∙ c.requires.chosen.long

pub shown_smallest-requires-clause-good : goal.shown_smallest-requires-clause-good
shown_smallest-requires-clause-good g c =
    let row = c.args.chosen.row.items in
    let some_is : c.deref-2.result.now ≡ picked row c.args.sprites.now =
    c.deref-2.ensures.value ∙ c.in_ok-some.ensures.picked ∙ ap (λ r. picked r c.args.sprites.now) c.deref.ensures.value in
    subst (CanPack c.args.options.now) (sym some_is) (can_pack_picked c.args.options.now row c.args.sprites.now c.requires.good)

pub shown_smallest-requires-clause-arranged : goal.shown_smallest-requires-clause-arranged
shown_smallest-requires-clause-arranged g c =
    let some_is : c.deref-2.result.now ≡ picked c.args.chosen.row.items c.args.sprites.now =
    c.deref-2.ensures.value ∙ c.in_ok-some.ensures.picked ∙ ap (λ r. picked r c.args.sprites.now) c.deref.ensures.value in
    subst (λ ss. IsArranged c.args.options.now ss c.args.chosen.page) (sym some_is) c.requires.chosen.arranged

pub spread-requires : goal.spread-requires
spread-requires g c =
    let f = c.in_ok-filled.filled in
    let row = c.args.chosen.row.items in
    let some_is : c.deref-2.result.now ≡ picked row c.args.sprites.now =
    c.deref-2.ensures.value ∙ c.in_ok-some.ensures.picked ∙ ap (λ r. picked r c.args.sprites.now) c.deref.ensures.value in
    ap length c.deref-4.ensures.value
    ∙ found_long c.args.options.now c.args.sprites.now c.deref-2.result.now c.args.groups.now row (sides_of f.size) f.order.items
    f.places.items
    (spread row f.places.items) some_is c.requires.chosen.long c.requires.chosen.closed (λ i. spread row f.places.items)
    c.in_ok-filled.ensures.shown
    c.in_ok-filled.ensures.whole
    ∙ ap (λ r. length (picked r r)) (sym c.deref-3.ensures.value)

pub returns-clause-page : goal.returns-clause-page
returns-clause-page g c =
    let f = c.in_ok-filled.filled in
    let row = c.args.chosen.row.items in
    let places = c.in_ok-places.places.items in
    let some_is : c.deref-2.result.now ≡ picked row c.args.sprites.now =
    c.deref-2.ensures.value ∙ c.in_ok-some.ensures.picked ∙ ap (λ r. picked r c.args.sprites.now) c.deref.ensures.value in
    let placed : places ≡ spread row f.places.items =
    c.in_ok-places.ensures.spread ∙ ap (λ r. spread r c.deref-4.result.now) c.deref-3.ensures.value ∙
    ap (spread row) c.deref-4.ensures.value in
    chosen_page c.args.options.now c.args.sprites.now c.deref-2.result.now c.args.groups.now row (sides_of f.size) f.order.items
    f.places.items places
    some_is c.requires.chosen.long c.requires.chosen.closed placed c.in_ok-filled.ensures.shown c.in_ok-filled.ensures.whole
    c.in_ok-filled.ensures.allowed c.in_ok-filled.ensures.larger

pub returns-clause-count : goal.returns-clause-count
returns-clause-count g c =
    let f = c.in_ok-filled.filled in
    let row = c.args.chosen.row.items in
    let places = c.in_ok-places.places.items in
    let some_is : c.deref-2.result.now ≡ picked row c.args.sprites.now =
    c.deref-2.ensures.value ∙ c.in_ok-some.ensures.picked ∙ ap (λ r. picked r c.args.sprites.now) c.deref.ensures.value in
    let placed : places ≡ spread row f.places.items =
    c.in_ok-places.ensures.spread ∙ ap (λ r. spread r c.deref-4.result.now) c.deref-3.ensures.value ∙
    ap (spread row) c.deref-4.ensures.value in
    chosen_long c.args.options.now c.args.sprites.now c.deref-2.result.now c.args.groups.now row (sides_of f.size) f.order.items
    f.places.items places
    some_is c.requires.chosen.long c.requires.chosen.closed placed c.in_ok-filled.ensures.shown c.in_ok-filled.ensures.whole

pub returns-clause-closed : goal.returns-clause-closed
returns-clause-closed g c =
    let f = c.in_ok-filled.filled in
    let row = c.args.chosen.row.items in
    let places = c.in_ok-places.places.items in
    let some_is : c.deref-2.result.now ≡ picked row c.args.sprites.now =
    c.deref-2.ensures.value ∙ c.in_ok-some.ensures.picked ∙ ap (λ r. picked r c.args.sprites.now) c.deref.ensures.value in
    let placed : places ≡ spread row f.places.items =
    c.in_ok-places.ensures.spread ∙ ap (λ r. spread r c.deref-4.result.now) c.deref-3.ensures.value ∙
    ap (spread row) c.deref-4.ensures.value in
    chosen_closed c.args.options.now c.args.sprites.now c.deref-2.result.now c.args.groups.now row (sides_of f.size) f.order.items
    f.places.items places
    some_is c.requires.chosen.long c.requires.chosen.closed placed c.in_ok-filled.ensures.shown c.in_ok-filled.ensures.whole

pub returns-clause-row : goal.returns-clause-row
returns-clause-row g c =
    let f = c.in_ok-filled.filled in
    let row = c.args.chosen.row.items in
    let places = c.in_ok-places.places.items in
    let some_is : c.deref-2.result.now ≡ picked row c.args.sprites.now =
    c.deref-2.ensures.value ∙ c.in_ok-some.ensures.picked ∙ ap (λ r. picked r c.args.sprites.now) c.deref.ensures.value in
    let placed : places ≡ spread row f.places.items =
    c.in_ok-places.ensures.spread ∙ ap (λ r. spread r c.deref-4.result.now) c.deref-3.ensures.value ∙
    ap (spread row) c.deref-4.ensures.value in
    chosen_row_is c.args.options.now c.args.sprites.now c.deref-2.result.now c.args.groups.now row (sides_of f.size) f.order.items
    f.places.items places
    some_is c.requires.chosen.long c.requires.chosen.closed placed c.in_ok-filled.ensures.shown c.in_ok-filled.ensures.whole
