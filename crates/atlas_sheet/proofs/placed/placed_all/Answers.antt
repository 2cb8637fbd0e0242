use Rattle.std.proofs.Common.{◌≡◌, ◌<◌, ◌∙◌, length, get_or, ap, refl, arith}
use Rattle.std.proofs.lemmas.List.{get_or_default}
use Rattle.atlas_sheet.specs.Lying.{placed_area}
use Rattle.atlas_sheet.proofs.Arrangements.{as_long, shown_all, shown_more}
use Rattle.atlas_sheet.proofs.FoundPlaces.{no_sprite}
use Rattle.atlas_sheet.proofs.placed.placed_all.Goals as goal

pub bounds-sprites-number : goal.bounds-sprites-number
bounds-sprites-number g c =
    let a = c.args.arrangement.now in
    let long = as_long c.requires in
    let items : length c.deref-place-items.result.now ≡ length a.places.items = ap length c.deref-place-items.ensures.value in
    omega (arith, long.0, long.1, items, c.loop-number-test.true)

pub index-requires : goal.index-requires
index-requires g c =
    let a = c.args.arrangement.now in
    let long = as_long c.requires in
    let items : length c.deref-place-items.result.now ≡ length a.places.items = ap length c.deref-place-items.ensures.value in
    omega (arith, long.0, long.1, items, c.loop-number-test.true, a.lying.ok.0)

pub loop-number-preserved : goal.loop-number-preserved
loop-number-preserved g c =
    let a = c.args.arrangement.now in
    let k = c.loop-number.number in
    let p = c.placed_in.result in
    let s = get_or c.args.sprites.now k no_sprite.1 in
    let long = as_long c.requires in
    let items : length c.deref-place-items.result.now ≡ length a.places.items = ap length c.deref-place-items.ensures.value in
    let inside : k < length c.args.sprites.now = omega (arith, long.0, long.1, items, c.loop-number-test.true) in
    shown_more c.requires k c.loop-number.placed.items c.push.new.self.items s c.index.result.now (placed_area p) p
    inside (get_or_default c.args.sprites.now k no_sprite.1 s inside) c.index.ensures
    (c.placed_in.ensures.area ∙ get_or_default c.deref-place-items.result.now k _ (placed_area p) c.loop-number-test.true
    ∙ ap (λ xs. get_or xs k (placed_area p)) c.deref-place-items.ensures.value)
    c.in_ok-push.ensures.items refl c.placed_in.ensures.turned c.loop-number.invariant

pub returns-clause-each : goal.returns-clause-each
returns-clause-each g c =
    let a = c.args.arrangement.now in
    let items : length c.deref-place-items.result.now ≡ length a.places.items = ap length c.deref-place-items.ensures.value in
    let all = shown_all c.requires c.loop-number.number c.loop-number.placed.items (omega (arith, items, c.loop-number-test.false))
    c.loop-number.invariant in
    all.1
