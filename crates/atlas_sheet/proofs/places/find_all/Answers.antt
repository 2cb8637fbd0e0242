use Rattle.std.proofs.Common.{rules, ◌<◌, ◌∙◌, length, map, get_or, Some, subst, refl, arith, add-one}
use Rattle.std.proofs.lemmas.List.{length-set}
use Rattle.std.proofs.lemmas.List.Elements.{All-get_or}
use Rattle.guillotiere.specs.SimpleStored.{simple_state_of}
use Rattle.atlas_sheet.specs.Sheets.{FindPlaces, IsPackable, with_places}
use Rattle.atlas_sheet.proofs.AskedPlace.{keeps_positive}
use Rattle.atlas_sheet.proofs.FoundPlaces.{no_sprite, all_found}
use Rattle.atlas_sheet.proofs.NumberedSprites.{order_all, order_below, order_once}
use Rattle.atlas_sheet.proofs.Packings.{one_left, one_more}
use Rattle.atlas_sheet.proofs.places.find_all.Goals as goal

pub place-requires-clause-packable : goal.place-requires-clause-packable
place-requires-clause-packable g c =
    All-get_or (λ s. IsPackable c.args.spacing s.1) c.args.order.now c.loop-sprite.sprite-index no_sprite c.loop-sprite-test.true
    (order_all c.args.sprites.now c.args.order.now c.requires.permuted (IsPackable c.args.spacing) c.requires.good.packable)

pub index_mut-requires : goal.index_mut-requires
index_mut-requires g c =
    let room = All-get_or (λ s. s.0 < length c.args.sprites.now) c.args.order.now c.loop-sprite.sprite-index no_sprite
    c.loop-sprite-test.true
    (order_below c.args.sprites.now c.args.order.now c.requires.permuted (length c.args.sprites.now) (omega arith)) in
    search (rules, room, c.loop-sprite.invariant.long)

pub returns-in-None-clause-left : goal.returns-in-None-clause-left
returns-in-None-clause-left g c =
    let before = c.loop-sprite.invariant in
    let order = c.args.order.now in
    let k = c.loop-sprite.sprite-index in
    let s = get_or order k no_sprite in
    let room = All-get_or (λ s. s.0 < length c.args.sprites.now) order k no_sprite c.loop-sprite-test.true
    (order_below c.args.sprites.now order c.requires.permuted (length c.args.sprites.now) (omega arith)) in
    one_left c.args.spacing (simple_state_of c.in_ok-packer.packer) (simple_state_of c.loop-sprite.packer)
    (simple_state_of c.place.new.packer)
    order k c.loop-sprite.places.items s no_sprite (order_once c.args.sprites.now order c.requires.permuted) c.loop-sprite-test.true refl
    (rw (← before.long) at room) before.going _ c.args.choice c.in_ok-packer.ensures.start
    (rw c.in-None.is at c.in_ok-found.ensures.step)

pub loop-sprite-preserved : goal.loop-sprite-preserved
loop-sprite-preserved g c =
    let before = c.loop-sprite.invariant in
    let spacing = c.args.spacing in
    let sprites = c.args.sprites.now in
    let order = c.args.order.now in
    let k = c.loop-sprite.sprite-index in
    let s = get_or order k no_sprite in
    let places = c.loop-sprite.places.items in
    let found = c.in-Some.found in
    let start = simple_state_of c.in_ok-packer.packer in
    let now = simple_state_of c.loop-sprite.packer in
    let next = simple_state_of c.place.new.packer in
    let step = rw c.in-Some.is at c.in_ok-found.ensures.step in
    let room = All-get_or (λ s. s.0 < length sprites) order k no_sprite c.loop-sprite-test.true
    (order_below sprites order c.requires.permuted (length sprites) (omega arith)) in
    rw add-one
    (record {
      long = length-set places s.0 found ∙ before.long;
      aligned = keeps_positive spacing now next s.1 (Some found) step before.aligned;
      going = one_more spacing start now next order k places s no_sprite (order_once sprites order c.requires.permuted)
          c.loop-sprite-test.true refl
          (rw (← before.long) at room) before.going found step;
    })

pub returns-clause-found : goal.returns-clause-found
returns-clause-found g c =
    subst (λ s. FindPlaces c.args.spacing s (with_places (map Some c.loop-sprite.places.items) c.args.order.now))
    c.in_ok-packer.ensures.start
    (all_found c.args.spacing _ _ c.args.order.now c.loop-sprite.sprite-index (map Some c.loop-sprite.places.items) c.loop-sprite-test.false
    c.loop-sprite.invariant.going)
