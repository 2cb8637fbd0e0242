use Rattle.std.proofs.Common.{◌<◌, length, get_or, refl, add-one, arith}
use Rattle.std.proofs.lemmas.List.Elements.{All-get_or}
use Rattle.guillotiere.specs.SimpleStored.{simple_state_of}
use Rattle.atlas_sheet.specs.Sheets.{IsPackable}
use Rattle.atlas_sheet.proofs.AskedPlace.{keeps_positive, refused_now}
use Rattle.atlas_sheet.proofs.FoundPlaces.{no_sprite, more, all_found}
use Rattle.atlas_sheet.proofs.places.find_in.Goals as goal

pub place_unless-requires-clause-packable : goal.place_unless-requires-clause-packable
place_unless-requires-clause-packable g c =
    All-get_or (λ s. IsPackable c.args.spacing s.1) c.args.order.now c.loop-sprite.sprite-index no_sprite c.loop-sprite-test.true
    c.requires.packable

pub loop-sprite-preserved : goal.loop-sprite-preserved
loop-sprite-preserved g c =
    let before = c.loop-sprite.invariant in
    let spacing = c.args.spacing in
    let order = c.args.order.now in
    let k = c.loop-sprite.sprite-index in
    let s = get_or order k no_sprite in
    let places = c.loop-sprite.places in
    let found = c.in_ok-found.found in
    let now = simple_state_of c.loop-sprite.packer in
    let next = simple_state_of c.place_unless.new.packer in
    let step = c.in_ok-found.ensures.step in
    let room : s.0 < length c.args.places.now =
    All-get_or (λ s. s.0 < length c.args.places.now) order k no_sprite c.loop-sprite-test.true c.requires.numbers in
    let wide : s.0 < length places = omega (arith, room, c.loop-sprite.auto.places) in
    rw add-one
    (record {
      aligned = keeps_positive spacing now next s.1 found step before.aligned;
      going = more spacing (simple_state_of c.args.packer.now) now next order k places s no_sprite found c.requires.once
          c.loop-sprite-test.true refl wide step before.going;
      refused = refused_now spacing now next s.1 found c.refused_by-refused.result step c.refused_by-refused.ensures;
    })

pub returns-clause-found : goal.returns-clause-found
returns-clause-found g c =
    all_found c.args.spacing (simple_state_of c.args.packer.now) (simple_state_of c.loop-sprite.packer) c.args.order.now
    c.loop-sprite.sprite-index c.loop-sprite.places c.loop-sprite-test.false c.loop-sprite.invariant.going
