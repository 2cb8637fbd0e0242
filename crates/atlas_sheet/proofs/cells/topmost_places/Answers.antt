use Rattle.std.proofs.Common.{◌≡◌, ◌<◌, ◌∙◌, length, get_or, rules, [], Some, None, ap, sym, subst, refl, arith, add-one}
use Rattle.std.proofs.lemmas.List.Elements.{All-get_or}
use Rattle.guillotiere.specs.Pixels.{sides_of}
use Rattle.atlas_sheet.specs.Dense.{FindsTopmost, TakesCells, grid_of}
use Rattle.atlas_sheet.specs.Settings.{spacing_of}
use Rattle.atlas_sheet.specs.Sheets.{IsPackable}
use Rattle.atlas_sheet.proofs.FoundPlaces.{no_sprite}
use Rattle.atlas_sheet.proofs.GridCells.{counted_apart, going_first, going_more, length_zip}
use Rattle.atlas_sheet.proofs.NumberedSprites.{order_all, order_below, order_once, order_sizes}
use Rattle.atlas_sheet.proofs.Topmost.{placing_all, placing_first, placing_left, placing_more, placing_whole}
use Rattle.atlas_sheet.proofs.Failures.{its_error, no_value, same_error}
use Rattle.atlas_sheet.proofs.cells.topmost_places.Goals as goal

pub loop-sprite-init : goal.loop-sprite-init
loop-sprite-init g c = record {
  going = going_first c.args.options.now (sides_of c.args.sheet) _ c.args.sprites.now _ _ _ c.spacing-spacing.ensures c.grid_in.ensures.lies
      c.grid_in.ensures.small c.in_ok-packer.ensures.empty c.in_ok-placed.ensures.none;
  placing = placing_first (spacing_of c.args.options.now) _ _ c.args.order.now _
      (c.in_ok-packer.ensures.empty
      ∙ ap (λ g. record { sheet = g; placed = [] }) (c.grid_in.ensures.whole ∙ ap (λ s. grid_of s (sides_of c.args.sheet))
      c.spacing-spacing.ensures));
}

pub place_sprite-requires-clause-packable : goal.place_sprite-requires-clause-packable
place_sprite-requires-clause-packable g c =
    rw c.spacing-spacing.ensures
    (All-get_or (λ s. IsPackable (spacing_of c.args.options.now) s.1) c.args.order.now c.loop-sprite.sprite-index no_sprite
    c.loop-sprite-test.true
    (order_all c.args.sprites.now c.args.order.now c.requires.permuted (IsPackable (spacing_of c.args.options.now))
    c.requires.good.packable))

pub loop-sprite-preserved : goal.loop-sprite-preserved
loop-sprite-preserved g c =
    let before = c.loop-sprite.invariant in
    let o = c.args.options.now in
    let sprites = c.args.sprites.now in
    let order = c.args.order.now in
    let k = c.loop-sprite.sprite-index in
    let s = get_or order k no_sprite in
    let room : s.0 < length sprites = All-get_or (λ s. s.0 < length sprites) order k no_sprite c.loop-sprite-test.true
    (order_below sprites order c.requires.permuted (length sprites) (omega arith)) in
    let size : s.1 ≡ get_or sprites s.0 no_sprite.1 = All-get_or (λ s. s.1 ≡ get_or sprites s.0 no_sprite.1) order k no_sprite
    c.loop-sprite-test.true
    (order_sizes sprites order c.requires.permuted no_sprite.1) in
    let long : length c.loop-sprite.placed.items ≡ length sprites = length_zip o (sides_of c.args.sheet) sprites c.loop-sprite.placed.items
    before.going.each in
    let taken = rw c.in-Some.is at c.in_ok-area.ensures.placed in
    let topmost = rw c.in-Some.is at c.in_ok-area.ensures.topmost in
    rw add-one
    (record {
      going = going_more o (sides_of c.args.sheet) sprites _ _ _ _ s.0 no_sprite.1 c.in-Some.area c.upright.result c.upright.ensures
          c.spacing-spacing.ensures
          c.requires.positive c.requires.good.aligned c.requires.good.packable room
          (subst (λ z. TakesCells c.spacing-spacing.result c.loop-sprite.packer z c.in-Some.area c.place_sprite.new.packer) size taken)
          before.going;
      placing = placing_more (spacing_of o) _ c.loop-sprite.packer c.place_sprite.new.packer order k c.loop-sprite.placed.items s no_sprite
          (order_once sprites order c.requires.permuted) c.loop-sprite-test.true refl (omega (arith, room, long)) before.placing
          c.upright.result
          (subst (λ a. FindsTopmost (spacing_of o) c.loop-sprite.packer s.1 (Some a) c.place_sprite.new.packer)
          (ap (λ p. p.area) (sym c.upright.ensures))
          (subst (λ z. FindsTopmost z c.loop-sprite.packer s.1 (Some c.in-Some.area) c.place_sprite.new.packer) c.spacing-spacing.ensures
          topmost));
    })

pub returns-in-None-clause-left : goal.returns-in-None-clause-left
returns-in-None-clause-left g c =
    let before = c.loop-sprite.invariant in
    let o = c.args.options.now in
    let sprites = c.args.sprites.now in
    let order = c.args.order.now in
    let k = c.loop-sprite.sprite-index in
    let s = get_or order k no_sprite in
    let room : s.0 < length sprites = All-get_or (λ s. s.0 < length sprites) order k no_sprite c.loop-sprite-test.true
    (order_below sprites order c.requires.permuted (length sprites) (omega arith)) in
    let long : length c.loop-sprite.placed.items ≡ length sprites = length_zip o (sides_of c.args.sheet) sprites c.loop-sprite.placed.items
    before.going.each in
    placing_left (spacing_of o) _ c.loop-sprite.packer c.place_sprite.new.packer order k c.loop-sprite.placed.items s no_sprite
    (order_once sprites order c.requires.permuted) c.loop-sprite-test.true refl (omega (arith, room, long)) before.placing
    (sides_of c.args.sheet) refl
    (subst (λ z. FindsTopmost z c.loop-sprite.packer s.1 None c.place_sprite.new.packer) c.spacing-spacing.ensures
    (rw c.in-None.is at c.in_ok-area.ensures.topmost))

pub index_mut-requires : goal.index_mut-requires
index_mut-requires g c =
    let before = c.loop-sprite.invariant in
    let o = c.args.options.now in
    let sprites = c.args.sprites.now in
    let room = All-get_or (λ s. s.0 < length sprites) c.args.order.now c.loop-sprite.sprite-index no_sprite c.loop-sprite-test.true
    (order_below sprites c.args.order.now c.requires.permuted (length sprites) (omega arith)) in
    let long = length_zip o (sides_of c.args.sheet) sprites c.loop-sprite.placed.items before.going.each in
    search (rules, room, long)

pub returns-clause-apart : goal.returns-clause-apart
returns-clause-apart g c =
    counted_apart (spacing_of c.args.options.now) c.loop-sprite.placed.items c.loop-sprite.packer.placed
    c.loop-sprite.invariant.going.counted c.loop-sprite.invariant.going.disjoint

pub returns-clause-found : goal.returns-clause-found
returns-clause-found g c =
    placing_all (spacing_of c.args.options.now) _ c.loop-sprite.packer c.args.order.now c.loop-sprite.sprite-index
    c.loop-sprite.placed.items c.loop-sprite-test.false
    c.loop-sprite.invariant.placing

pub returns-clause-whole : goal.returns-clause-whole
returns-clause-whole g c =
    placing_whole (spacing_of c.args.options.now) _ c.loop-sprite.packer c.args.order.now c.loop-sprite.sprite-index
    c.loop-sprite.placed.items c.loop-sprite-test.false
    c.loop-sprite.invariant.placing c.args.sprites.now c.requires.permuted
    (length_zip c.args.options.now (sides_of c.args.sheet) c.args.sprites.now c.loop-sprite.placed.items c.loop-sprite.invariant.going.each)

pub returns-clause-upright : goal.returns-clause-upright
returns-clause-upright g c = c.loop-sprite.invariant.going.unturned

pub returns-in_err-area : goal.returns-in_err-area
returns-in_err-area g c =
    let r = c.from_residual-in_err-area in
    record {
      each = no_value r.result _ _ r.ensures.1;
      apart = no_value r.result _ _ r.ensures.1;
      whole = no_value r.result _ _ r.ensures.1;
      upright = no_value r.result _ _ r.ensures.1;
      found = no_value r.result _ _ r.ensures.1;
      left = no_value r.result _ _ r.ensures.1;
      unless = same_error r.result _ _ r.ensures.1 c.in_err-area.ensures.unless;
    }

pub returns-in_err-packer : goal.returns-in_err-packer
returns-in_err-packer g c =
    let r = c.from_residual in
    record {
      each = no_value r.result _ _ r.ensures.1;
      apart = no_value r.result _ _ r.ensures.1;
      whole = no_value r.result _ _ r.ensures.1;
      upright = no_value r.result _ _ r.ensures.1;
      found = no_value r.result _ _ r.ensures.1;
      left = no_value r.result _ _ r.ensures.1;
      unless = its_error r.result _ r.ensures.1;
    }

pub returns-in_err-placed : goal.returns-in_err-placed
returns-in_err-placed g c =
    let r = c.from_residual-in_err-placed in
    record {
      each = no_value r.result _ _ r.ensures.1;
      apart = no_value r.result _ _ r.ensures.1;
      whole = no_value r.result _ _ r.ensures.1;
      upright = no_value r.result _ _ r.ensures.1;
      found = no_value r.result _ _ r.ensures.1;
      left = no_value r.result _ _ r.ensures.1;
      unless = same_error r.result _ _ r.ensures.1 c.in_err-placed.ensures.unless;
    }
