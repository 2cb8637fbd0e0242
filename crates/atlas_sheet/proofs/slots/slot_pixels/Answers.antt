use Rattle.atlas_sheet.proofs.GroupTakes.{slot_more, written}
use Rattle.atlas_sheet.proofs.FoundPlaces.{no_sprite}
use Rattle.std.proofs.Common.{◌≡◌, ◌+◌, ◌≤◌, ap, arith, drop, get_or, length, subst, sym}
use Rattle.atlas_sheet.specs.Grouping.{members, pixels_together}
use Rattle.atlas_sheet.proofs.slots.slot_pixels.Goals as goal

pub loop-number-preserved : goal.loop-number-preserved
loop-number-preserved g c s =
    let k = c.loop-number.number in
    let slots = c.args.slots.now in
    let sprites = c.args.sprites.now in
    let total = pixels_together (members s slots sprites) in
    let new = c.add_pixels.new.all in
    let long : length new ≡ c.loop-number.pixels.len =
    omega (arith, c.add_pixels.ensures.long, ap length c.deref_mut.ensures.value, c.loop-number.pixels.ok.0) in
    let before =
    subst (λ xs. get_or xs s 0 + pixels_together (members s (drop k slots) (drop k sprites)) ≤ total) (sym c.deref_mut.ensures.value)
    (c.loop-number.invariant s) in
    subst (λ xs. get_or xs s 0 + pixels_together (members s (drop (k + 1) slots) (drop (k + 1) sprites)) ≤ total)
    (sym (written c.loop-number.pixels.len new c.loop-number.pixels.items long))
    (slot_more slots sprites k s (get_or c.deref_mut.result.now s 0) (get_or new s 0) total no_sprite.1 c.loop-number-test.true c.requires
    (c.add_pixels.ensures.added s) before)
