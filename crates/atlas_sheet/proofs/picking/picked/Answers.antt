use Rattle.std.proofs.Common.{◌≡◌, ◌<◌, length, get_or, true, false, arith, rules}
use Rattle.std.proofs.lemmas.List.{get_or_default}
use Rattle.atlas_sheet.proofs.FoundPlaces.{no_sprite}
use Rattle.atlas_sheet.proofs.GroupRows.{picked_less, picked_more}
use Rattle.atlas_sheet.proofs.picking.picked.Goals as goal
use Rattle.atlas_sheet.proofs.picking.picked.Goals.{then-chosen+in_ok-push, else-chosen}

pub loop-number-preserved : goal.loop-number-preserved
loop-number-preserved g c =
    let k = c.loop-number.number in
    let row = c.args.row.now in
    let sprites = c.args.sprites.now in
    let b = get_or row k false in
    let s = get_or sprites k no_sprite.1 in
    let inside : k < length sprites = omega (arith, c.loop-number-test.true, c.requires) in
    elim c.if-chosen.branch [
      | then-chosen+in_ok-push w ↦
          let on : b ≡ true = search (rules, w.if-chosen) in
          rw w.all-is
          (picked_more row sprites k c.loop-number.all.items _ b s c.loop-number-test.true c.requires
          (get_or_default row k false b c.loop-number-test.true) (get_or_default sprites k no_sprite.1 s inside)
          c.loop-number.invariant on w.in_ok-push.ensures.items)
      | else-chosen w ↦
          let off : b ≡ false = search (rules, w.if-chosen) in
          rw w.all-is
          (picked_less row sprites k c.loop-number.all.items c.loop-number.all.items b s c.loop-number-test.true c.requires
          (get_or_default row k false b c.loop-number-test.true) (get_or_default sprites k no_sprite.1 s inside)
          c.loop-number.invariant off)
    ]
