use Rattle.std.proofs.Common.{◌≡◌, ◌<◌, length, get_or, is_none, true, false, None, arith, rules}
use Rattle.std.proofs.lemmas.List.{get_or_default}
use Rattle.atlas_sheet.proofs.FoundPlaces.{no_sprite}
use Rattle.atlas_sheet.proofs.PageSteps.{left_less, left_more}
use Rattle.atlas_sheet.proofs.paging.sprites_left.Goals as goal
use Rattle.atlas_sheet.proofs.paging.sprites_left.Goals.{then-is_none+in_ok-push, else-is_none}

pub loop-number-preserved : goal.loop-number-preserved
loop-number-preserved g c =
    let k = c.loop-number.number in
    let sprites = c.args.sprites.now in
    let places = c.args.places.now in
    let s = get_or sprites k no_sprite.1 in
    let q = get_or places k None in
    let inside : k < length sprites = omega (arith, c.loop-number-test.true, c.requires) in
    elim c.if-is_none.branch [
      | then-is_none+in_ok-push w ↦
          let none : is_none q ≡ true = search (rules, w.if-is_none) in
          rw w.left-is
          (left_more sprites places k c.loop-number.left.items _ s q c.loop-number-test.true c.requires
          (get_or_default sprites k no_sprite.1 s inside) (get_or_default places k None q c.loop-number-test.true)
          c.loop-number.invariant none w.in_ok-push.ensures.items)
      | else-is_none w ↦
          let some : is_none q ≡ false = search (rules, w.if-is_none) in
          rw w.left-is
          (left_less sprites places k c.loop-number.left.items c.loop-number.left.items s q c.loop-number-test.true c.requires
          (get_or_default sprites k no_sprite.1 s inside) (get_or_default places k None q c.loop-number-test.true)
          c.loop-number.invariant some)
    ]
