use Rattle.std.proofs.Common.{◌∙◌, take, get_or, subst, sym}
use Rattle.std.proofs.lemmas.Bool.{false≢true}
use Rattle.std.proofs.lemmas.List.{take_all, take_more}
use Rattle.atlas_maxrects.specs.declared.free.FreeBox.{FreeBox}
use Rattle.atlas_maxrects.specs.Free.{IsBestCorner, sides_by}
use Rattle.atlas_maxrects.proofs.BestCorners.{best_more, best_same}
use Rattle.atlas_maxrects.proofs.corners.best_corner.Goals as goal
use Rattle.atlas_maxrects.proofs.corners.best_corner.Goals.{then-has_room, else-has_room}

abbrev no_box : FreeBox
no_box = record { left = 0; top = 0; right = 0; bottom = 0 }

pub loop-one-preserved : goal.loop-one-preserved
loop-one-preserved c =
    let xs = c.args.free.now in
    let i = c.loop-one.one-index in
    let s = sides_by c.args.width c.args.height in
    let f = get_or xs i no_box in
    let best = c.loop-one.best in
    let before = c.loop-one.invariant in
    subst (λ ys. IsBestCorner ys s c.if-has_room.best) (sym (take_more xs i no_box c.loop-one-test.true))
    (elim c.if-has_room.branch [
      | then-has_room w ↦
          rw w.best-is
          (best_more (take i xs) f s best w.better.result (c.has_room.ensures.0 w.if-has_room.true) w.better.ensures before)
      | else-has_room w ↦
          rw w.best-is
          (best_same (take i xs) f s best (λ room. false≢true (sym w.if-has_room.false ∙ c.has_room.ensures.1 room)) before)
    ])

pub returns : goal.returns
returns c =
    subst (λ ys. IsBestCorner ys (sides_by c.args.width c.args.height) c.loop-one.best)
    (take_all c.loop-one.one-index c.args.free.now c.loop-one-test.false) c.loop-one.invariant
