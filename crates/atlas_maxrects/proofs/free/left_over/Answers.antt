use Rattle.atlas_maxrects.specs.declared.free.FreeBox.{FreeBox}
use Rattle.atlas_maxrects.proofs.LeftOvers.{all_left, leaving_far, leaving_near}
use Rattle.atlas_maxrects.proofs.free.left_over.Goals as goal
use Rattle.atlas_maxrects.proofs.free.left_over.Goals.{then-is_far+in_ok-push, else-is_far+in_ok-add_parts}

abbrev no_box : FreeBox
no_box = record { left = 0; top = 0; right = 0; bottom = 0 }

pub loop-whole-preserved : goal.loop-whole-preserved
loop-whole-preserved g c =
    let free = c.args.free.now in
    let taken = c.args.taken in
    let i = c.loop-whole.whole-index in
    let far = c.loop-whole.left.items in
    let near = c.loop-whole.near.items in
    let before = c.loop-whole.invariant in
    let below = c.loop-whole-test.true in
    elim c.if-is_far.branch [
      | then-is_far+in_ok-push w ↦
          rw (w.left-is, w.near-is)
          (rw w.in_ok-push.ensures.items
          (leaving_far free taken i far near no_box below (c.is_far.ensures w.if-is_far.true) before))
      | else-is_far+in_ok-add_parts w ↦
          rw (w.left-is, w.near-is)
          (leaving_near free taken i far near _ no_box below w.in_ok-add_parts.ensures.parts before)
    ]

pub returns-clause-left : goal.returns-clause-left
returns-clause-left g c =
    rw c.in_ok-extend_from_slice.ensures.items
    (rw c.deref.ensures.value
    (all_left c.args.free.now c.args.taken c.loop-whole.whole-index _ _ c.loop-whole-test.false c.loop-whole.invariant))
