use Rattle.std.proofs.Common.{◌⊎◌, refl, subst}
use Rattle.std.proofs.lemmas.List.{take_all}
use Rattle.atlas_model.specs.Boxes.{Box, IsInside}
use Rattle.atlas_maxrects.specs.declared.free.FreeBox.{FreeBox}
use Rattle.atlas_maxrects.specs.Free.{LiesInOne, free_box}
use Rattle.atlas_maxrects.proofs.LeftOvers.{without_dropped, without_kept}
use Rattle.atlas_maxrects.proofs.free.without.Goals as goal
use Rattle.atlas_maxrects.proofs.free.without.Goals.{then-not-lies_in+in_ok-push, else-not-lies_in}

abbrev no_box : FreeBox
no_box = record { left = 0; top = 0; right = 0; bottom = 0 }

pub loop-other-preserved : goal.loop-other-preserved
loop-other-preserved g c =
    let boxes = c.args.boxes.now in
    let i = c.loop-other.other-index in
    elim c.if-not-lies_in.branch [
      | then-not-lies_in+in_ok-push w ↦
          rw w.kept-is
          (rw w.in_ok-push.ensures.items
          (without_kept boxes c.args.part i c.loop-other.kept.items no_box c.loop-other-test.true c.loop-other.invariant))
      | else-not-lies_in w ↦
          rw w.kept-is
          (without_dropped boxes c.args.part i c.loop-other.kept.items no_box c.loop-other-test.true (w.if-not-lies_in.ensures.0 refl)
          c.loop-other.invariant)
    ]

pub returns-clause-kept : goal.returns-clause-kept
returns-clause-kept g c =
    subst (λ xs. (b : Box) → LiesInOne xs b → LiesInOne c.loop-other.kept.items b ⊎ IsInside b (free_box c.args.part))
    (take_all c.loop-other.other-index c.args.boxes.now c.loop-other-test.false) c.loop-other.invariant.kept
