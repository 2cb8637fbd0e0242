use Rattle.std.proofs.Common.{rules, ◌++◌, map, refl, subst, arith}
use Rattle.std.specs.List.{All}
use Rattle.atlas_model.specs.Boxes.{AreSameBoxes, IsNonempty}
use Rattle.guillotiere.specs.FreeBoxes.BoxShelves.{box_shelf, free_item_boxes}
use Rattle.atlas_model.specs.Pixels.{box_of}
use Rattle.atlas_search.specs.Rectangles.{IsUnsigned}
use Rattle.atlas_store.specs.Slots.{nodes}
use Rattle.atlas_store.specs.Visits.{free_areas}
use Rattle.atlas_store.proofs.WalkLemmas.WalkSteps.{free-pass}
use Rattle.guillotiere.proofs.SimpleLemmas.SimpleLists.{next-all, next-filed}
use Rattle.guillotiere.proofs.simple.changes.file_free.Goals as goal
use Rattle.guillotiere.proofs.simple.changes.file_free.Goals.{then-eq+in_ok-file_area, else-eq}

pub file_area-requires-clause-exact : goal.file_area-requires-clause-exact
file_area-requires-clause-exact g c =
    (next-all (λ r. IsUnsigned r × IsNonempty (box_of r)) c.args.slots.now c.loop-slot.slot-index _ c.loop-slot-test.true (search rules)
    c.loop-slot.invariant.1).0

pub loop-slot-preserved : goal.loop-slot-preserved
loop-slot-preserved g c =
    let all = map box_of (free_areas (nodes c.args.slots.now)) ++ free_item_boxes (box_shelf c.args.boxes.now).entries in
    elim c.if-eq.branch [
      | then-eq+in_ok-file_area w ↦
          let old = free_item_boxes (box_shelf c.loop-slot.boxes).entries in
          let next = next-filed (λ r. IsUnsigned r × IsNonempty (box_of r)) c.args.slots.now c.loop-slot.slot-index _ old old
          (free_item_boxes (box_shelf w.file_area.new.boxes).entries) all refl
          c.loop-slot-test.true (search rules) c.loop-slot.invariant.1 c.loop-slot.invariant.2 w.in_ok-file_area.ensures.boxes in
          rw w.boxes-is (
            w.in_ok-file_area.ensures.kept,
            next.0,
            next.1,
            w.in_ok-file_area.ensures.used,
            omega (arith, c.loop-slot.invariant.4, w.in_ok-file_area.ensures.capacity),
          )
      | else-eq w ↦
          let e = free-pass c.args.slots.now c.loop-slot.slot-index _ c.eq.result c.loop-slot-test.true c.eq.ensures w.if-eq.false in
          rw w.boxes-is (
            c.loop-slot.invariant.0,
            subst (All (λ r. IsUnsigned r × IsNonempty (box_of r))) e c.loop-slot.invariant.1,
            subst (λ l. AreSameBoxes (map box_of l ++ free_item_boxes (box_shelf c.loop-slot.boxes).entries) all) e c.loop-slot.invariant.2,
            c.loop-slot.invariant.3,
            c.loop-slot.invariant.4,
          )
    ]

pub returns-in_err-file_area-clause-capacity : goal.returns-in_err-file_area-clause-capacity
returns-in_err-file_area-clause-capacity g c = omega (arith, c.loop-slot.invariant.4, c.file_area.ensures.capacity)
