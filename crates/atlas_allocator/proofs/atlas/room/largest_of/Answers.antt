use Rattle.std.proofs.Common.{◌≡◌, [], All, rules, subst, sym}
use Rattle.atlas_store.specs.Slots.{nodes}
use Rattle.atlas_store.specs.Visits.{free_areas}
use Rattle.atlas_store.specs.Walks.{IsShownArea}
use Rattle.atlas_store.proofs.WalkLemmas.AreaSums.{free-more, free-past}
use Rattle.atlas_allocator.specs.Room.{and_maybe, IsLargestOf}
use Rattle.atlas_allocator.proofs.AtlasLemmas.FreeRoom.{shown-here, shown-more, some-more, none-more, best-past, best-before, largest-end}
use Rattle.atlas_allocator.proofs.atlas.room.largest_of.Goals as goal
use Rattle.atlas_allocator.proofs.atlas.room.largest_of.Goals.{then-eq, else-eq}
use Rattle.atlas_allocator.proofs.AtlasLemmas.SlotSteps.{free-past_all}

pub larger-requires-clause-free : goal.larger-requires-clause-free
larger-requires-clause-free c =
    shown-here c.loop-slot.best c.args.slots.now c.loop-slot.slot-index _
    (free-more c.args.slots.now c.loop-slot.slot-index _ c.loop-slot-test.true (search rules)) c.loop-slot.invariant.shown

pub loop-slot-preserved : goal.loop-slot-preserved
loop-slot-preserved c =
    elim c.if-eq.branch [
      | then-eq w ↦
          let more = free-more c.args.slots.now c.loop-slot.slot-index _ c.loop-slot-test.true (search rules) in
          let best = c.loop-slot.best in
          record {
            shown = shown-more best c.args.slots.now c.loop-slot.slot-index _ more c.if-eq.best w.larger.result w.best-is
                c.loop-slot.invariant.shown w.larger.ensures;
            some = some-more best c.args.slots.now c.loop-slot.slot-index _ more c.if-eq.best w.larger.result
                (free_areas (nodes c.args.slots.now)) w.best-is w.larger.ensures c.loop-slot.invariant.some;
            none = λ e. none-more best c.args.slots.now c.loop-slot.slot-index _ more c.if-eq.best w.larger.result w.best-is e;
          }
      | else-eq w ↦
          let past = free-past c.args.slots.now c.loop-slot.slot-index _ c.loop-slot-test.true c.eq.result c.eq.ensures w.if-eq.false in
          record {
            shown = best-past c.loop-slot.best c.if-eq.best w.best-is c.args.slots.now c.loop-slot.slot-index past (All IsShownArea)
                c.loop-slot.invariant.shown;
            some = λ f h. c.loop-slot.invariant.some f
                (best-before c.loop-slot.best c.if-eq.best w.best-is c.args.slots.now c.loop-slot.slot-index past (λ l. IsLargestOf l f) h);
            none = λ e. c.loop-slot.invariant.none
                (best-before c.loop-slot.best c.if-eq.best w.best-is c.args.slots.now c.loop-slot.slot-index past (λ l. l ≡ []) e);
          }
    ]

pub returns-clause-some : goal.returns-clause-some
returns-clause-some c =
    largest-end c.loop-slot.best (free_areas (nodes c.args.slots.now))
    (λ f h. c.loop-slot.invariant.some f
    (subst (λ l. IsLargestOf (and_maybe c.loop-slot.best l) f) (sym (free-past_all c.args.slots.now c.loop-slot.slot-index
    c.loop-slot-test.false)) h))
