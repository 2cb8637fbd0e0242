use Rattle.std.proofs.Common.{rules, refl}
use Rattle.atlas_store.proofs.WalkLemmas.WalkSteps.{visits-free, passes-free, asks-free, asks-more-free, asks-past-free}
use Rattle.atlas_store.proofs.slots.walks.visit_free.Goals as goal
use Rattle.atlas_store.proofs.slots.walks.visit_free.Goals.{then-eq, else-eq}

pub visit-requires : goal.visit-requires
visit-requires g c =
    asks-free g.F.FnMut c.args.slots.now c.loop-slot.slot-index _ c.loop-slot-test.true c.loop-slot.visit _ (search rules) refl
    c.loop-slot.invariant.0

pub loop-slot-preserved : goal.loop-slot-preserved
loop-slot-preserved g c =
    elim c.if-eq.branch [
      | then-eq w ↦ (
        asks-more-free g.F.FnMut c.args.slots.now c.loop-slot.slot-index _ c.loop-slot-test.true c.loop-slot.visit w.visit.new.self
            c.if-eq.visit (search rules)
            (record { shown = _; shows = refl; called = w.visit.ensures }) w.visit-is c.loop-slot.invariant.0,
        λ last more. c.loop-slot.invariant.1 last
            (visits-free g.F.FnMut c.loop-slot.visit w.visit.new.self c.if-eq.visit last c.args.slots.now c.loop-slot.slot-index _
            c.loop-slot-test.true (search rules) (record { shown = _; shows = refl; called = w.visit.ensures }) w.visit-is more),
      )
      | else-eq w ↦ (
        asks-past-free g.F.FnMut c.args.slots.now c.loop-slot.slot-index _ c.loop-slot-test.true c.loop-slot.visit c.if-eq.visit c.eq.result
            c.eq.ensures w.if-eq.false w.visit-is c.loop-slot.invariant.0,
        λ last more. c.loop-slot.invariant.1 last
            (passes-free g.F.FnMut c.loop-slot.visit c.if-eq.visit last c.args.slots.now c.loop-slot.slot-index _ c.eq.result
            c.loop-slot-test.true c.eq.ensures w.if-eq.false w.visit-is more),
      )
    ]
