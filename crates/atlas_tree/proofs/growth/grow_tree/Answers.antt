use Rattle.std.proofs.Common.{ℕ, ◌-◌, sym, subst, arith}
use Rattle.atlas_model.specs.Boxes.{other, side}
use Rattle.atlas_model.specs.Pixels.{sides_of}
use Rattle.atlas_store.specs.Stored.{Holding}
use Rattle.atlas_store.specs.Store.Holdings.{OnlyTakes}
use Rattle.atlas_tree.specs.Plans.Growths.{IsGrowable}
use Rattle.atlas_tree.proofs.PlanLemmas.GrownStages.{IsMidwayIn, equal-yes, equal-no, unequal-yes, unequal-no, along-longer, along-same}
use Rattle.atlas_tree.proofs.PlanLemmas.GrownStages.{across-longer, across-same, across_need, longer-ready, longer-midway, same-midway}
use Rattle.atlas_tree.proofs.PlanLemmas.GrownStages.{midway-grown, midway-ready, widened-grown}
use Rattle.atlas_store.proofs.StoreLemmas.TakenOnce.{only-takes}
use Rattle.atlas_tree.proofs.growth.grow_tree.Goals as goal
use Rattle.atlas_tree.proofs.growth.grow_tree.Goals.{then-ne, else-ne}

pub lengthen-requires-clause-ready : goal.lengthen-requires-clause-ready
lengthen-requires-clause-ready g c =
    let p = c.args.growth in
    let old = sides_of p.from in
    let new = sides_of p.to in
    let h = c.requires.0 in
    let w = c.requires.2 in
    let longer = along-longer old new h p w.growth w.fits (unequal-yes p.middle p.from c.ne.result c.ne.ensures c.if-ne.true) in
    (h, side h.sequence.axis new - side h.sequence.axis old, across_need old new h.sequence.axis, longer-ready w longer)

pub widen-requires-clause-ready : goal.widen-requires-clause-ready
widen-requires-clause-ready g c =
    let p = c.args.growth in
    let old = sides_of p.from in
    let new = sides_of p.to in
    let i = c.args.first.number in
    let midway : (h : Holding) (n : ℕ) → IsGrowable c.args.store.now old new i n p h → IsMidwayIn c.if-ne.store old new i n h =
    (λ h n w. elim c.if-ne.branch [
      | then-ne b ↦
          let longer = along-longer old new h p w.growth w.fits (unequal-yes p.middle p.from c.ne.result c.ne.ensures b.if-ne.true) in
          subst (λ s. IsMidwayIn s old new i n h) (sym b.store-is) (longer-midway w longer b.lengthen.ensures)
      | else-ne b ↦
          let same = along-same old new h p w.growth (unequal-no p.middle p.from c.ne.result c.ne.ensures b.if-ne.false) in
          subst (λ s. IsMidwayIn s old new i n h) (sym b.store-is) (same-midway w same)
    ]) in
    let h = c.requires.0 in
    let w = c.requires.2 in
    let m = midway h c.requires.1 w in
    let wider = across-longer old new h p w.growth w.fits (λ e. equal-no p.to p.middle c.eq.result c.eq.ensures c.if-eq.false (sym e)) in
    (m.0, side (other h.sequence.axis) new - side (other h.sequence.axis) old, midway-ready w m.1 wider)

pub returns-then-eq : goal.returns-then-eq
returns-then-eq g c =
    let p = c.args.growth in
    let old = sides_of p.from in
    let new = sides_of p.to in
    let i = c.args.first.number in
    let midway : (h : Holding) (n : ℕ) → IsGrowable c.args.store.now old new i n p h → IsMidwayIn c.if-ne.store old new i n h =
    (λ h n w. elim c.if-ne.branch [
      | then-ne b ↦
          let longer = along-longer old new h p w.growth w.fits (unequal-yes p.middle p.from c.ne.result c.ne.ensures b.if-ne.true) in
          subst (λ s. IsMidwayIn s old new i n h) (sym b.store-is) (longer-midway w longer b.lengthen.ensures)
      | else-ne b ↦
          let same = along-same old new h p w.growth (unequal-no p.middle p.from c.ne.result c.ne.ensures b.if-ne.false) in
          subst (λ s. IsMidwayIn s old new i n h) (sym b.store-is) (same-midway w same)
    ]) in
    let takes : OnlyTakes c.args.store.now c.if-ne.store = grind arith in
    record {
      grown = λ h n w.
          let m = midway h n w in
          let same = across-same old new h p w.growth (sym (equal-yes p.to p.middle c.eq.result c.eq.ensures c.if-eq.true)) in
          (m.0, midway-grown w m.1 same);
      takes = takes;
    }

pub returns : goal.returns
returns g c =
    let p = c.args.growth in
    let old = sides_of p.from in
    let new = sides_of p.to in
    let i = c.args.first.number in
    let midway : (h : Holding) (n : ℕ) → IsGrowable c.args.store.now old new i n p h → IsMidwayIn c.if-ne.store old new i n h =
    (λ h n w. elim c.if-ne.branch [
      | then-ne b ↦
          let longer = along-longer old new h p w.growth w.fits (unequal-yes p.middle p.from c.ne.result c.ne.ensures b.if-ne.true) in
          subst (λ s. IsMidwayIn s old new i n h) (sym b.store-is) (longer-midway w longer b.lengthen.ensures)
      | else-ne b ↦
          let same = along-same old new h p w.growth (unequal-no p.middle p.from c.ne.result c.ne.ensures b.if-ne.false) in
          subst (λ s. IsMidwayIn s old new i n h) (sym b.store-is) (same-midway w same)
    ]) in
    let takes : OnlyTakes c.args.store.now c.if-ne.store = grind arith in
    record {
      grown = λ h n w.
          let m = midway h n w in
          let wider = across-longer old new h p w.growth w.fits (λ e. equal-no p.to p.middle c.eq.result c.eq.ensures c.if-eq.false (sym e))
          in
          widened-grown w m.1 wider c.widen.ensures;
      takes = only-takes takes c.widen.ensures.takes;
    }
