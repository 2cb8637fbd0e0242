use Rattle.std.proofs.Common.{◌≡◌, ap, cond, subst, sym, ◌∙◌, arith, length}
use Rattle.atlas_model.specs.Pixels.{sides_of}
use Rattle.atlas_store.specs.Store.Holdings.{shelf_of}
use Rattle.atlas_store.specs.Slots.Standing.{IsSlot}
use Rattle.atlas_store.specs.Slots.Growing.{last_slot}
use Rattle.atlas_tree.proofs.PlanLemmas.GrownSlots.{last-slot}
use Rattle.atlas_tree.proofs.PlanLemmas.GrownStages.{unequal-yes, unequal-no, along-longer, along-same, across-longer, across-same}
use Rattle.atlas_tree.proofs.PlanLemmas.GrownStages.{along_need, across_need, need-is, strip-longer, strip-same, top-wider, top-same}
use Rattle.atlas_tree.proofs.growth.slots_for.Goals as goal
use Rattle.atlas_tree.proofs.growth.slots_for.Goals.{then-ne, else-ne, then-ne-2, else-ne-2}

pub is_free-requires-clause-slot : goal.is_free-requires-clause-slot
is_free-requires-clause-slot g c =
    let h = c.requires.tree.0 in
    let t = c.requires.tree.2 in
    let w = c.requires.tree.3 in
    let p = c.args.growth in
    let longer = along-longer (sides_of p.from) (sides_of p.to) h p w c.requires.fits
    (unequal-yes p.middle p.from c.ne.result c.ne.ensures c.if-ne.true) in
    subst (IsSlot (length c.args.store.now.slots.items)) (w.last longer) (last-slot (shelf_of c.args.store.now) h t.holds t.spans.some)

pub returns-clause-need : goal.returns-clause-need
returns-clause-need g c = λ h first t w busy.
    let p = c.args.growth in
    let old = sides_of p.from in
    let new = sides_of p.to in
    let v = shelf_of c.args.store.now in
    let taken : c.if-has_strip.strip ≡ cond c.if-ne.has_strip 1 0 = grind arith in
    let along : c.if-has_strip.strip ≡ along_need v (last_slot h.tree) old new h.sequence.axis = elim c.if-ne.branch [
      | then-ne b ↦ taken ∙ ap (λ x. cond x 1 0) b.has_strip-is ∙ strip-longer v old new h p w b.is_free.result b.is_free.ensures
          (along-longer old new h p w c.requires.fits (unequal-yes p.middle p.from c.ne.result c.ne.ensures b.if-ne.true))
      | else-ne b ↦ taken ∙ ap (λ x. cond x 1 0) (b.has_strip-is ∙ b.if-ne.false) ∙
          sym (strip-same v old new h p w (along-same old new h p w (unequal-no p.middle p.from c.ne.result c.ne.ensures b.if-ne.false)))
    ] in
    let across : c.if-ne-2.top ≡ across_need old new h.sequence.axis = elim c.if-ne-2.branch [
      | then-ne-2 b ↦ b.top-is ∙ sym (top-wider v old new h p w (across-longer old new h p w c.requires.fits
          (unequal-yes p.middle p.to c.ne-2.result c.ne-2.ensures b.if-ne-2.true)))
      | else-ne-2 b ↦ b.top-is ∙ sym (top-same v old new h p w (across-same old new h p w
          (unequal-no p.middle p.to c.ne-2.result c.ne-2.ensures b.if-ne-2.false)))
    ] in
    omega (arith, need-is v old new h t.holds t.spans.some busy, along, across)
