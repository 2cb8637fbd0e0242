use Rattle.std.proofs.Common.{◌-◌, ◌≡◌, ◌∙◌, ap, refl, sym, subst, length, arith}
use Rattle.atlas_store.specs.Slots.{nodes, rings}
use Rattle.atlas_search.specs.Numbers.{occurs}
use Rattle.atlas_store.specs.Slots.Placing.{granted_by, taken_by, CanPlace, IsCarriedOut}
use Rattle.std.specs.Vec.{with_items}
use Rattle.atlas_store.specs.Stored.{Shelf, Holds}
use Rattle.atlas_store.specs.Store.Holdings.{shelf_of, with_unused_list, after_place}
use Rattle.atlas_store.proofs.SlotLemmas.PlannedLeaves.{placed-generation, placed-granted, placed-left, left-once}
use Rattle.atlas_store.proofs.StoreLemmas.StoreFacts.{are-slots}
use Rattle.atlas_store.proofs.StoreLemmas.StoreTakes.{can-taken, held-taken, taken-number}
use Rattle.atlas_store.proofs.StoreLemmas.StoreSteps.{long-over, over-shelf, placed-holds, stands-before}
use Rattle.atlas_store.proofs.StoreLemmas.TakenOnce.{once-kept, only-takes}
use Rattle.atlas_store.proofs.store.Store.place.Goals as goal

pub take_for-parts-requires : goal.take_for-parts-requires
take_for-parts-requires g c = (c.requires.0, c.requires.1.leaf.holds, c.requires.1.slots)

pub place_leaf-requires-clause-stands : goal.place_leaf-requires-clause-stands
place_leaf-requires-clause-stands g c =
    let h = c.requires.0 in
    let got = held-taken c.args.at.number c.args.plan c.take_for-parts.result c.take_for-parts.ensures h c.requires.1
    in (
      h.sequence,
      h.tree,
      stands-before (λ i. occurs i (taken_by c.args.plan c.take_for-parts.result))
          (shelf_of c.take_for-parts.new.self)
          c.deref_mut.result.now (with_unused_list got.0 h) c.deref_mut.ensures.value got.1,
    )

pub place_leaf-requires-clause-ready : goal.place_leaf-requires-clause-ready
place_leaf-requires-clause-ready g c =
    let at = c.args.at.number in
    let t = c.take_for-parts.result in
    subst (λ s. CanPlace (nodes s) at c.args.plan t) (sym c.deref_mut.ensures.value)
    (can-taken at c.args.plan t c.take_for-parts.ensures c.requires.0 c.requires.1)

pub place_leaf-requires-clause-short : goal.place_leaf-requires-clause-short
place_leaf-requires-clause-short g c =
    let got = held-taken c.args.at.number c.args.plan c.take_for-parts.result c.take_for-parts.ensures c.requires.0
    c.requires.1 in
    omega (arith, got.1.short, ap (λ s. length s) c.deref_mut.ensures.value)

pub returns : goal.returns
returns g c =
    let at = c.args.at in
    let p = c.args.plan in
    let t = c.take_for-parts.result in
    let mid = c.take_for-parts.new.self in
    let ns = nodes mid.slots.items in
    let took = c.take_for-parts.ensures in
    let slots = are-slots mid c.deref_mut.ensures.value c.deref_mut.ensures.len c.place_leaf.auto.slots in
    let placed = over-shelf (λ old new. IsCarriedOut (nodes old) (nodes new) at p t) _ _ _ _ slots
    c.place_leaf.ensures.placed in
    let same = over-shelf (λ old new. rings new ≡ rings old) _ _ _ _ slots c.place_leaf.ensures.same_rings in
    let can = can-taken at.number p t took c.requires.0 c.requires.1 in
    let new : Shelf = record (shelf_of mid) { slots = (with_items mid.slots c.place_leaf.new.slots).items } in
    let kept = placed-generation ns _ at p t placed can in
    record {
      kept = λ h ready.
          let got = held-taken at.number p t took h ready in (
            got.0,
            subst (λ g. Holds new (after_place p t at.number g (with_unused_list got.0 h)))
                (sym (kept (granted_by p t at.number)))
                (placed-holds (shelf_of mid) _ at p t (long-over _ _ _ _ slots) placed same can
                (with_unused_list got.0 h) got.1
                ready.leaf.detached ready.only),
            got.3 ∙ ap (λ n. length h.unused_list - n) (taken-number p t),
          );
      granted = placed-granted ns _ at p t placed;
      left = placed-left ns _ at p t placed;
      apart = left-once p t can.once;
      takes = only-takes took.takes (record { options = refl; capacity = refl; turns = refl; once = once-kept kept });
    }
