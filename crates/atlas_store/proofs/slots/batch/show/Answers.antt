use Rattle.std.proofs.Common.{◌∙◌, ◌≡◌, ◌<◌, ◌-◌, ◌+◌, length, ap, arith, take}
use Rattle.std.proofs.lemmas.List.{length-map, take_all}
use Rattle.atlas_store.specs.Slots.{nodes}
use Rattle.atlas_store.specs.Batches.{hidden}
use Rattle.atlas_store.proofs.WalkLemmas.HiddenSlots.{shown-inside, shown-more}
use Rattle.atlas_store.proofs.slots.batch.show.Goals as goal

pub loop-left-init : goal.loop-left-init
loop-left-init c = grind (arith, take_all)

pub set_kind-requires : goal.set_kind-requires
set_kind-requires c = grind (arith, shown-inside, length-map)

pub loop-left-preserved : goal.loop-left-preserved
loop-left-preserved c =
    let now = nodes c.loop-left.slots in
    let last : c.loop-left.left - 1 < length c.args.ids.now = omega (arith, c.loop-left.invariant.most, c.loop-left-test.true) in
    let one : c.loop-left.left ≡ c.loop-left.left - 1 + 1 = omega (arith, c.loop-left-test.true) in
    record {
      shown = λ ns e h. shown-more ns now (nodes c.set_kind.new.slots) c.args.ids.now (c.loop-left.left - 1) c.index-ids-left.result _ last
          c.index-ids-left.is c.slot_number-number.ensures
          (c.loop-left.invariant.shown ns e h ∙ ap (λ v. hidden ns (take v c.args.ids.now)) one) h c.set_kind.ensures.written;
      same_rings = c.set_kind.ensures.same_rings ∙ c.loop-left.invariant.same_rings;
      most = omega (arith, c.loop-left.invariant.most);
    }

pub returns-clause-shown : goal.returns-clause-shown
returns-clause-shown c = grind arith
