use Rattle.std.proofs.Common.{refl}
use Rattle.atlas_store.specs.Slots.SlotCalls.{IsLeafFreed}
use Rattle.atlas_store.specs.Store.Holdings.{shelf_of}
use Rattle.atlas_store.proofs.StoreLemmas.StoreFacts.{are-slots, slots-room}
use Rattle.atlas_store.proofs.StoreLemmas.StoreSteps.{marked-holds, over-shelf, long-over}
use Rattle.atlas_store.proofs.store.Store.mark.Goals as goal

pub returns : goal.returns
returns g c =
    let at = c.args.at.number in
    let slots = are-slots c.args.self.now c.deref_mut.ensures.value c.deref_mut.ensures.len c.mark_free.auto.slots in
    let freed = over-shelf (λ old new. IsLeafFreed old new at) _ _ _ _ slots c.mark_free.ensures in
    record {
      kept = marked-holds (shelf_of c.args.self.now) _ at (long-over _ _ _ _ slots) freed c.requires.granted;
      calm = freed.calm;
      free = freed.leaf;
      room = slots-room c.args.self.now _ slots refl refl;
      turns = c.tick.ensures;
    }
