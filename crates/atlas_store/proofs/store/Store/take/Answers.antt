use Rattle.std.proofs.Common.{ℕ, refl, vec_capacity, arith}
use Rattle.atlas_model.specs.Pixels.{options_of}
use Rattle.atlas_store.specs.Slots.Links.{IsTaken}
use Rattle.atlas_store.specs.Stored.{places_of}
use Rattle.atlas_store.specs.Store.Holdings.{shelf_of}
use Rattle.atlas_store.specs.Slots.{blank_slot}
use Rattle.atlas_store.proofs.StoreLemmas.StoreFacts.{taken-longer, taken-room}
use Rattle.atlas_store.proofs.StoreLemmas.StoreSteps.{taken-holds, taken-short}
use Rattle.atlas_store.proofs.store.Store.take.Goals as goal

pub returns : goal.returns
returns g c =
    let old = c.args.self.now in
    let new = record old {
      slots = c.take_slot.new.slots;
      unused = c.take_slot.new.unused;
      room = λ e. omega (arith, old.room e, c.take_slot.ensures.capacity);
    } in
    let call = c.take_slot.ensures.taken in
    let k : ℕ = c.take_slot.result.number in
    let here : IsTaken (options_of old.options) old.slots.items c.take_slot.new.slots.items old.lists.heads c.take_slot.new.unused
    (places_of c.requires.1 c.requires.0) k =
    call.taken (options_of old.options) old.lists.heads (places_of c.requires.1 c.requires.0) c.requires.2.filed in
    record {
      taken = λ h claimed holds.
          taken-holds (shelf_of old) c.take_slot.new.slots.items c.take_slot.new.unused k h claimed
          (taken-short (shelf_of old) c.take_slot.new.slots.items (vec_capacity old.slots) k _ blank_slot
          c.requires.0 c.requires.1 c.requires.2 c.requires.3 (λ ne. (call.again ne).1) (λ e. (call.fresh e).1))
          call.others (call.taken (options_of old.options) old.lists.heads (places_of claimed h) holds.filed) holds;
      slots = λ h claimed n holds room.
          taken-room old new k _ blank_slot h claimed n holds (λ ne. (call.again ne).1) (λ e. (call.fresh e).1) c.take_slot.ensures.capacity
          room;
      apart = λ h claimed j holds some inside.
          (call.taken (options_of old.options) old.lists.heads (places_of claimed h) holds.filed).apart j inside some;
      was_unused = here.was_unused;
      fresh = record { unused = here.is_unused; inside = here.inside };
      longer = taken-longer old new k _ blank_slot (λ ne. (call.again ne).1) (λ e. (call.fresh e).1);
      others = call.others;
      takes = record { options = refl; capacity = c.take_slot.ensures.capacity; turns = refl; once = call.once };
    }
