use Rattle.std.proofs.Common.{List, subst, sym}
use Rattle.atlas_model.specs.Pixels.{options_of}
use Rattle.atlas_store.specs.declared.slots.Slot.{Slot}
use Rattle.atlas_store.specs.Slots.Picks.{AreFreeBoxes}
use Rattle.atlas_store.specs.Slots.{nodes}
use Rattle.atlas_store.specs.Store.Holdings.{shelf_of}
use Rattle.atlas_store.proofs.StoreLemmas.SlotLists.{free-items, listed-slots}
use Rattle.atlas_store.proofs.StoreLemmas.PickedSlots.{rest-searchable}
use Rattle.atlas_store.proofs.store.Store.fits_at_once.Goals as goal

pub fits_at_once-requires-clause-listed : goal.fits_at_once-requires-clause-listed
fits_at_once-requires-clause-listed g c =
    let v = shelf_of c.args.self.now in
    listed-slots (options_of v.options) c.deref.result.now v.heads
    (rest-searchable v c.requires.rest.0 c.requires.rest.1 c.deref.result.now c.deref.ensures.value)

pub returns : goal.returns
returns g c = λ e free a.
    c.fits_at_once.ensures e free (free-items c.deref.result.now free
    (subst (λ (slots : List Slot). AreFreeBoxes (nodes slots) free) (sym c.deref.ensures.value) a))
