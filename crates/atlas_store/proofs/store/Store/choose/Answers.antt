use Rattle.std.proofs.Common.{List, subst, sym}
use Rattle.atlas_model.specs.Pixels.{options_of, sides_of}
use Rattle.atlas_store.specs.declared.slots.Slot.{Slot}
use Rattle.atlas_store.specs.Slots.Picks.{AreFreeBoxes}
use Rattle.atlas_store.specs.Slots.{nodes}
use Rattle.atlas_store.specs.Store.Holdings.{shelf_of}
use Rattle.atlas_store.proofs.StoreLemmas.SlotLists.{IfSome_both, free-items, listed-slots}
use Rattle.atlas_store.proofs.StoreLemmas.PickedSlots.{chosen-found, rest-searchable}
use Rattle.atlas_store.proofs.store.Store.choose.Goals as goal

pub pick-requires-clause-listed : goal.pick-requires-clause-listed
pick-requires-clause-listed g c =
    let v = shelf_of c.args.self.now in
    listed-slots (options_of v.options) c.deref.result.now v.heads
    (rest-searchable v c.requires.rest.0 c.requires.rest.1 c.deref.result.now c.deref.ensures.value)

pub returns-clause-none : goal.returns-clause-none
returns-clause-none g c =
    λ e free a.
    let here = subst (λ (slots : List Slot). AreFreeBoxes (nodes slots) free) (sym c.deref.ensures.value) a in
    c.pick.ensures.none e free (free-items c.deref.result.now free here)

pub returns-clause-some : goal.returns-clause-some
returns-clause-some g c =
    IfSome_both c.pick.result c.pick.ensures.picked c.pick.ensures.standing
    (chosen-found (shelf_of c.args.self.now) (sides_of c.args.size) c.deref.result.now c.deref.ensures.value)
