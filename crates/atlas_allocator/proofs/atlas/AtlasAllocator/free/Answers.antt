use Rattle.std.proofs.Common.{◌-◌, ◌∙◌, subst, sym, ap, arith}
use Rattle.atlas_model.specs.Changes.{only}
use Rattle.atlas_model.specs.States.{IsLive, after_freeing}
use Rattle.atlas_store.specs.Store.Holdings.{shelf_of}
use Rattle.atlas_store.specs.Stored.{state_of}
use Rattle.atlas_store.proofs.WalkLemmas.FreedAtlas.{freeable, frees-box, turns-sum}
use Rattle.atlas_allocator.proofs.AtlasLemmas.Reserves.{freeing-few}
use Rattle.atlas_allocator.proofs.atlas.AtlasAllocator.free.Goals as goal

pub free_leaf-given-requires : goal.free_leaf-given-requires
free_leaf-given-requires g c =
    let live = subst (λ w. IsLive (state_of w) c.args.id) (sym c.self.view_is) c.requires in
    (_, freeable _ c.self.invariant c.args.id c.slot_number-number.result c.slot_number-number.ensures live)

pub overflow_sub-self : goal.overflow_sub-self
overflow_sub-self g c =
    let live = subst (λ w. IsLive (state_of w) c.args.id) (sym c.self.view_is) c.requires in
    let call = c.free_leaf-given in
    (frees-box _ c.self.invariant (shelf_of call.new.store) c.args.id _ _ live c.slot_number-number.ensures call.ensures.freed
    call.ensures.room.slots call.ensures.room.options).few

pub invariant_of-self : goal.invariant_of-self
invariant_of-self g c =
    let live = subst (λ w. IsLive (state_of w) c.args.id) (sym c.self.view_is) c.requires in
    let call = c.free_leaf-given in
    (frees-box _ c.self.invariant (shelf_of call.new.store) c.args.id _ _ live c.slot_number-number.ensures call.ensures.freed
    call.ensures.room.slots call.ensures.room.options).atlas

pub returns-clause-state : goal.returns-clause-state
returns-clause-state g c =
    let live = subst (λ w. IsLive (state_of w) c.args.id) (sym c.self.view_is) c.requires in
    let call = c.free_leaf-given in
    (frees-box _ c.self.invariant (shelf_of call.new.store) c.args.id _ _ live c.slot_number-number.ensures call.ensures.freed
    call.ensures.room.slots call.ensures.room.options).state (c.self.inside.used - call.result) call.new.store.turns.count
    c.self.inside.store.turns.count
    ∙ ap (λ w. after_freeing (state_of w) (only c.args.id)) c.self.view_is

pub returns-clause-turns : goal.returns-clause-turns
returns-clause-turns g c =
    let live = subst (λ w. IsLive (state_of w) c.args.id) (sym c.self.view_is) c.requires in
    let call = c.free_leaf-given in
    let box = frees-box _ c.self.invariant (shelf_of call.new.store) c.args.id _ _ live c.slot_number-number.ensures call.ensures.freed
    call.ensures.room.slots call.ensures.room.options in
    rw (← c.self.view_is)
    (turns-sum call.new.store.turns.count c.self.inside.store.turns.count call.result _ _ call.ensures.turns
    (box.used (c.self.inside.used - call.result) call.new.store.turns.count c.self.inside.store.turns.count))

pub returns-clause-slots : goal.returns-clause-slots
returns-clause-slots g c = record {
  used = freeing-few _ _ (only c.args.id) (returns-clause-state g c);
  capacity = omega (arith, ap (λ v. v.capacity) c.self.view_is, c.free_leaf-given.ensures.room.capacity);
}
