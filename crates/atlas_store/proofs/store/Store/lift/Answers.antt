use Rattle.std.proofs.Common.{◌≡◌, ◌∙◌, ap, List, refl, subst, sym, arith}
use Rattle.std.proofs.lemmas.List.{with_items_is}
use Rattle.std.specs.Vec.{with_items}
use Rattle.atlas_store.specs.declared.slots.Slot.{Slot}
use Rattle.atlas_store.specs.declared.slots.Node.{Node}
use Rattle.atlas_store.specs.declared.slots.NodeKind.TheVariants.{Free}
use Rattle.atlas_store.specs.Slots.{nodes, node_at}
use Rattle.atlas_store.specs.Slots.SlotCalls.{IsChildLifted}
use Rattle.atlas_store.specs.Slots.Calm.{IsCalmBut}
use Rattle.atlas_store.specs.Store.Holdings.{shelf_of}
use Rattle.atlas_store.proofs.SlotLemmas.SlotAreas.{free-inside}
use Rattle.atlas_store.proofs.StoreLemmas.StoreSteps.{AreSlots, GivesBack, lifted-holds, over-shelf, long-over}
use Rattle.atlas_store.proofs.store.Store.lift.Given as given
use Rattle.atlas_store.proofs.store.Store.lift.Goals as goal

module _ (g : given.Over) (c : goal.After-self-3-1 g) where
  abbrev own : List Slot
  own = c.args.self.now.slots.items

  abbrev mid : List Slot
  mid = (with_items c.args.self.now.slots c.lift-container.new.slots).items

  abbrev new : List Slot
  new = (with_items (with_items c.args.self.now.slots c.lift-container.new.slots) c.give_back.new.slots).items

  first : AreSlots own c.deref_mut.result.now c.lift-container.new.slots mid
  first = grind (arith, with_items_is)

  last : AreSlots mid c.deref_mut-2.result.now c.give_back.new.slots new
  last =
      grind (
        arith,
        with_items_is (with_items c.args.self.now.slots c.lift-container.new.slots) c.give_back.new.slots
            (c.give_back.auto.slots ∙ c.deref_mut-2.ensures.len),
      )

  lifted : IsChildLifted own mid c.lift-container.result.number c.args.child.number
  lifted = over-shelf (λ old left. IsChildLifted old left c.lift-container.result.number c.args.child.number) _ _ _ _ first
      c.lift-container.ensures.lifted

  back : GivesBack (shelf_of c.args.self.now) mid new c.give_back.new.unused c.args.child.number
  back =
      over-shelf (λ old left. GivesBack (shelf_of c.args.self.now) old left c.give_back.new.unused c.args.child.number) _ _ _ _ last
      (record { same_nodes = c.give_back.ensures.same_nodes; long = c.give_back.auto.slots; filed = c.give_back.ensures.filed })

  abbrev IsFreeIn : List Node → Type 0
  IsFreeIn ns = (node_at ns c.lift-container.result.number).kind ≡ Free

pub give_back-requires : goal.give_back-requires
give_back-requires g c = omega (arith, free-inside c.args.self.now.slots.items c.args.child.number c.requires.ready.1.kind)

pub returns : goal.returns
returns g c = record {
  kept =
      lifted-holds (shelf_of c.args.self.now) (mid g c) (new g c) c.give_back.new.unused c.lift-container.result.number c.args.child.number
      (long-over _ _ _ _ (first g c)) (lifted g c) (back g c);
  calm = λ calm.
      subst (λ (ns : List Node). IsCalmBut ns c.lift-container.result.number) (sym (back g c).same_nodes) ((lifted g c).calm calm);
  parent = c.lift-container.ensures.parent ∙ ap (λ s. (node_at (nodes s) c.args.child.number).parent) c.deref_mut.ensures.value;
  free = subst (IsFreeIn g c) (sym (back g c).same_nodes) (ap (λ n. n.kind) (lifted g c).leaf);
  room = record {
    slots = long-over _ _ _ _ (last g c) ∙ long-over _ _ _ _ (first g c);
    capacity = refl;
    options = refl;
  };
  turns = c.tick.ensures;
}
