use Rattle.std.proofs.Common.{◌≡◌, ◌∙◌, ap, ℕ, List, subst, arith}
use Rattle.std.proofs.lemmas.List.{with_items_is}
use Rattle.std.specs.Vec.{with_items}
use Rattle.atlas_store.specs.declared.slots.Slot.{Slot}
use Rattle.atlas_store.specs.Slots.{nodes, node_at}
use Rattle.atlas_store.specs.Slots.SlotCalls.{IsNextJoined}
use Rattle.atlas_store.specs.Store.Holdings.{shelf_of, node_in}
use Rattle.atlas_store.proofs.StoreLemmas.StoreSteps.{AreSlots, GivesBack, joined-holds, over-shelf, long-over}
use Rattle.atlas_store.proofs.store.Store.join.Given as given
use Rattle.atlas_store.proofs.store.Store.join.Goals as goal

module _ (g : given.Over) (c : goal.After-self-3-1 g) where
  abbrev own : List Slot
  own = c.args.self.now.slots.items

  abbrev mid : List Slot
  mid = (with_items c.args.self.now.slots c.join_next-next.new.slots).items

  abbrev new : List Slot
  new = (with_items (with_items c.args.self.now.slots c.join_next-next.new.slots) c.give_back.new.slots).items

  abbrev next : ℕ
  next = (node_in (shelf_of c.args.self.now) c.args.at.number).next.number

  next-is : c.join_next-next.result.number ≡ next
  next-is = ap (λ l. l.number) (c.join_next-next.ensures.next ∙ ap (λ s. (node_at (nodes s) c.args.at.number).next)
      c.deref_mut.ensures.value)

  first : AreSlots own c.deref_mut.result.now c.join_next-next.new.slots mid
  first = grind (arith, with_items_is)

  last : AreSlots mid c.deref_mut-2.result.now c.give_back.new.slots new
  last =
      grind (
        arith,
        with_items_is (with_items c.args.self.now.slots c.join_next-next.new.slots) c.give_back.new.slots
            (c.give_back.auto.slots ∙ c.deref_mut-2.ensures.len),
      )

  joined : IsNextJoined own mid c.args.at.number next
  joined = grind (arith, over-shelf, first, next-is)

  back : GivesBack (shelf_of c.args.self.now) mid new c.give_back.new.unused next
  back =
      subst (λ (j : ℕ). GivesBack (shelf_of c.args.self.now) mid new c.give_back.new.unused j) next-is
      (over-shelf (λ old left. GivesBack (shelf_of c.args.self.now) old left c.give_back.new.unused c.join_next-next.result.number) _ _ _ _
      last
      (record { same_nodes = c.give_back.ensures.same_nodes; long = c.give_back.auto.slots; filed = c.give_back.ensures.filed }))

pub returns : goal.returns
returns g c =
    grind (
      arith,
      joined-holds (shelf_of c.args.self.now) (mid g c) (new g c) c.give_back.new.unused c.args.at.number (next g c),
      long-over,
      first g c,
      joined g c,
      back g c,
      last g c,
    )
