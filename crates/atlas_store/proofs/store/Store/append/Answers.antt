use Rattle.std.proofs.Common.{◌≡◌, refl, sym, subst, arith, ap, length, rules, [], ◌∷◌}
use Rattle.std.specs.Vec.{with_items}
use Rattle.atlas_store.specs.declared.slots.NodeKind.TheVariants.{Free}
use Rattle.atlas_model.specs.Pixels.{sides_of}
use Rattle.atlas_store.specs.Slots.{nodes, node_at}
use Rattle.atlas_store.specs.Slots.Growing.{after_append}
use Rattle.atlas_store.specs.Slots.SlotCalls.{CanAppendTo, KeepGenerations}
use Rattle.atlas_store.specs.Store.Holdings.{shelf_of}
use Rattle.atlas_store.specs.Store.TopCalls.{IsExtendable}
use Rattle.atlas_store.proofs.StoreLemmas.StoreFacts.{are-slots, across-call, slots-room}
use Rattle.atlas_store.proofs.StoreLemmas.StoreTakes.{one-taken, takes-slots}
use Rattle.atlas_store.proofs.StoreLemmas.ExtensionSteps.{sides-fit, can-append, appended-holds}
use Rattle.atlas_store.proofs.StoreLemmas.TakenOnce.{once-kept, only-takes}
use Rattle.atlas_store.proofs.store.Store.append.Goals as goal

pub append_leaf-requires-clause-ready : goal.append_leaf-requires-clause-ready
append_leaf-requires-clause-ready g c =
    let r : _ = c.requires.ready in
    let took = one-taken 0 r.0 r.2.holds r.3 c.take-fresh.ensures in
    subst (λ s. CanAppendTo (nodes s) c.args.last.number c.take-fresh.result.number) (sym c.deref_mut.ensures.value)
    (can-append took (sides_of c.args.size) c.args.last.number r.1 r.0 r.2 r.3)

pub append_leaf-requires-clause-short : goal.append_leaf-requires-clause-short
append_leaf-requires-clause-short g c =
    let r : _ = c.requires.ready in
    let held = c.take-fresh.ensures.taken r.0 (λ i. 0) r.2.holds in
    omega (arith, held.short, ap (λ s. length s) c.deref_mut.ensures.value)

pub returns : goal.returns
returns g c =
    let r : _ = c.requires.ready in
    let old = c.args.self.now in
    let mid = c.take-fresh.new.self in
    let new = record mid { slots = with_items mid.slots c.append_leaf.new.slots } in
    let last = c.args.last.number in
    let k = c.take-fresh.result.number in
    let size = c.args.size in
    let fit = sides-fit size (search rules) (search rules) in
    let took = one-taken 0 r.0 r.2.holds r.3 c.take-fresh.ensures in
    let slots = are-slots mid c.deref_mut.ensures.value c.deref_mut.ensures.len c.append_leaf.auto.slots in
    let room = slots-room mid new slots refl refl in
    let kept = across-call KeepGenerations slots c.append_leaf.ensures.generations in
    record {
      kept = λ d. takes-slots old mid new (k ∷ []) (IsExtendable (shelf_of old) (sides_of size) last d)
          (after_append k d) took room (λ h ready. ready.holds)
          (λ h unused_list. appended-holds took _ _ _ last size slots fit c.append_leaf.ensures h unused_list d);
      free = across-call (λ a b. (node_at (nodes b) k).kind ≡ Free) slots c.append_leaf.ensures.free;
      takes = only-takes took.takes (record { options = refl; capacity = refl; turns = refl; once = once-kept kept });
    }
