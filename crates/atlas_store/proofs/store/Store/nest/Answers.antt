use Rattle.std.proofs.Common.{◌≡◌, refl, sym, subst, arith, ap, length, rules, [], ◌∷◌}
use Rattle.std.specs.Vec.{with_items}
use Rattle.atlas_store.specs.declared.slots.NodeKind.TheVariants.{Free}
use Rattle.atlas_model.specs.Pixels.{sides_of}
use Rattle.atlas_store.specs.Slots.{nodes, node_at}
use Rattle.atlas_store.specs.Slots.Growing.{after_nest}
use Rattle.atlas_store.specs.Slots.SlotCalls.{CanNestTop, KeepGenerations}
use Rattle.atlas_store.specs.Store.Holdings.{shelf_of}
use Rattle.atlas_store.specs.Store.TopCalls.{IsNestable}
use Rattle.atlas_store.proofs.StoreLemmas.StoreFacts.{are-slots, across-call, slots-room}
use Rattle.atlas_store.proofs.StoreLemmas.StoreTakes.{one-taken, two-taken, ready-taken, takes-slots}
use Rattle.atlas_store.proofs.StoreLemmas.ExtensionSteps.{sides-fit, can-nest, nested-holds}
use Rattle.atlas_store.proofs.StoreLemmas.TakenOnce.{once-kept, only-takes}
use Rattle.atlas_store.proofs.store.Store.nest.Goals as goal

pub take-container-requires : goal.take-container-requires
take-container-requires g c =
    let r : _ = c.requires.ready in
    ready-taken 2 (one-taken 1 r.0 r.2.holds r.3 c.take-strip.ensures) (omega arith) r.0 r.2.holds r.3

pub nest_top-requires-clause-ready : goal.nest_top-requires-clause-ready
nest_top-requires-clause-ready g c =
    let r : _ = c.requires.ready in
    let took = two-taken r.0 r.2.holds r.3 c.take-strip.ensures c.take-container.ensures in
    subst (λ s. CanNestTop (nodes s) c.args.first.number c.take-container.result.number c.take-strip.result.number)
    (sym c.deref_mut.ensures.value)
    (can-nest took (sides_of c.args.inner) (sides_of c.args.size) c.args.first.number r.1 r.0 r.2 r.3)

pub nest_top-requires-clause-short : goal.nest_top-requires-clause-short
nest_top-requires-clause-short g c =
    let r : _ = c.requires.ready in
    let took = two-taken r.0 r.2.holds r.3 c.take-strip.ensures c.take-container.ensures in
    omega (arith, (took.taken r.0 0 r.2.holds r.3).1.short, ap (λ s. length s) c.deref_mut.ensures.value)

pub returns : goal.returns
returns g c =
    let r : _ = c.requires.ready in
    let old = c.args.self.now in
    let mid = c.take-container.new.self in
    let new = record mid { slots = with_items mid.slots c.nest_top.new.slots } in
    let first = c.args.first.number in
    let w = c.take-container.result.number in
    let k = c.take-strip.result.number in
    let inner = c.args.inner in
    let size = c.args.size in
    let fit = sides-fit size (search rules) (search rules) in
    let took = two-taken r.0 r.2.holds r.3 c.take-strip.ensures c.take-container.ensures in
    let can = can-nest took (sides_of inner) (sides_of size) first r.1 r.0 r.2 r.3 in
    let slots = are-slots mid c.deref_mut.ensures.value c.deref_mut.ensures.len c.nest_top.auto.slots in
    let room = slots-room mid new slots refl refl in
    let kept = across-call KeepGenerations slots c.nest_top.ensures.generations in
    record {
      kept = λ d. takes-slots old mid new (w ∷ k ∷ [])
          (IsNestable (shelf_of old) (sides_of inner) (sides_of size) first d) (after_nest w k d) took room
          (λ h ready. ready.holds)
          (λ h unused_list. nested-holds took _ _ _ first inner size slots fit can c.nest_top.ensures h unused_list d);
      free = across-call (λ a b. (node_at (nodes b) k).kind ≡ Free) slots c.nest_top.ensures.free;
      takes = only-takes took.takes (record { options = refl; capacity = refl; turns = refl; once = once-kept kept });
    }
