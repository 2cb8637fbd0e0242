use Rattle.std.proofs.Common.{◌+◌, ap, sym, ◌∙◌, arith, drop}
use Rattle.atlas_store.specs.Stored.{state_of}
use Rattle.atlas_allocator.proofs.AtlasLemmas.FreedLists.{after_each, each-all, once-after, head-live, each-next, each-none}
use Rattle.atlas_model.proofs.StepLemmas.CallerSteps.{batch_leaves}
use Rattle.atlas_allocator.proofs.AtlasLemmas.Reserves.{freeing-few}
use Rattle.atlas_model.proofs.StepLemmas.CallerGrants.{freeing_frame, freeing_kept}
use Rattle.atlas_allocator.proofs.atlas.AtlasAllocator.deallocate_all.Goals as goal

pub loop-id-init : goal.loop-id-init
loop-id-init g c = grind (arith, after_each)

pub free-requires : goal.free-requires
free-requires g c =
    (head-live (state_of c.loop-id.self) c.args.ids.now c.loop-id.id-index c.id-item.result c.loop-id-test.true c.id-item.is
    c.loop-id.invariant.live).0

pub loop-id-preserved : goal.loop-id-preserved
loop-id-preserved g c =
    let i = c.loop-id.invariant in
    let s = state_of c.loop-id.self in
    let head = head-live (state_of c.loop-id.self) c.args.ids.now c.loop-id.id-index c.id-item.result c.loop-id-test.true c.id-item.is
    c.loop-id.invariant.live in
    let is = c.free.ensures.state in
    record {
      live = rw is (once-after s c.id-item.result _ head.2 head.1);
      each = ap (λ v. after_each v (drop (c.loop-id.id-index + 1) c.args.ids.now)) is ∙
          sym (each-next s c.args.ids.now c.loop-id.id-index c.id-item.result c.loop-id-test.true c.id-item.is) ∙ i.each;
      turns = omega (arith, i.turns, c.free.ensures.turns);
      none = λ z. absurd (omega arith);
      capacity = omega (arith, i.capacity, c.free.ensures.slots.capacity);
    }

pub returns-clause-freed : goal.returns-clause-freed
returns-clause-freed g c = grind (arith, each-none, each-all)

pub returns-clause-none : goal.returns-clause-none
returns-clause-none g c = grind arith

pub returns-clause-turns : goal.returns-clause-turns
returns-clause-turns g c = omega (arith, c.loop-id.invariant.turns, c.loop-id.auto.id-index-end)

pub returns-clause-leaves : goal.returns-clause-leaves
returns-clause-leaves g c =
    batch_leaves (state_of c.args.self.now) (state_of c.loop-id.self) c.args.ids.now c.are_live_once.ensures.sound
    (returns-clause-freed g c)

pub returns-clause-sound : goal.returns-clause-sound
returns-clause-sound g c = (returns-clause-leaves g c).sound

pub returns-clause-slots : goal.returns-clause-slots
returns-clause-slots g c = record {
  used = freeing-few _ _ _ (returns-clause-freed g c);
  capacity = c.loop-id.invariant.capacity;
}

pub returns-clause-frame : goal.returns-clause-frame
returns-clause-frame g c =
    freeing_frame (state_of c.args.self.now) (state_of c.loop-id.self) _ (returns-clause-freed g c)

pub returns-clause-kept : goal.returns-clause-kept
returns-clause-kept g c =
    freeing_kept (state_of c.args.self.now) (state_of c.loop-id.self) _ c.are_live_once.ensures.sound
    (returns-clause-freed g c)
