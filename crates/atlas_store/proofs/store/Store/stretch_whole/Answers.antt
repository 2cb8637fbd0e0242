use Rattle.std.proofs.Common.{refl, rules, arith}
use Rattle.atlas_store.specs.Slots.SlotCalls.{KeepGenerations}
use Rattle.atlas_store.specs.Store.Holdings.{shelf_of}
use Rattle.atlas_store.proofs.StoreLemmas.StoreFacts.{are-slots, across-call}
use Rattle.atlas_store.proofs.StoreLemmas.ExtensionSteps.{sides-fit, whole-holds}
use Rattle.atlas_store.proofs.StoreLemmas.StoreSteps.{long-over}
use Rattle.atlas_store.proofs.StoreLemmas.TakenOnce.{once-kept}
use Rattle.atlas_store.proofs.store.Store.stretch_whole.Goals as goal

pub returns : goal.returns
returns g c =
    let slots = are-slots c.args.self.now c.deref_mut.ensures.value c.deref_mut.ensures.len c.stretch_leaf.auto.slots in
    let w = c.stretch_leaf.ensures in
    record {
      kept =
          whole-holds (shelf_of c.args.self.now) c.deref_mut.result.now c.stretch_leaf.new.slots _ c.args.at.number c.args.size slots
          (sides-fit c.args.size (search rules) (search rules)) c.requires.positive w;
      free = grind (arith, across-call);
      slots = long-over _ _ _ _ slots;
      takes = record { options = refl; capacity = refl; turns = refl; once = once-kept (across-call KeepGenerations slots w.generations) };
    }
