use Rattle.std.proofs.Common.{◌≡◌, ◌≤◌, ◌+◌, drop}
use Rattle.atlas_store.specs.Batches.{AreLiveOnce}
use Rattle.atlas_model.specs.States.{used_in}
use Rattle.atlas_store.specs.Stored.{state_of}
use Rattle.atlas_allocator.proofs.AtlasLemmas.FreedLists.{after_each}
use Rattle.atlas_allocator.proofs.atlas.AtlasAllocator.deallocate_all.Given as goal

abbrev pub invariant-loop-id : goal.invariant-loop-id
invariant-loop-id g l =
    record {
      live : AreLiveOnce (state_of l.self) (drop l.id-index l.ids);
      each : after_each (state_of l.self) (drop l.id-index l.ids) ≡ after_each (state_of l.fn.self) l.ids;
      turns : l.self.turns + used_in (state_of l.self) ≡ l.fn.self.turns + l.id-index + used_in (state_of l.fn.self);
      none : l.id-index ≡ 0 → l.self ≡ l.fn.self;
      capacity : l.fn.self.capacity ≤ l.self.capacity;
    }
