use Rattle.std.proofs.Common.{◌≡◌, ◌≤◌, ◌+◌, ◌*◌}
use Rattle.guillotiere.specs.Refits.Refitted.{IsRefitting}
use Rattle.guillotiere.specs.States.{used_in}
use Rattle.guillotiere.specs.Stored.{state_of}
use Rattle.atlas_cache.proofs.rooms.repacking.place_all.Given as goal

abbrev pub invariant-loop-at : goal.invariant-loop-at
invariant-loop-at g l =
    record {
      refits : IsRefitting (state_of l.fn.atlas) l.fn.order.items (state_of l.atlas) l.at l.failed l.changes.items l.failures.items;
      used : used_in (state_of l.atlas) ≤ used_in (state_of l.fn.atlas) + 4 * l.at;
      limit : (state_of l.atlas).limit ≡ (state_of l.fn.atlas).limit;
    }
