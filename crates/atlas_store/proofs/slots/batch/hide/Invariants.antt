use Rattle.std.proofs.Common.{◌≡◌, take}
use Rattle.atlas_store.specs.Slots.{nodes, rings}
use Rattle.atlas_store.specs.Batches.{AreHidable, hidden}
use Rattle.atlas_store.proofs.slots.batch.hide.Given as goal

abbrev pub invariant-loop-count : goal.invariant-loop-count
invariant-loop-count l =
    record {
      written : nodes l.slots ≡ hidden (nodes l.fn.slots) (take l.count l.ids);
      named : AreHidable (nodes l.fn.slots) (take l.count l.ids);
      same_rings : rings l.slots ≡ rings l.fn.slots;
    }
