use Rattle.std.proofs.Common.{◌≡◌, ◌≤◌, List, length, take}
use Rattle.atlas_store.specs.declared.slots.Node.{Node}
use Rattle.atlas_store.specs.Slots.{nodes, rings}
use Rattle.atlas_store.specs.Batches.{AreHidable, hidden}
use Rattle.atlas_store.proofs.slots.batch.show.Given as goal

abbrev pub invariant-loop-left : goal.invariant-loop-left
invariant-loop-left l =
    record {
      shown : (ns : List Node) → nodes l.fn.slots ≡ hidden ns l.ids → AreHidable ns l.ids
          → nodes l.slots ≡ hidden ns (take l.left l.ids);
      same_rings : rings l.slots ≡ rings l.fn.slots;
      most : l.left ≤ length l.ids;
    }

abbrev pub decreases-loop-left : goal.decreases-loop-left
decreases-loop-left l = l.left
