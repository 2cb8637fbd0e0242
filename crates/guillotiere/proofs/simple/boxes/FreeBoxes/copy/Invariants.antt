use Rattle.std.proofs.Common.{◌≡◌, take, vec_capacity}
use Rattle.guillotiere.proofs.simple.boxes.FreeBoxes.copy.Given as goal

abbrev pub invariant-loop-entry : goal.invariant-loop-entry
invariant-loop-entry g l =
    record {
      items : l.entries.items ≡ take l.entry-index l.self.entries.items;
      capacity : vec_capacity l.entries ≡ vec_capacity l.self.entries;
    }
