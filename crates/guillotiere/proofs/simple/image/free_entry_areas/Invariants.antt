use Rattle.std.proofs.Common.{◌≡◌, take}
use Rattle.guillotiere.specs.FreeBoxes.FreeEntries.{free_entry_areas}
use Rattle.guillotiere.proofs.simple.image.free_entry_areas.Given as goal

abbrev pub invariant-loop-entry : goal.invariant-loop-entry
invariant-loop-entry g l = l.areas.items ≡ free_entry_areas (take l.entry-index l.entries)
