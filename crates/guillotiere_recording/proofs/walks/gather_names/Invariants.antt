use Rattle.std.proofs.Common.{◌≡◌, map, take}
use Rattle.guillotiere.specs.Stored.{state_of}
use Rattle.guillotiere_recording.specs.Names.{shown}
use Rattle.guillotiere_recording.proofs.walks.gather_names.Given as goal

abbrev pub invariant-loop-entry : goal.invariant-loop-entry
invariant-loop-entry g l = l.found.items ≡ map (shown (state_of l.fn.atlas)) (take l.entry-index l.names)
