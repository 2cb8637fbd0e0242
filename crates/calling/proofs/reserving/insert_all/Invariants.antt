use Rattle.std.proofs.Common.{◌-◌, length}
use Rattle.atlas_cache.specs.Reserving.{room_in, IsReadyFor}
use Rattle.calling.proofs.reserving.insert_all.Given as goal

abbrev pub invariant-loop-key : goal.invariant-loop-key
invariant-loop-key g l = IsReadyFor (length l.keys - l.key-index) (room_in l.changes) l.cache
