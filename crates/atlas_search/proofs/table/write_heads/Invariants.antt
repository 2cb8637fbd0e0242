use Rattle.std.proofs.Common.{◌≡◌, ◌≤◌, drop}
use Rattle.atlas_search.specs.Tables.{heads_from, IsTable}
use Rattle.atlas_search.proofs.table.write_heads.Given as goal

abbrev pub invariant-loop-i : goal.invariant-loop-i
invariant-loop-i g l = (l.i ≤ 8) × (l.heads.items ≡ heads_from (drop l.i l.only) l.i) × IsTable l.heads.items l.marks 2704

abbrev pub decreases-loop-i : goal.decreases-loop-i
decreases-loop-i g l = l.i
