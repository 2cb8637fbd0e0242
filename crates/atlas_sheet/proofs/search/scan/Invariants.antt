use Rattle.std.proofs.Common.{map}
use Rattle.atlas_sheet.proofs.Powers.{FailsUpTo}
use Rattle.atlas_sheet.proofs.search.scan.Given as goal

abbrev pub invariant-loop-sum : goal.invariant-loop-sum
invariant-loop-sum g l = FailsUpTo (map (λ t. t.way) l.trials) l.most l.spacing l.sprites l.sum
