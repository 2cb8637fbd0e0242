use Rattle.atlas_bench.proofs.Reports.{HasReported}
use Rattle.atlas_bench.proofs.run.run.Given as goal

abbrev pub invariant-loop-job : goal.invariant-loop-job
invariant-loop-job g l = HasReported l.job-items l.job-index (g.W.Write.contents l.fn.output) (g.W.Write.contents l.output)
