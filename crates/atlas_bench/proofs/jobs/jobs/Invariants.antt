use Rattle.std.proofs.Common.{List, ◌++◌, length}
use Rattle.atlas_bench.specs.declared.workload.Job.{Job}
use Rattle.atlas_bench.specs.Jobs.{SpellsJobs}
use Rattle.atlas_bench.proofs.jobs.jobs.Given as goal

abbrev pub invariant-loop-rest : goal.invariant-loop-rest
invariant-loop-rest l = record {
  found : (more : List Job) → SpellsJobs more l.rest → SpellsJobs (l.jobs.items ++ more) l.text;
  only : (all : List Job) → SpellsJobs all l.text → (more : List Job) × SpellsJobs more l.rest;
}

abbrev pub decreases-loop-rest : goal.decreases-loop-rest
decreases-loop-rest l = length l.rest
