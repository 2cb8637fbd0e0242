-- The lines that report jobs.
use Rattle.std.specs.Prelude.{◌≡◌, ℕ, Option, List, [], ◌∷◌, ◌++◌, codes, decimal}
use Rattle.std.specs.Io.KnownBytes.{Appends}
use Rattle.atlas_words.specs.Devices.{HoldsBytes}
use Rattle.atlas_bench.specs.declared.answers.Answers.{Answers}
use Rattle.atlas_bench.specs.declared.workload.Job.{Job}
use Rattle.atlas_bench.specs.declared.workload.Workload.{Workload}
use Rattle.atlas_bench.specs.Jobs.{SpellsJobs}
use Rattle.atlas_bench.specs.Names.{name}
use Rattle.atlas_bench.specs.Workloads.{Makes}

-- The name, the calls and the checksum, each after one space, and LF.
abbrev pub report_text : Workload → Answers → List ℕ
report_text workload answers =
    name workload ++ (codes " " ++ (decimal answers.calls ++ (codes " " ++ (decimal answers.checksum ++ codes "\n"))))

-- This text reports these jobs, one line each, in order.
abbrev pub Reports : List Job → List ℕ → Type 0
Reports [] text = text ≡ []
Reports (job ∷ jobs) text =
    (answers : Answers) × (rest : List ℕ) × Makes job.workload job.size answers.calls
    × (text ≡ report_text job.workload answers ++ rest) × Reports jobs rest

-- The lines that were read spell jobs, and the lines that were written report them.
pub record RunsAll (in_old out_old out_new : Option (List ℕ)) : Type 0 where
  pub input : List ℕ
  pub jobs : List Job
  pub text : List ℕ
  pub read : HoldsBytes in_old input
  pub spelled : SpellsJobs jobs input
  pub reported : Reports jobs text
  pub written : Appends out_old out_new text
