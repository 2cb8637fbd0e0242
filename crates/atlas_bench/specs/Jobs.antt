-- The lines that spell jobs.
use Rattle.std.specs.Prelude.{◌≡◌, ℕ, ◌≤◌, List, [], ◌∷◌, ◌++◌}
use Rattle.atlas_words.specs.Grammar.{SpellsUnsigned}
use Rattle.atlas_words.specs.Lines.{BeginsWithLine}
use Rattle.atlas_bench.specs.declared.workload.Job.{Job}
use Rattle.atlas_bench.specs.Names.{name, most_size}

-- A line, without its LF, spells this job: the name, one space, and the size in decimal digits.
pub record SpellsJob (job : Job) (line : List ℕ) : Type 0 where
  pub digits : List ℕ
  pub words : line ≡ name job.workload ++ 32 ∷ digits
  pub size : SpellsUnsigned job.size digits
  pub least : 1 ≤ job.size
  pub most : job.size ≤ most_size job.workload

-- These bytes are lines that spell these jobs, one each, in order.
abbrev pub SpellsJobs : List Job → List ℕ → Type 0
SpellsJobs [] text = text ≡ []
SpellsJobs (job ∷ jobs) text =
    (line : List ℕ) × (rest : List ℕ) × BeginsWithLine text line rest × SpellsJob job line × SpellsJobs jobs rest
