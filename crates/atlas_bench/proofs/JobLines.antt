-- Lines that spell jobs, one after another.
use Rattle.std.proofs.Common.{ℕ, ◌≢◌, List, [], ◌∷◌, subst}
use Rattle.atlas_words.specs.Lines.{BeginsWithLine}
use Rattle.atlas_words.proofs.FirstLines.{one_first_line}
use Rattle.atlas_bench.specs.declared.workload.Job.{Job}
use Rattle.atlas_bench.specs.Jobs.{SpellsJob, SpellsJobs}

-- A text that spells jobs has a first line that spells the first one.
pub next_spelled : (all : List Job) (text line rest : List ℕ) → SpellsJobs all text → text ≢ []
    → BeginsWithLine text line rest → (job : Job) × (others : List Job) × SpellsJob job line × SpellsJobs others rest
next_spelled [] text line rest spells some begins = absurd (some spells)
next_spelled (job ∷ others) text line rest spells some begins =
    let same = one_first_line text spells.0 spells.1 line rest spells.2 begins in
    (job, others, subst (SpellsJob job) same.0 spells.3, subst (SpellsJobs others) same.1 spells.4)
