use Rattle.std.proofs.Common.{◌≡◌, ◌∷◌, rules, subst, sym}
use Rattle.atlas_words.specs.Grammar.{SpellsUnsigned}
use Rattle.atlas_bench.proofs.Names.{name_first}
use Rattle.atlas_bench.proofs.jobs.parse_line.Goals as goal

pub returns-in_err-workload-clause-only : goal.returns-in_err-workload-clause-only
returns-in_err-workload-clause-only c job spells =
    let first = name_first job.workload _ _ _ spells.digits c.first_word.ensures spells.words in
    let found = c.in_err-workload.ensures.only job.workload first.0 in
    absurd (cc)

pub returns-clause-only : goal.returns-clause-only
returns-clause-only c job spells =
    let first = name_first job.workload _ _ _ spells.digits c.first_word.ensures spells.words in
    let found = c.in_ok-workload.ensures.only job.workload first.0 in
    let parts : c.first_word.result.1.now ≡ c.in_ok-digits.field-0-0.now ∷ c.in_ok-digits.digits.now = search rules in
    let rest = first.1 in
    let digits : c.in_ok-digits.digits.now ≡ spells.digits = cc in
    let size = c.in_ok-size.ensures.only job.size (subst (SpellsUnsigned job.size) (sym digits) spells.size) in
    (cc, cc)
