use Rattle.std.proofs.Common.{◌≡◌, ◌≢◌, [], ◌∷◌, ◌++◌, length, append-nil, append_assoc, rules, ap, sym, subst, ◌∙◌, List}
use Rattle.std.proofs.lemmas.List.{nil_from_length}
use Rattle.atlas_bench.specs.declared.workload.Job.{Job}
use Rattle.atlas_bench.specs.Jobs.{SpellsJobs}
use Rattle.atlas_words.proofs.FirstLines.{rest_shorter}
use Rattle.atlas_bench.proofs.JobLines.{next_spelled}
use Rattle.atlas_bench.proofs.jobs.jobs.Goals as goal

pub returns-clause-found : goal.returns-clause-found
returns-clause-found c =
    let end : c.loop-rest.rest.now ≡ [] = nil_from_length _ (search rules) in
    let whole = c.loop-rest.invariant.found [] end in
    rw append-nil at whole

pub returns-in_default-clause-bad : goal.returns-in_default-clause-bad
returns-in_default-clause-bad c n all e spells =
    let some : c.loop-rest.rest.now ≢ [] = (λ f. let none : length c.loop-rest.rest.now ≡ 0 = ap length f in absurd (search rules)) in
    let more = c.loop-rest.invariant.only all spells in
    let next = next_spelled more.0 _ _ _ more.1 some c.first_line.ensures in
    let found = c.in_default.ensures.only next.0 next.2 in
    absurd found

pub loop-rest-smaller : goal.loop-rest-smaller
loop-rest-smaller c =
    let some : c.loop-rest.rest.now ≢ [] = (λ f. let none : length c.loop-rest.rest.now ≡ 0 = ap length f in absurd (search rules)) in
    rest_shorter _ _ _ some c.first_line.ensures

pub loop-rest-preserved : goal.loop-rest-preserved
loop-rest-preserved c =
    let some : c.loop-rest.rest.now ≢ [] = (λ f. let none : length c.loop-rest.rest.now ≡ 0 = ap length f in absurd (search rules)) in
    let pushed : c.push.new.self.items ≡ c.loop-rest.jobs.items ++ c.in-Some.job ∷ [] = search rules in
    record {
      found = λ more spells.
          let whole = c.loop-rest.invariant.found (c.in-Some.job ∷ more) (_, _, c.first_line.ensures, c.in-Some.ensures.found, spells) in
          let same = ap (λ (js : List Job). js ++ more) pushed ∙ append_assoc c.loop-rest.jobs.items (c.in-Some.job ∷ []) more in
          subst (λ (js : List Job). SpellsJobs js c.args.text.now) (sym same) whole;
      only = λ all spells.
          let more = c.loop-rest.invariant.only all spells in
          let next = next_spelled more.0 _ _ _ more.1 some c.first_line.ensures in
          (next.1, next.3);
    }
