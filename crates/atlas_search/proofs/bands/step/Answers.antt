use Rattle.std.proofs.Common.{◌≤◌, ◌∙◌, ap, subst, sym, get_or}
use Rattle.atlas_search.specs.declared.bands.TheConstants.{STEPS}
use Rattle.atlas_search.proofs.SearchLemmas.BandSteps.{step_is, step_of-most}
use Rattle.atlas_search.proofs.bands.step.Goals as goal

pub returns-clause-step : goal.returns-clause-step
returns-clause-step c = ap (λ i. get_or STEPS i 0) c.min.ensures ∙ step_is c.args.side

pub returns-clause-most : goal.returns-clause-most
returns-clause-most c = subst (λ x. x ≤ 49) (sym (ap (λ i. get_or STEPS i 0) c.min.ensures ∙ step_is c.args.side))
    (step_of-most c.args.side)
