use Rattle.atlas_search.proofs.best.Best.new.Goals as goal

pub invariant_of-result-clause-positive : goal.invariant_of-result-clause-positive
invariant_of-result-clause-positive c = c.requires
