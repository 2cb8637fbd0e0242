use Rattle.atlas_search.proofs.bands.Scale.new.Goals as goal

pub invariant_of-result : goal.invariant_of-result
invariant_of-result c = (c.borders_for.ensures, c.are_usual.ensures)
