use Rattle.guillotiere.proofs.simple.keep.Goals as goal

pub is_kept-requires-clause-valid : goal.is_kept-requires-clause-valid
is_kept-requires-clause-valid g c = c.requires.kept.listed.valid
