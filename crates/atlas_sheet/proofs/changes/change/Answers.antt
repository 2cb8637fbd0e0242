use Rattle.std.proofs.lemmas.List.Sorted.{IsPermutation-trans}
use Rattle.atlas_sheet.proofs.TurnedSprites.{lie_as_given}
use Rattle.atlas_sheet.proofs.changes.change.Goals as goal

pub returns-in-0-clause-permuted : goal.returns-in-0-clause-permuted
returns-in-0-clause-permuted c = IsPermutation-trans _ _ _ c.requires c.swap_two.ensures

pub returns-in-0-clause-lies : goal.returns-in-0-clause-lies
returns-in-0-clause-lies c = lie_as_given c.args.turn c.args.lying.now

pub returns-in-1-clause-permuted : goal.returns-in-1-clause-permuted
returns-in-1-clause-permuted c = IsPermutation-trans _ _ _ c.requires c.move_one.ensures

pub returns-in-1-clause-lies : goal.returns-in-1-clause-lies
returns-in-1-clause-lies c = lie_as_given c.args.turn c.args.lying.now

pub returns-in-2-clause-permuted : goal.returns-in-2-clause-permuted
returns-in-2-clause-permuted c = IsPermutation-trans _ _ _ c.requires c.turn_run.ensures

pub returns-in-2-clause-lies : goal.returns-in-2-clause-lies
returns-in-2-clause-lies c = lie_as_given c.args.turn c.args.lying.now

pub returns-then-is_empty-clause-lies : goal.returns-then-is_empty-clause-lies
returns-then-is_empty-clause-lies c = lie_as_given c.args.turn c.args.lying.now
