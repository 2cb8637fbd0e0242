use Rattle.atlas_sheet.proofs.packing.first_whole.Goals as goal

pub squeeze-requires-clause-none : goal.squeeze-requires-clause-none
squeeze-requires-clause-none g c = rw c.in-None.is at c.in_ok-found.ensures.none

pub returns-in-Some-clause-arranged : goal.returns-in-Some-clause-arranged
returns-in-Some-clause-arranged g c = rw c.in-Some.is at c.in_ok-found.ensures.arranged

pub returns-in-Some-clause-allowed : goal.returns-in-Some-clause-allowed
returns-in-Some-clause-allowed g c = rw c.in-Some.is at c.in_ok-found.ensures.allowed

pub returns-in-Some-clause-whole : goal.returns-in-Some-clause-whole
returns-in-Some-clause-whole g c = rw c.in-Some.is at c.in_ok-found.ensures.whole

pub returns-in-Some-clause-larger : goal.returns-in-Some-clause-larger
returns-in-Some-clause-larger g c = rw c.in-Some.is at c.in_ok-found.ensures.larger

pub returns-in-Some-clause-first : goal.returns-in-Some-clause-first
returns-in-Some-clause-first g c _ = rw c.in-Some.is at c.in_ok-found.ensures.first
