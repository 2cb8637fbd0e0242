use Rattle.std.proofs.Common.{sym, ◌∙◌}
use Rattle.atlas_search.proofs.SearchLemmas.Cells.{step-128, step-16, step-256, step-64, step-more}
use Rattle.atlas_search.proofs.cells.step_around.Goals as goal

pub returns-then-side-lt16-clause-first : goal.returns-then-side-lt16-clause-first
returns-then-side-lt16-clause-first c = sym (step-16 c.args.side c.if-side-lt16.true).0

pub returns-then-side-lt16-clause-end : goal.returns-then-side-lt16-clause-end
returns-then-side-lt16-clause-end c = sym (step-16 c.args.side c.if-side-lt16.true).1

pub returns-then-side-lt64-clause-first : goal.returns-then-side-lt64-clause-first
returns-then-side-lt64-clause-first c = c.step_from.ensures.first ∙ sym (step-64 c.args.side c.if-side-lt16.false c.if-side-lt64.true).0

pub returns-then-side-lt64-clause-end : goal.returns-then-side-lt64-clause-end
returns-then-side-lt64-clause-end c = c.step_from.ensures.end ∙ sym (step-64 c.args.side c.if-side-lt16.false c.if-side-lt64.true).1

pub returns-then-side-lt128-clause-first : goal.returns-then-side-lt128-clause-first
returns-then-side-lt128-clause-first c = c.step_from-then-side-lt128.ensures.first ∙
    sym (step-128 c.args.side c.if-side-lt64.false c.if-side-lt128.true).0

pub returns-then-side-lt128-clause-end : goal.returns-then-side-lt128-clause-end
returns-then-side-lt128-clause-end c = c.step_from-then-side-lt128.ensures.end ∙
    sym (step-128 c.args.side c.if-side-lt64.false c.if-side-lt128.true).1

pub returns-then-side-lt256-clause-first : goal.returns-then-side-lt256-clause-first
returns-then-side-lt256-clause-first c = c.step_from-then-side-lt256.ensures.first ∙
    sym (step-256 c.args.side c.if-side-lt128.false c.if-side-lt256.true).0

pub returns-then-side-lt256-clause-end : goal.returns-then-side-lt256-clause-end
returns-then-side-lt256-clause-end c = c.step_from-then-side-lt256.ensures.end ∙
    sym (step-256 c.args.side c.if-side-lt128.false c.if-side-lt256.true).1

pub returns-else-side-lt256-clause-first : goal.returns-else-side-lt256-clause-first
returns-else-side-lt256-clause-first c = sym (step-more c.args.side c.if-side-lt256.false).0

pub returns-else-side-lt256-clause-end : goal.returns-else-side-lt256-clause-end
returns-else-side-lt256-clause-end c = sym (step-more c.args.side c.if-side-lt256.false).1
