use Rattle.guillotiere_total.proofs.PageAnswers.{page_fault}
use Rattle.guillotiere_total.proofs.pages.allocate_on.Goals as goal

pub returns-in_err-allocate_on-clause-fault : goal.returns-in_err-allocate_on-clause-fault
returns-in_err-allocate_on-clause-fault g c =
    page_fault _ _ _ _ c.if-page-pages.false c.in_err-allocate_on.ensures.answer c.from_residual.result
    c.from_residual.ensures.1
