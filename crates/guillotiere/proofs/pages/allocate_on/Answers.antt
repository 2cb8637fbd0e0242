use Rattle.guillotiere.specs.Callers.{IsAnswer}
use Rattle.guillotiere.specs.Reserves.{HasReserve, UsesAtMost}
use Rattle.guillotiere.specs.Stored.{state_of}
use Rattle.guillotiere.proofs.Callers.{page_answers, page_goes, page_is, page_reads, page_stays, page_stays_if_refused}
use Rattle.guillotiere.proofs.pages.allocate_on.Goals as goal

pub returns-clause-adds : goal.returns-clause-adds
returns-clause-adds g c =
    page_answers _ _ c.index-pages-page.result _ c.requires c.allocate.result c.allocate.ensures.exact
    c.allocate.ensures.adds

pub returns-clause-answer : goal.returns-clause-answer
returns-clause-answer g c =
    page_is _ _ c.index-pages-page.result c.allocate.new.self c.requires
    (λ s. IsAnswer (state_of s) c.args.size c.allocate.result) c.allocate.ensures.answer

pub returns-clause-none : goal.returns-clause-none
returns-clause-none g c = λ none.
    page_stays _ _ c.index-pages-page.result _ c.requires (c.allocate.ensures.none none)

pub returns-clause-refused : goal.returns-clause-refused
returns-clause-refused g c =
    page_stays_if_refused _ _ c.index-pages-page.result _ c.requires c.allocate.result c.allocate.ensures.refused

pub returns-clause-slots : goal.returns-clause-slots
returns-clause-slots g c =
    page_goes _ _ c.index-pages-page.result c.allocate.new.self c.requires (UsesAtMost 4) c.allocate.ensures.slots

pub returns-clause-memory : goal.returns-clause-memory
returns-clause-memory g c = λ ready.
    c.allocate.ensures.memory
    (page_reads _ _ c.index-pages-page.result c.allocate.new.self c.requires (HasReserve 4) ready)
