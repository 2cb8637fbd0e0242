use Rattle.guillotiere_c.specs.SheetNumbers.{on_page_in, IsPageToldByBit}
use Rattle.guillotiere_c.specs.Writing.{AreFirst, IsWrittenTo}
use Rattle.guillotiere_c.proofs.writing.write_on_pages.Given as goal

abbrev pub invariant-loop-i : goal.invariant-loop-i
invariant-loop-i l = IsWrittenTo on_page_in l.i l.list l.fn.array l.array × AreFirst IsPageToldByBit l.i l.array
