use Rattle.guillotiere_c.specs.SheetNumbers.{placed_in, IsToldByBit}
use Rattle.guillotiere_c.specs.Writing.{AreFirst, IsWrittenTo}
use Rattle.guillotiere_c.proofs.writing.write_placed.Given as goal

abbrev pub invariant-loop-i : goal.invariant-loop-i
invariant-loop-i l = IsWrittenTo placed_in l.i l.list l.fn.array l.array × AreFirst IsToldByBit l.i l.array
