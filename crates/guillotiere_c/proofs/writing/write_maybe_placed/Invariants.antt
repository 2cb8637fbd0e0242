use Rattle.guillotiere_c.specs.SheetNumbers.{maybe_placed_in, IsMaybeToldByBit}
use Rattle.guillotiere_c.specs.Writing.{AreFirst, IsWrittenTo}
use Rattle.guillotiere_c.proofs.writing.write_maybe_placed.Given as goal

abbrev pub invariant-loop-i : goal.invariant-loop-i
invariant-loop-i l = IsWrittenTo maybe_placed_in l.i l.list l.fn.array l.array × AreFirst IsMaybeToldByBit l.i l.array
