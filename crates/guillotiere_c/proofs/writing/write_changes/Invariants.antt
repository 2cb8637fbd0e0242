use Rattle.guillotiere_c.specs.Numbers.{change_in}
use Rattle.guillotiere_c.specs.Writing.{IsWrittenTo}
use Rattle.guillotiere_c.proofs.writing.write_changes.Given as goal

abbrev pub invariant-loop-i : goal.invariant-loop-i
invariant-loop-i l = IsWrittenTo change_in l.i l.list l.fn.array l.array
