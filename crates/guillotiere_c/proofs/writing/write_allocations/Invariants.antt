use Rattle.guillotiere_c.specs.Numbers.{allocation_in}
use Rattle.guillotiere_c.specs.Writing.{IsWrittenTo}
use Rattle.guillotiere_c.proofs.writing.write_allocations.Given as goal

abbrev pub invariant-loop-i : goal.invariant-loop-i
invariant-loop-i l = IsWrittenTo allocation_in l.i l.list l.fn.array l.array
