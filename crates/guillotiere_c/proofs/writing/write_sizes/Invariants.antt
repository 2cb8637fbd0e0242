use Rattle.guillotiere_c.specs.Numbers.{size_in}
use Rattle.guillotiere_c.specs.Writing.{IsWrittenTo}
use Rattle.guillotiere_c.proofs.writing.write_sizes.Given as goal

abbrev pub invariant-loop-i : goal.invariant-loop-i
invariant-loop-i l = IsWrittenTo size_in l.i l.list l.fn.array l.array
