use Rattle.std.proofs.Common.{◌≡◌, take}
use Rattle.guillotiere_c.proofs.atlas_lists.ids_of.Given as goal

abbrev pub invariant-loop-number : goal.invariant-loop-number
invariant-loop-number l = l.ids.items ≡ take l.number-index l.numbers
