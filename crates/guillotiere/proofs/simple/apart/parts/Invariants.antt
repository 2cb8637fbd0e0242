use Rattle.std.proofs.Common.{◌≡◌, filter, take}
use Rattle.guillotiere.specs.Apart.{is_part}
use Rattle.guillotiere.proofs.simple.apart.parts.Given as goal

abbrev pub invariant-loop-area : goal.invariant-loop-area
invariant-loop-area g l =
    l.parts.items ≡ filter (is_part l.slab.low l.slab.high l.part.low l.part.high) (take l.area-index l.boxes)
