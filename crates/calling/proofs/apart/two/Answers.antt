use Rattle.std.proofs.Common.{[]}
use Rattle.calling.proofs.apart.two.Goals as goal

pub returns : goal.returns
returns g c =
    let first = rw c.in-Some.is at c.in_ok-a.ensures.guarded in
    let second = rw c.in-Some-2.is at c.in_ok-b.ensures.guarded in
    (second _ (first [] c.prove_sound.ensures.guarded)).apart
