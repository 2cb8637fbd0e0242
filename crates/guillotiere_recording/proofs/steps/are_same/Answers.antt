use Rattle.std.proofs.lemmas.Bool.Decides.{Decides-at}
use Rattle.guillotiere_recording.proofs.Equality.{same_rectangle, rectangles_decide}
use Rattle.guillotiere_recording.proofs.steps.are_same.Goals as goal

pub returns : goal.returns
returns c =
    Decides-at c.eq.result (same_rectangle c.args.one.now c.args.other.now) c.eq.ensures (rectangles_decide c.args.one.now c.args.other.now)
