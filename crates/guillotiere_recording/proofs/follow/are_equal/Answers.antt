use Rattle.std.proofs.lemmas.Bool.Decides.{Decides-at}
use Rattle.guillotiere_recording.specs.Events.{list_value_of}
use Rattle.guillotiere_recording.proofs.Equality.{same_list, lists_decide}
use Rattle.guillotiere_recording.proofs.follow.are_equal.Goals as goal

pub returns : goal.returns
returns g c =
    Decides-at c.eq.result (same_list (list_value_of c.args.one.now) (list_value_of c.args.other.now)) c.eq.ensures
    (lists_decide (list_value_of c.args.one.now) (list_value_of c.args.other.now))
