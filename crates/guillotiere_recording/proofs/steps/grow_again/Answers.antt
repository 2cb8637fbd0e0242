use Rattle.guillotiere_recording.proofs.ReplaySteps.{grown_on}
use Rattle.guillotiere_recording.proofs.steps.grow_again.Goals as goal

pub returns-clause-ok : goal.returns-clause-ok
returns-clause-ok g c =
    grown_on c.args.atlas.now c.grow.new.self c.args.names.now c.args.size c.in_ok-grow.ensures.step
