use Rattle.guillotiere_recording.proofs.ReplayEnds.{without_event}
use Rattle.guillotiere_recording.proofs.recording.Recording.remove_event.Goals as goal

pub returns : goal.returns
returns g c =
    without_event c.self.inside.log.size c.self.inside.log.options c.self.inside.log.events.items c.remove.new.self.items c.args.at
    c.args.self.now c.remove.ensures.items c.self.view_is
