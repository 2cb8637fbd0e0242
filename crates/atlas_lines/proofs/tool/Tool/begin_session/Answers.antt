use Rattle.std.proofs.Common.{ap, refl}
use Rattle.atlas_lines.specs.Machine.{Held, session_in}
use Rattle.atlas_lines.proofs.Lists.{made_session}
use Rattle.atlas_lines.proofs.tool.Tool.begin_session.Goals as goal

pub returns-in-Ok : goal.returns-in-Ok
returns-in-Ok g c = (
  c.if-not-is_positive.ensures.0 refl,
  (
    session_in c.in-Ok.made,
    record {
      state = c.in-Ok.ensures.new.state;
      recording = c.in-Ok.ensures.new.recording;
      given = c.in-Ok.ensures.new.given;
    },
    made_session c.args.self.now c.self.inside.simple c.in-Ok.made (ap (λ (h : Held). h.simple) c.self.view_is),
  ),
)
