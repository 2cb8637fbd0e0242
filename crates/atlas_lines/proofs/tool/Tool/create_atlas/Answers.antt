use Rattle.std.proofs.Common.{ap, refl}
use Rattle.guillotiere.specs.Pixels.{sides_of, options_of}
use Rattle.guillotiere.specs.States.{started}
use Rattle.atlas_lines.specs.Machine.{Held}
use Rattle.atlas_lines.proofs.Lists.{made_atlas}
use Rattle.atlas_lines.proofs.tool.Tool.create_atlas.Goals as goal

pub with_options-requires-clause-size : goal.with_options-requires-clause-size
with_options-requires-clause-size g c = c.if-not-is_positive.ensures.0 refl

pub with_options-requires-clause-options : goal.with_options-requires-clause-options
with_options-requires-clause-options g c = c.if-not-is_valid.ensures.0 refl

pub returns-in-Ok : goal.returns-in-Ok
returns-in-Ok g c = (
  c.if-not-is_positive.ensures.0 refl,
  c.if-not-is_valid.ensures.0 refl,
  made_atlas c.args.self.now c.self.inside.simple c.in-Ok.made (started (sides_of c.args.size) (options_of c.args.options.now) 16777216)
      (ap (λ (h : Held). h.simple) c.self.view_is) c.in-Ok.ensures.state,
)

pub returns-in-Err : goal.returns-in-Err
returns-in-Err g c = (c.in-Err.ensures.unless, c.if-not-is_positive.ensures.0 refl, c.if-not-is_valid.ensures.0 refl, refl)
