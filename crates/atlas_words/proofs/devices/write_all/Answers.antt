use Rattle.std.proofs.Common.{rules}
use Rattle.atlas_words.proofs.Known.{write_step}
use Rattle.atlas_words.proofs.devices.write_all.Goals as goal

pub loop-rest-preserved : goal.loop-rest-preserved
loop-rest-preserved g c = (
  search rules,
  write_step _ (g.W.ToolOutput.contents c.loop-rest.output) (g.W.ToolOutput.contents c.write.new.self) _
      c.loop-rest.invariant.1.0 c.loop-rest.rest.now c.in-Some.n c.loop-rest.invariant.1.1 c.loop-rest.invariant.1.2 (search rules)
      (search rules),
)
