use Rattle.std.proofs.Common.{[], refl, arith}
use Rattle.atlas_words.proofs.Blocks.{gathered_nothing}
use Rattle.atlas_lines.proofs.Joins.{advance_none, block_advances, block_stops}
use Rattle.atlas_lines.proofs.run.Progress.take_block.Goals as goal

pub loop-byte-init : goal.loop-byte-init
loop-byte-init g c = record {
  working = c.requires.output;
  no_end = c.requires.line;
  room = omega arith;
  advances = ([], advance_none c.args.self.now, gathered_nothing (g.W.ToolOutput.contents c.args.output.now) c.args.waiting.now);
}

pub returns-in-Some-clause-continues : goal.returns-in-Some-clause-continues
returns-in-Some-clause-continues g c =
    let i = c.loop-byte.invariant.advances in
    block_stops c.in-Some.end c.args.self.now c.loop-byte.self c.args.block.now c.loop-byte.byte-index i.0 _
    (g.W.ToolOutput.contents c.loop-byte.output) _ c.args.waiting.now c.loop-byte.waiting
    c.loop-byte-test.true i.1 i.2 c.in-Some.ensures.continues

pub loop-byte-preserved : goal.loop-byte-preserved
loop-byte-preserved g c =
    let i = c.loop-byte.invariant.advances in
    let room = c.in_default.ensures.room refl in
    record {
      working = c.in_default.ensures.failed;
      no_end = c.in_default.ensures.line refl;
      room = omega arith;
      advances = block_advances c.args.self.now c.loop-byte.self c.take_byte.new.self c.args.block.now c.loop-byte.byte-index i.0 _
          (g.W.ToolOutput.contents c.loop-byte.output) _ c.args.waiting.now
          c.loop-byte.waiting _ c.loop-byte-test.true i.1 i.2 c.in_default.ensures.continues;
    }
