use Rattle.std.proofs.Common.{rules, List, ℕ, refl, sym, ◌++◌, subst}
use Rattle.atlas_words.specs.Blocks.{IsGathered}
use Rattle.atlas_lines.specs.Replies.{lost_line}
use Rattle.atlas_words.proofs.Blocks.{list_step, lines_stop, list_whole}
use Rattle.atlas_lines.proofs.changes.send_lost.Goals as goal

pub returns-then-not-make_room-clause-beginning : goal.returns-then-not-make_room-clause-beginning
returns-then-not-make_room-clause-beginning g c failed =
    let l = c.loop-allocation in
    lines_stop lost_line c.args.failures.now l.allocation-index _ (g.W.ToolOutput.contents l.output) _ c.args.waiting.now l.waiting
    l.invariant.gathered
    (c.if-not-make_room.ensures.beginning refl)

pub loop-allocation-preserved : goal.loop-allocation-preserved
loop-allocation-preserved g c =
    let l = c.loop-allocation in
    record {
      working = search rules;
      gathered = list_step lost_line c.args.failures.now l.allocation-index c.allocation-item.result c.allocation-item.result _
          (g.W.ToolOutput.contents l.output) _ c.args.waiting.now l.waiting c.make_room.new.waiting c.push_lost.new.text
          c.loop-allocation-test.true (sym c.allocation-item.is) l.invariant.gathered (c.if-not-make_room.ensures.gathered refl)
          c.push_lost.ensures;
    }

pub returns-clause-gathered : goal.returns-clause-gathered
returns-clause-gathered g c whole =
    let l = c.loop-allocation in
    let P : List ℕ → Type 0 = λ t. IsGathered (g.W.ToolOutput.contents c.args.output.now) (g.W.ToolOutput.contents l.output) l.waiting
    (c.args.waiting.now ++ t) in
    subst P (list_whole lost_line c.args.failures.now l.allocation-index (search rules)) l.invariant.gathered
