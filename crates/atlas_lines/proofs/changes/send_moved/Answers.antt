use Rattle.std.proofs.Common.{rules, List, ℕ, refl, sym, ◌++◌, subst}
use Rattle.atlas_words.specs.Blocks.{IsGathered}
use Rattle.atlas_lines.specs.Replies.{change_line}
use Rattle.atlas_words.proofs.Blocks.{list_step, lines_stop, list_whole}
use Rattle.atlas_lines.proofs.changes.send_moved.Goals as goal

pub returns-then-not-make_room-clause-beginning : goal.returns-then-not-make_room-clause-beginning
returns-then-not-make_room-clause-beginning g c failed =
    let l = c.loop-change in
    lines_stop change_line c.args.changes.now l.change-index _ (g.W.ToolOutput.contents l.output) _ c.args.waiting.now l.waiting
    l.invariant.gathered
    (c.if-not-make_room.ensures.beginning refl)

pub loop-change-preserved : goal.loop-change-preserved
loop-change-preserved g c =
    let l = c.loop-change in
    record {
      working = search rules;
      gathered = list_step change_line c.args.changes.now l.change-index c.change-item.result c.change-item.result _
          (g.W.ToolOutput.contents l.output) _ c.args.waiting.now l.waiting c.make_room.new.waiting c.push_change.new.text
          c.loop-change-test.true (sym c.change-item.is) l.invariant.gathered (c.if-not-make_room.ensures.gathered refl)
          c.push_change.ensures;
    }

pub returns-clause-gathered : goal.returns-clause-gathered
returns-clause-gathered g c whole =
    let l = c.loop-change in
    let P : List ℕ → Type 0 = λ t. IsGathered (g.W.ToolOutput.contents c.args.output.now) (g.W.ToolOutput.contents l.output) l.waiting
    (c.args.waiting.now ++ t) in
    subst P (list_whole change_line c.args.changes.now l.change-index (search rules)) l.invariant.gathered
