use Rattle.std.proofs.Common.{rules, refl, sym, length, codes, take, flat_map}
use Rattle.atlas_lines.specs.Replies.{live_line, count_line}
use Rattle.atlas_words.proofs.Blocks.{list_step, list_stops, list_whole, list_ended, list_begun}
use Rattle.atlas_lines.proofs.listing.send_live.Goals as goal

pub returns-then-not-make_room-clause-beginning : goal.returns-then-not-make_room-clause-beginning
returns-then-not-make_room-clause-beginning g c failed =
    let l = c.loop-allocation in
    list_stops live_line c.args.found.now l.allocation-index (count_line (codes "live ") (length c.args.found.now)) _
    (g.W.ToolOutput.contents l.output) _ c.args.waiting.now l.waiting l.invariant.gathered
    (c.if-not-make_room.ensures.beginning refl)

pub loop-allocation-preserved : goal.loop-allocation-preserved
loop-allocation-preserved g c =
    let l = c.loop-allocation in
    record {
      working = search rules;
      gathered = list_step live_line c.args.found.now l.allocation-index c.allocation-item.result c.allocation-item.result _
          (g.W.ToolOutput.contents l.output) _ c.args.waiting.now l.waiting c.make_room.new.waiting c.push_live.new.text
          c.loop-allocation-test.true (sym c.allocation-item.is) l.invariant.gathered (c.if-not-make_room.ensures.gathered refl)
          c.push_live.ensures.text;
    }

pub returns-clause-gathered : goal.returns-clause-gathered
returns-clause-gathered g c whole =
    let l = c.loop-allocation in
    list_ended _ (g.W.ToolOutput.contents l.output) _ c.args.waiting.now l.waiting _
    (flat_map live_line (take l.allocation-index c.args.found.now)) (flat_map live_line c.args.found.now)
    (count_line (codes "live ") (length c.args.found.now)) (list_whole live_line c.args.found.now l.allocation-index (search rules))
    l.invariant.gathered (c.end_list.ensures.gathered whole)

pub returns-clause-beginning : goal.returns-clause-beginning
returns-clause-beginning g c failed =
    let l = c.loop-allocation in
    list_begun _ (g.W.ToolOutput.contents l.output) _ c.args.waiting.now l.waiting
    (flat_map live_line (take l.allocation-index c.args.found.now)) (flat_map live_line c.args.found.now)
    (count_line (codes "live ") (length c.args.found.now)) (list_whole live_line c.args.found.now l.allocation-index (search rules))
    l.invariant.gathered (c.end_list.ensures.beginning failed)
