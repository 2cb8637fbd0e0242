use Rattle.std.proofs.Common.{rules, refl, pos, get_or, length, codes, take, flat_map}
use Rattle.guillotiere.specs.declared.Point.{Point}
use Rattle.guillotiere.specs.declared.Rectangle.{Rectangle}
use Rattle.atlas_lines.specs.Replies.{hole_line, count_line}
use Rattle.atlas_words.proofs.Blocks.{list_step, list_stops, list_whole, list_ended, list_begun}
use Rattle.atlas_lines.proofs.listing.send_holes.Goals as goal

pub returns-then-not-make_room-clause-beginning : goal.returns-then-not-make_room-clause-beginning
returns-then-not-make_room-clause-beginning g c failed =
    let l = c.loop-area in
    list_stops hole_line c.args.found.now l.area-index (count_line (codes "holes ") (length c.args.found.now)) _
    (g.W.ToolOutput.contents l.output) _ c.args.waiting.now l.waiting l.invariant.gathered
    (c.if-not-make_room.ensures.beginning refl)

pub loop-area-preserved : goal.loop-area-preserved
loop-area-preserved g c =
    let l = c.loop-area in
    let corner : Point = record { x = pos 0; y = pos 0 } in
    let none : Rectangle = record { min = corner; max = corner } in
    record {
      working = search rules;
      gathered = list_step hole_line c.args.found.now l.area-index none (get_or c.args.found.now l.area-index none) _
          (g.W.ToolOutput.contents l.output) _ c.args.waiting.now l.waiting c.make_room.new.waiting c.push_hole.new.text
          c.loop-area-test.true refl l.invariant.gathered (c.if-not-make_room.ensures.gathered refl) c.push_hole.ensures.text;
    }

pub returns-clause-gathered : goal.returns-clause-gathered
returns-clause-gathered g c whole =
    let l = c.loop-area in
    list_ended _ (g.W.ToolOutput.contents l.output) _ c.args.waiting.now l.waiting _
    (flat_map hole_line (take l.area-index c.args.found.now)) (flat_map hole_line c.args.found.now)
    (count_line (codes "holes ") (length c.args.found.now)) (list_whole hole_line c.args.found.now l.area-index (search rules))
    l.invariant.gathered (c.end_list.ensures.gathered whole)

pub returns-clause-beginning : goal.returns-clause-beginning
returns-clause-beginning g c failed =
    let l = c.loop-area in
    list_begun _ (g.W.ToolOutput.contents l.output) _ c.args.waiting.now l.waiting (flat_map hole_line (take l.area-index c.args.found.now))
    (flat_map hole_line c.args.found.now)
    (count_line (codes "holes ") (length c.args.found.now)) (list_whole hole_line c.args.found.now l.area-index (search rules))
    l.invariant.gathered (c.end_list.ensures.beginning failed)
