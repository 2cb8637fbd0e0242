use Rattle.std.proofs.Common.{◌≡◌, ◌≤◌, List, ℕ, [], length, take, None, subst, refl, sym, ap, ◌∙◌, arith, length-take-le}
use Rattle.atlas_lines.proofs.Outcomes.{run_starts, no_end_at_start, no_room_at_start, run_goes_on, run_stops, input_ends, read_ends}
use Rattle.atlas_lines.proofs.Outcomes.{end_not_read, end_is_write, stop_not_read}
use Rattle.atlas_lines.specs.Ends.{is_read_fault, is_write_fault}
use Rattle.atlas_lines.specs.Progress.{Continues, Stops, LineEnds}
use Rattle.atlas_lines.proofs.run.Progress.run.Goals as goal

pub loop-left-init : goal.loop-left-init
loop-left-init g c = record {
  reading = c.requires.input;
  working = c.requires.output;
  waiting = c.new-waiting.ensures;
  top = omega arith;
  no_end = no_end_at_start c.args.self.now c.requires.start;
  short = search (arith, c.requires.start);
  room = no_room_at_start c.args.self.now c.requires.start;
  run = run_starts _ _ c.args.self.now c.requires.start;
}

pub returns-in_default-clause-ends : goal.returns-in_default-clause-ends
returns-in_default-clause-ends g c =
    read_ends _ (g.R.ToolInput.remaining c.loop-left.input) (g.R.ToolInput.remaining c.read.new.self) _
    (g.W.ToolOutput.contents c.loop-left.output) c.loop-left.self _ c.loop-left.invariant.run
    c.in_default.ensures.bytes c.loop-left.invariant.no_end c.loop-left.invariant.short

pub returns-then-count-eq0-clause-ends : goal.returns-then-count-eq0-clause-ends
returns-then-count-eq0-clause-ends g c =
    let b = c.in-Some.ensures.bytes in
    let whole : length c.read.new.buffer ≡ c.room.result = c.read.auto.buffer ∙ length-take-le c.room.result c.loop-left.buffer
    (omega (arith, c.room.array_long, c.room.ensures.short)) in
    let some = c.room.ensures.some c.loop-left-test.true in
    let P : List ℕ → Type 0 = λ block. LineEnds c.end_input.result c.loop-left.self c.end_input.new.self
    (g.W.ToolOutput.contents c.loop-left.output) (g.W.ToolOutput.contents c.end_input.new.output) block [] in
    let ended = subst P c.loop-left.invariant.waiting c.end_input.ensures.line in
    input_ends c.unwrap_or.result c.end_input.result _ (g.R.ToolInput.remaining c.loop-left.input) (g.R.ToolInput.remaining c.read.new.self)
    _ (g.W.ToolOutput.contents c.loop-left.output)
    (g.W.ToolOutput.contents c.end_input.new.output) c.loop-left.self c.end_input.new.self _ c.in-Some.count c.read.new.buffer
    c.unwrap_or.ensures c.loop-left.invariant.run c.if-count-eq0.true
    b.1 (b.2 c.if-count-eq0.true (omega arith)) c.loop-left.invariant.no_end ended

pub returns-then-count-eq0-clause-read_failed : goal.returns-then-count-eq0-clause-read_failed
returns-then-count-eq0-clause-read_failed g c =
    c.in-Some.ensures.failed ∙ c.loop-left.invariant.reading
    ∙ sym (ap is_read_fault c.unwrap_or.ensures ∙ end_not_read c.end_input.result c.loop-left.self c.end_input.new.self
    (g.W.ToolOutput.contents c.loop-left.output) (g.W.ToolOutput.contents c.end_input.new.output)
    c.loop-left.waiting c.end_input.ensures.line)

pub returns-then-count-eq0-clause-write_failed : goal.returns-then-count-eq0-clause-write_failed
returns-then-count-eq0-clause-write_failed g c = c.end_input.ensures.failed ∙ end_is_write c.end_input.result ∙
    sym (ap is_write_fault c.unwrap_or.ensures)

pub returns-in-Some-take_read-clause-ends : goal.returns-in-Some-take_read-clause-ends
returns-in-Some-take_read-clause-ends g c =
    let P : List ℕ → Type 0 = λ block. Stops c.in-Some-take_read.end c.loop-left.self (take c.in-Some.count c.read.new.buffer)
    (g.W.ToolOutput.contents c.loop-left.output) (g.W.ToolOutput.contents c.take_read.new.output) block in
    run_stops c.in-Some-take_read.end _ (g.R.ToolInput.remaining c.loop-left.input) _ _ (g.W.ToolOutput.contents c.loop-left.output) _
    c.loop-left.self
    (take c.in-Some.count c.read.new.buffer) _ c.loop-left.invariant.run c.in-Some.ensures.bytes.1
    (subst P c.loop-left.invariant.waiting c.in-Some-take_read.ensures.continues)

pub returns-in-Some-take_read-clause-read_failed : goal.returns-in-Some-take_read-clause-read_failed
returns-in-Some-take_read-clause-read_failed g c =
    c.in-Some.ensures.failed ∙ c.loop-left.invariant.reading
    ∙ sym (stop_not_read c.in-Some-take_read.end c.loop-left.self (take c.in-Some.count c.read.new.buffer) _ _ _
    c.in-Some-take_read.ensures.continues)

pub loop-left-preserved : goal.loop-left-preserved
loop-left-preserved g c =
    let count = length-take-le c.in-Some.count c.read.new.buffer c.in-Some.ensures.bytes.0 in
    let whole : length c.read.new.buffer ≡ c.room.result = c.read.auto.buffer ∙ length-take-le c.room.result c.loop-left.buffer
    (omega (arith, c.room.array_long, c.room.ensures.short)) in
    let within : c.in-Some.count ≤ c.loop-left.left = omega (arith, c.in-Some.ensures.bytes.0, c.room.ensures.within) in
    let e = c.in_default-take_read.ensures in
    let room = e.room refl in
    let P : List ℕ → Type 0 = λ block. Continues None c.loop-left.self (take c.in-Some.count c.read.new.buffer) c.take_read.new.self
    (g.W.ToolOutput.contents c.loop-left.output) (g.W.ToolOutput.contents c.take_read.new.output) block [] in
    record {
      reading = c.in-Some.ensures.failed ∙ c.loop-left.invariant.reading;
      working = e.failed;
      waiting = e.waiting refl;
      top = omega arith;
      no_end = e.line refl;
      short = e.short refl;
      room = omega (arith, c.loop-left.invariant.room, c.loop-left.invariant.top);
      run = run_goes_on _ (g.R.ToolInput.remaining c.loop-left.input) _ _ (g.W.ToolOutput.contents c.loop-left.output) _ c.loop-left.self
          c.take_read.new.self
          (take c.in-Some.count c.read.new.buffer) _ _ c.loop-left.invariant.run c.in-Some.ensures.bytes.1
          (subst P c.loop-left.invariant.waiting c.in_default-take_read.ensures.continues) (omega (arith, c.loop-left.invariant.top));
    }
