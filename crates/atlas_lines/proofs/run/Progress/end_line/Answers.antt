use Rattle.std.proofs.Common.{rules, inl, inr, ap, ◌∙◌, refl}
use Rattle.atlas_lines.specs.Machine.{tool_state_of}
use Rattle.atlas_lines.specs.Replies.{reply_text}
use Rattle.atlas_lines.specs.Progress.{Place}
use Rattle.atlas_lines.proofs.Runs.{bad_unread, step_from, owed_by, replied, skipped}
use Rattle.atlas_lines.proofs.run.Progress.end_line.Goals as goal
use Rattle.atlas_lines.proofs.run.Progress.end_line.Goals.{then-len-gt0+in-Some+else-not-reply_to, else-len-gt0}

pub returns-in_default-clause-line : goal.returns-in_default-clause-line
returns-in_default-clause-line g c =
    inl (
      bad_unread c.args.self.now.line c.as_slice.result.now c.parse_line.result (search rules) (search rules) c.in_default.is
          c.parse_line.ensures.only,
      c.end_badly.ensures.line,
    )

pub returns-then-not-reply_to-clause-line : goal.returns-then-not-reply_to-clause-line
returns-then-not-reply_to-clause-line g c =
    let begun = c.if-not-reply_to.ensures.beginning refl in
    inr (
      refl,
      record {
        held = c.reply_to.new.self;
        text = reply_text begun.reply;
        owed = owed_by _ (tool_state_of c.reply_to.new.self) c.args.self.now.line c.as_slice.result.now c.in-Some.command begun.reply
            (search rules) (search rules) (search rules)
            (step_from _ c.args.self.now c.in-Some.command begun.reply (tool_state_of c.reply_to.new.self) c.self.view_is begun.step);
        written = begun.written;
      },
    )

pub returns-clause-line : goal.returns-clause-line
returns-clause-line g c =
    elim c.if-len-gt0.branch [
      | then-len-gt0+in-Some+else-not-reply_to w ↦
          let whole = w.if-not-reply_to.ensures.gathered refl in
          replied c.args.self.now c.if-len-gt0.self c.next_line.new.self w.reply_to.new.self _
          (g.W.ToolOutput.contents w.reply_to.new.output) (g.W.ToolOutput.contents c.if-len-gt0.output)
          c.args.waiting.now w.reply_to.new.waiting _ (reply_text whole.reply)
          (owed_by _ (tool_state_of w.reply_to.new.self) c.args.self.now.line w.as_slice.result.now w.in-Some.command whole.reply
          (search rules) (search rules) (search rules)
          (step_from _ c.args.self.now w.in-Some.command whole.reply (tool_state_of w.reply_to.new.self) c.self.view_is whole.step))
          whole.gathered (ap g.W.ToolOutput.contents w.output-is) w.waiting-is
          (w.self-is ∙ ap (λ (p : Place). record { held = w.reply_to.new.self; line = p.line; number = p.number }) c.self.view_is)
          c.next_line.ensures
      | else-len-gt0 w ↦
          skipped c.args.self.now c.if-len-gt0.self c.next_line.new.self _ (g.W.ToolOutput.contents c.if-len-gt0.output) c.args.waiting.now
          _ (search rules) (ap g.W.ToolOutput.contents w.output-is) w.waiting-is w.self-is
          c.next_line.ensures
    ]
