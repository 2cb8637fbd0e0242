use Rattle.std.proofs.Common.{ℕ, ◌+◌, ◌++◌, ap, refl, subst}
use Rattle.atlas_words.specs.Devices.{WritesBeginning}
use Rattle.atlas_lines.specs.Progress.{Place}
use Rattle.atlas_lines.specs.Replies.{bad_line_text}
use Rattle.atlas_lines.proofs.run.Progress.end_badly.Goals as goal

pub returns-then-send_bad_line-clause-line : goal.returns-then-send_bad_line-clause-line
returns-then-send_bad_line-clause-line g c =
    (ap (λ (p : Place). p.number + 1) c.self.view_is, c.if-send_bad_line.ensures.written refl)

pub returns-else-send_bad_line-clause-line : goal.returns-else-send_bad_line-clause-line
returns-else-send_bad_line-clause-line g c =
    let P : ℕ → Type 0 = λ n. WritesBeginning (g.W.ToolOutput.contents c.args.output.now)
    (g.W.ToolOutput.contents c.send_bad_line.new.output) (c.args.waiting.now ++ bad_line_text n) in
    subst P (ap (λ (p : Place). p.number + 1) c.self.view_is) (c.if-send_bad_line.ensures.beginning refl)
