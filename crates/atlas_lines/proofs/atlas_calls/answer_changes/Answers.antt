use Rattle.std.proofs.Common.{Result, sym, subst}
use Rattle.guillotiere.specs.declared.ChangeList.{ChangeList}
use Rattle.guillotiere.specs.declared.AtlasError.{AtlasError}
use Rattle.guillotiere.specs.Rearranging.{change_reply}
use Rattle.atlas_lines.specs.Machine.{ToolReply, ShowsRearranging}
use Rattle.atlas_lines.proofs.Lists.{changes_shown}
use Rattle.atlas_lines.proofs.atlas_calls.answer_changes.Goals as goal

pub returns-in-Ok : goal.returns-in-Ok
returns-in-Ok g c =
    let list = c.in-Ok.list in
    let exact = c.requires list c.in-Ok.is in
    let P : Result (ChangeList g.row.A.Denot) AtlasError → Type 0 = λ r. ShowsRearranging (change_reply r)
    (ToolReply.ChangeLines list.changes.items list.failures.items) in
    subst P (sym c.in-Ok.is) (changes_shown _ _ exact.changes exact.failures)
