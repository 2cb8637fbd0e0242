use Rattle.std.proofs.Common.{rules}
use Rattle.std.proofs.lemmas.List.Sorted.{IsPermutation-put_mid}
use Rattle.atlas_sheet.proofs.changes.move_one.Goals as goal

pub returns-then-from-to : goal.returns-then-from-to
returns-then-from-to c = search (rules, IsPermutation-put_mid)

pub returns-else-from-to : goal.returns-else-from-to
returns-else-from-to c = search (rules, IsPermutation-put_mid)
