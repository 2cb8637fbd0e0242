use Rattle.std.proofs.Common.{rules}
use Rattle.std.proofs.lemmas.List.Sorted.{IsPermutation-put_mid}
use Rattle.atlas_sheet.proofs.changes.turn_run.Goals as goal

pub returns : goal.returns
returns c = search (rules, IsPermutation-put_mid)
