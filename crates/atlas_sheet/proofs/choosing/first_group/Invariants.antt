use Rattle.std.proofs.Common.{take, All, IsNone}
use Rattle.atlas_sheet.proofs.choosing.first_group.Given as goal

abbrev pub invariant-loop-number : goal.invariant-loop-number
invariant-loop-number l = All IsNone (take l.number-index l.groups)
