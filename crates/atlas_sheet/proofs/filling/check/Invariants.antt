use Rattle.std.proofs.Common.{All, take}
use Rattle.atlas_sheet.specs.Sheets.{IsPackable}
use Rattle.atlas_sheet.proofs.filling.check.Given as goal

abbrev pub invariant-loop-number : goal.invariant-loop-number
invariant-loop-number l = All (IsPackable l.spacing) (take l.number l.sprites)
