use Rattle.std.proofs.Common.{◌≤◌, ◌-◌, IfNone, IfSome}
use Rattle.guillotiere.specs.Pixels.{sides_of}
use Rattle.atlas_sheet.specs.Allowances.{row_length}
use Rattle.atlas_sheet.specs.Dense.{IsWholeSheet, NoWayFinds}
use Rattle.atlas_sheet.proofs.DenseRows.{IsDensed}
use Rattle.atlas_sheet.proofs.dense.denser_in_row.Given as goal

abbrev pub invariant-loop-low : goal.invariant-loop-low
invariant-loop-low g l = record {
  best : IfSome l.best (IsWholeSheet l.options l.sprites);
  none : IfNone l.best (NoWayFinds l.options l.sprites);
  inside : l.high ≤ row_length l.options.allowed;
  going : IsDensed (λ sheet. sides_of sheet.size) l.options l.sprites l.low l.high l.best;
}

abbrev pub decreases-loop-low : goal.decreases-loop-low
decreases-loop-low g l = l.high - l.low
