use Rattle.std.proofs.Common.{IfNone, IfSome}
use Rattle.guillotiere.specs.Pixels.{sides_of}
use Rattle.atlas_sheet.specs.Dense.{IsWholeSheet, NoWayFinds}
use Rattle.atlas_sheet.proofs.DenseRows.{IsTrying, pixels_left}
use Rattle.atlas_sheet.proofs.dense.denser_powers.Given as goal

abbrev pub invariant-loop-next : goal.invariant-loop-next
invariant-loop-next g l = record {
  best : IfSome l.best (IsWholeSheet l.options l.sprites);
  none : IfNone l.best (NoWayFinds l.options l.sprites);
  trying : IsTrying (λ sheet. sides_of sheet.size) l.options l.best l.next;
}

abbrev pub decreases-loop-next : goal.decreases-loop-next
decreases-loop-next g l = pixels_left l.next
