use Rattle.std.proofs.Common.{◌≡◌, ℕ, Bool, length}
use Rattle.atlas_sheet.specs.Grouping.{chosen_row}
use Rattle.atlas_sheet.proofs.GroupRows.{AreRowsTo, as_before}
use Rattle.atlas_sheet.proofs.GroupTakes.{AreSinglesTo}
use Rattle.atlas_sheet.proofs.picking.row_with_single.Given as goal

abbrev pub invariant-loop-number : goal.invariant-loop-number
invariant-loop-number g l = record {
  rows : AreRowsTo l.groups l.row as_before l.number l.all.items;
  long : length l.all.items ≡ l.number;
  chosen : (there : ℕ → Bool) → l.row ≡ chosen_row there 0 l.groups
      → AreSinglesTo there l.many l.groups l.number l.room l.all.items;
}
