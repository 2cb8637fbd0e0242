use Rattle.std.proofs.Common.{◌≡◌, ℕ, Bool, length, take}
use Rattle.atlas_sheet.specs.Grouping.{chosen_row, with_one}
use Rattle.atlas_sheet.proofs.GroupRows.{AreRowsTo}
use Rattle.atlas_sheet.proofs.picking.row_with.Given as goal

abbrev pub invariant-loop-number : goal.invariant-loop-number
invariant-loop-number g l = record {
  rows : AreRowsTo l.groups l.row (with_one l.group) l.number l.all.items;
  long : length l.all.items ≡ l.number;
  chosen : (there : ℕ → Bool) → l.row ≡ chosen_row there 0 l.groups
      → l.all.items ≡ take l.number (chosen_row (with_one l.group there) 0 l.groups);
}
