use Rattle.std.proofs.Common.{◌≡◌, ◌≤◌}
use Rattle.atlas_sheet.specs.Lying.{IsArranged}
use Rattle.atlas_sheet.specs.Sheets.{used_area}
use Rattle.atlas_sheet.proofs.climbing.improve.Given as goal

abbrev pub invariant-loop-tries : goal.invariant-loop-tries
invariant-loop-tries g l = record {
  arranged : IsArranged l.options l.fn.first.lying.items l.best;
  size : l.best.size ≡ l.fn.first.size;
  most : l.most ≡ used_area l.best.places.items;
  more : used_area l.fn.first.places.items ≤ l.most;
  tries : l.tries ≤ l.initial.tries;
}

abbrev pub decreases-loop-tries : goal.decreases-loop-tries
decreases-loop-tries g l = l.tries
