use Rattle.std.proofs.Common.{◌≡◌, map, take, All}
use Rattle.atlas_sheet.specs.Packings.{IsOrderBy}
use Rattle.atlas_sheet.proofs.trials.trials_of.Given as goal

abbrev pub invariant-loop-way : goal.invariant-loop-way
invariant-loop-way g l = record {
  ways : map (λ t. t.way) l.trials.items ≡ take l.way-index l.ways;
  orders : All (λ t. IsOrderBy t.way l.sprites t.order.items) l.trials.items;
}
