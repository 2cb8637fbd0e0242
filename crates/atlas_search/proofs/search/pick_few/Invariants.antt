use Rattle.std.proofs.Common.{◌-◌, map}
use Rattle.atlas_model.specs.Pixels.{options_of, sides_of}
use Rattle.atlas_search.specs.Lookups.{FitsItemsFrom}
use Rattle.atlas_search.proofs.search.pick_few.Given as goal

abbrev pub invariant-loop-least : goal.invariant-loop-least
invariant-loop-least g l = FitsItemsFrom (options_of l.options) (map g.E.Entry.item l.entries) l.least (sides_of l.fn.size)

abbrev pub decreases-loop-least : goal.decreases-loop-least
decreases-loop-least g l = 52 - l.least
