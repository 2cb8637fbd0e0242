use Rattle.std.proofs.Common.{◌-◌, map}
use Rattle.guillotiere.specs.Pixels.{sides_of}
use Rattle.atlas_sheet.specs.Allowances.{row_length}
use Rattle.atlas_sheet.proofs.Rows.{IsSearched}
use Rattle.atlas_sheet.proofs.search.bisect.Given as goal

abbrev pub invariant-loop-low : goal.invariant-loop-low
invariant-loop-low g l =
    IsSearched (λ s. sides_of s.size) (λ s. record { way = s.way; order = s.order.items; places = s.places.items })
    (map (λ t. t.way) l.trials) l.allowed l.spacing l.sprites
    (row_length l.allowed) l.low l.high l.best

abbrev pub decreases-loop-low : goal.decreases-loop-low
decreases-loop-low g l = l.high - l.low
