use Rattle.std.proofs.Common.{map}
use Rattle.atlas_model.specs.Boxes.{Sides}
use Rattle.atlas_model.specs.Choice.{Options}
use Rattle.atlas_search.specs.Lookups.{AreListed, HasAdded}
use Rattle.atlas_search.proofs.SearchLemmas.FewLists.{IsAmong}
use Rattle.atlas_search.proofs.search.search_few.Given as goal

abbrev pub invariant-loop-i : goal.invariant-loop-i
invariant-loop-i g l =
    (o : Options) (r : Sides) → AreListed o l.table.heads (map g.E.Entry.item l.entries)
    → HasAdded o (map g.E.Entry.item l.entries) l.end r (IsAmong l.table.heads l.end l.i) l.fn.best l.best
