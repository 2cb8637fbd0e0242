use Rattle.std.proofs.Common.{◌-◌, ◌<◌, ◌==◌, ◌≤◌, ℕ, [], map}
use Rattle.atlas_model.specs.Choice.{class_of}
use Rattle.atlas_model.specs.Pixels.{options_of, sides_of}
use Rattle.atlas_search.specs.Bests.{HasSeen}
use Rattle.atlas_search.specs.Lookups.{IsEndAfter, IsSearch}
use Rattle.atlas_search.specs.Masks.{KeepsBelow}
use Rattle.atlas_search.proofs.search.pick_from.Given as goal

abbrev pub invariant-loop-at : goal.invariant-loop-at
invariant-loop-at g l =
    (least : ℕ)
    × IsSearch (options_of l.options) l.table.heads (map g.E.Entry.item l.entries) l.own (sides_of l.fn.begun.size) least l.columns l.rows
    × (least < l.end) × IsEndAfter (options_of l.options) least l.end
    × KeepsBelow l.columns l.in_row l.end × KeepsBelow l.rows l.in_column l.end
    × (l.own.row < l.end) × (l.own.column < l.end) × (l.end ≤ 52)
    × HasSeen l.best (class_of (options_of l.options) (sides_of l.fn.begun.size) == 2) (sides_of l.fn.begun.size) []

abbrev pub decreases-loop-at : goal.decreases-loop-at
decreases-loop-at g l = 52 - l.end
