use Rattle.std.proofs.Common.{◌≡◌, false, take}
use Rattle.std.specs.List.{list_any}
use Rattle.atlas_cache.specs.Rooms.{has_area}
use Rattle.atlas_cache.proofs.rooms.Rooms.have_area.Given as goal

abbrev pub invariant-loop-page : goal.invariant-loop-page
invariant-loop-page g l = record { none : list_any (has_area l.fn.asked) (take l.page l.fn.self.pages) ≡ false }
