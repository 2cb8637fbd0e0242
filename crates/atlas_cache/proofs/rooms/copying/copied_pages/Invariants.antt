use Rattle.std.proofs.Common.{◌≡◌, take}
use Rattle.atlas_cache.specs.Rooms.{stored_on}
use Rattle.atlas_cache.proofs.rooms.copying.copied_pages.Given as goal

-- What was copied so far is the beginning of the pages.
abbrev pub invariant-loop-page : goal.invariant-loop-page
invariant-loop-page g l = stored_on l.copies.items ≡ stored_on (take l.page-index l.pages)
