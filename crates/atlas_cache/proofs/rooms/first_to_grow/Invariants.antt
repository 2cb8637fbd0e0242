use Rattle.guillotiere.specs.Pages.{page_sizes}
use Rattle.atlas_cache.specs.Rooms.{AreLargestBelow}
use Rattle.atlas_cache.proofs.rooms.first_to_grow.Given as goal

abbrev pub invariant-loop-page : goal.invariant-loop-page
invariant-loop-page g l = AreLargestBelow l.largest (page_sizes l.pages) l.page
