use Rattle.atlas_allocator.proofs.AtlasLemmas.ShownLists.{free_areas-IsAtlas}
use Rattle.std.proofs.Common.{refl}
use Rattle.atlas_allocator.proofs.atlas.store_of.Goals as goal

pub returns-clause-areas : goal.returns-clause-areas
returns-clause-areas g c = rw (← c.atlas.view_is) (free_areas-IsAtlas _ c.atlas.invariant 0 _ refl)
