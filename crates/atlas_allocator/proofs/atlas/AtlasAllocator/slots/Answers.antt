use Rattle.atlas_store.proofs.WalkLemmas.StoredAtlas.{used-IsAtlas}
use Rattle.atlas_allocator.proofs.atlas.AtlasAllocator.slots.Goals as goal

pub returns-clause-used : goal.returns-clause-used
returns-clause-used g c = rw (← c.self.view_is) (used-IsAtlas _ c.self.invariant)
