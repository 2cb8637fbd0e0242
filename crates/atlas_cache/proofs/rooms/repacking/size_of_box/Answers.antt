use Rattle.atlas_allocator.proofs.AtlasLemmas.RefitSizes.{measured-box}
use Rattle.atlas_cache.proofs.rooms.repacking.size_of_box.Goals as goal

pub returns : goal.returns
returns c = measured-box c.args.rectangle c.size.result c.requires c.size.ensures
