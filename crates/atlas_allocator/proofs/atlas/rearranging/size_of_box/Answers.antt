use Rattle.atlas_allocator.proofs.AtlasLemmas.RefitSizes.{measured-box}
use Rattle.atlas_allocator.proofs.atlas.rearranging.size_of_box.Goals as goal

pub returns : goal.returns
returns c = measured-box c.args.rectangle c.size.result c.requires c.size.ensures
