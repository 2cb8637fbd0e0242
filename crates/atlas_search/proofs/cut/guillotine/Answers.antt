use Rattle.atlas_search.proofs.CutTiles.{tiling}
use Rattle.atlas_search.proofs.cut.guillotine.Goals as goal

pub returns-clause-tiling : goal.returns-clause-tiling
returns-clause-tiling c = tiling _ c.args.chosen c.args.size c.rest_along.result c.rest_along.ensures c.requires.fits
