use Rattle.atlas_allocator.proofs.AtlasLemmas.RearrangedAtlas.{order-sorted, exact-sorted}
use Rattle.atlas_allocator.proofs.atlas.AtlasAllocator.refit_order.Goals as goal

pub returns-clause-order : goal.returns-clause-order
returns-clause-order g c =
    order-sorted _ _ _ c.in_ok-boxes.ensures.list c.sort_for_refit.ensures.permuted c.sort_for_refit.ensures.ranked

pub returns-clause-exact : goal.returns-clause-exact
returns-clause-exact g c = exact-sorted _ _ _ c.in_ok-boxes.ensures.list c.sort_for_refit.ensures.permuted
