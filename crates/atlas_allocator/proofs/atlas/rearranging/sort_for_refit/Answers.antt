use Rattle.std.proofs.Common.{rules}
use Rattle.std.proofs.lemmas.List.Sorted.{answers_always}
use Rattle.atlas_allocator.proofs.AtlasLemmas.RefitRanks.{refit_key, ranked_from_sort}
use Rattle.atlas_allocator.proofs.atlas.rearranging.sort_for_refit.Goals as goal

pub returns-clause-ranked : goal.returns-clause-ranked
returns-clause-ranked g c =
    ranked_from_sort _ _ c.sort_unstable_by_key.ensures.permutation
    (c.sort_unstable_by_key.ensures.sorted refit_key (answers_always _ _ _ (λ f a r h called. search rules)))
