use Rattle.std.proofs.Common.{refl}
use Rattle.atlas_cache.proofs.HoldingLemmas.{none_held}
use Rattle.atlas_cache.proofs.cache.TextureCache.with_hasher.Goals as goal

pub invariant_of-result : goal.invariant_of-result
invariant_of-result g c =
    rw (c.new.ensures.pages, c.with_hasher.ensures.entries)
    (record { held = none_held _ (λ page id. refl); bordered = tt; frames = tt })
