use Rattle.atlas_cache.proofs.CacheLemmas.{bordered-at}
use Rattle.atlas_cache.proofs.cache.TextureCache.peek.Goals as goal

pub place_of-requires : goal.place_of-requires
place_of-requires g c =
    let it = rw c.in-Some.is at c.look_up.ensures.found in
    rw c.options.ensures.options (bordered-at _ _ c.self.inside.entries.entries c.in-Some.found c.self.invariant.bordered it.at)
