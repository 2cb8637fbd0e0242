use Rattle.std.proofs.Common.{refl}
use Rattle.atlas_cache.proofs.CacheLemmas.{bordered-at}
use Rattle.atlas_cache.proofs.WalkLemmas.{last-some}
use Rattle.atlas_cache.proofs.cache.TextureCache.oldest.Goals as goal

pub place_of-requires : goal.place_of-requires
place_of-requires g c =
    let here = rw c.in-Some.is at c.oldest.ensures.here in
    rw c.options.ensures.options (bordered-at _ _ c.self.inside.entries.entries c.in-Some.entry c.self.invariant.bordered here)

pub returns : goal.returns
returns g c =
    let last = rw c.in-Some.is at c.oldest.ensures.last in
    rw (← c.self.view_is, last, last-some, c.place_of.ensures, c.options.ensures.options) refl
