use Rattle.atlas_cache.proofs.TrimLemmas.{none-told}
use Rattle.atlas_cache.proofs.cache.TextureCache.shrink.Goals as goal

pub returns-in_err-reserve-clause-told : goal.returns-in_err-reserve-clause-told
returns-in_err-reserve-clause-told g c =
    rw c.in_err-reserve.ensures.items (none-told g.K.PartialEq.eq c.args.changes.now.items c.args.self.now)
