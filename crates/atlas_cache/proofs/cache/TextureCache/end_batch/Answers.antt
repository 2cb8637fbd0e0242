use Rattle.atlas_cache.proofs.BatchLemmas.{batch_ready}
use Rattle.atlas_cache.proofs.ReadyLemmas.{same_ready}
use Rattle.atlas_cache.proofs.TrimLemmas.{none-told}
use Rattle.atlas_cache.proofs.cache.TextureCache.end_batch.Goals as goal

pub returns-in_err-reserve-clause-told : goal.returns-in_err-reserve-clause-told
returns-in_err-reserve-clause-told g c =
    rw c.in_err-reserve.ensures.items (none-told g.K.PartialEq.eq c.args.changes.now.items c.args.self.now)

pub returns-in_err-reserve-clause-stays_ready : goal.returns-in_err-reserve-clause-stays_ready
returns-in_err-reserve-clause-stays_ready g c = same_ready c.args.self.now

pub returns-clause-stays_ready : goal.returns-clause-stays_ready
returns-clause-stays_ready g c = batch_ready _ _ _ _ _ c.drop_used.ensures.ends
