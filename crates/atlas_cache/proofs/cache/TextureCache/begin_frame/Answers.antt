use Rattle.std.proofs.Common.{arith}
use Rattle.atlas_cache.specs.Caches.{entries_of}
use Rattle.atlas_cache.proofs.InsertLemmas.{unused_all}
use Rattle.atlas_cache.proofs.ListLemmas.{falls-later}
use Rattle.atlas_cache.proofs.ReadyLemmas.{still_ready}
use Rattle.atlas_cache.proofs.RoomLemmas.PageReserves.{none_used}
use Rattle.atlas_cache.proofs.cache.TextureCache.begin_frame.Goals as goal

pub invariant_of-self : goal.invariant_of-self
invariant_of-self g c =
    let was = c.self.invariant in
    record {
      held = was.held;
      bordered = was.bordered;
      frames = falls-later c.self.inside.frame c.count-self-inside.result _ (omega arith) was.frames;
    }

pub returns-clause-unused : goal.returns-clause-unused
returns-clause-unused g c = λ early.
    let less = rw (← c.self.view_is) at early in
    unused_all c.self.inside.frame c.count-self-inside.result (entries_of c.self.inside.entries.entries)
    (omega (arith, less, c.count-self-inside.ensures)) c.self.invariant.frames

pub returns-clause-stays_ready : goal.returns-clause-stays_ready
returns-clause-stays_ready g c =
    rw (← c.self.view_is) (still_ready _ _ (none_used 0 c.self.inside.rooms.pages) (omega arith) (omega arith) (λ full. record {
      all = full.all;
      largest = full.largest;
    }))
