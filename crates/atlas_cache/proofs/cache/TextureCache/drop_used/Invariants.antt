use Rattle.std.proofs.Common.{◌+◌, ◌≤◌, length, vec_capacity, vec_len}
use Rattle.atlas_cache.proofs.BatchLemmas.{Used}
use Rattle.atlas_cache.proofs.cache.TextureCache.drop_used.Given as goal

abbrev pub invariant-loop-dropped : goal.invariant-loop-dropped
invariant-loop-dropped g l =
    record {
      used : Used g.K.PartialEq.eq l.dropped l.fn.changes.items l.changes.items l.fn.self l.self;
      room : vec_len l.changes + length l.self.entries ≤ vec_capacity l.changes;
      capacity : vec_capacity l.fn.changes ≤ vec_capacity l.changes;
    }
