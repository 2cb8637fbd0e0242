use Rattle.std.proofs.Common.{◌+◌, ◌≤◌, length, vec_capacity, vec_len}
use Rattle.atlas_cache.proofs.TrimLemmas.{Dropped}
use Rattle.atlas_cache.proofs.cache.TextureCache.drop_unused.Given as goal

abbrev pub invariant-each : goal.invariant-each
invariant-each g l =
    record {
      dropped : Dropped g.K.PartialEq.eq l.frames l.fn.changes.items l.changes.items l.fn.self l.self;
      room : vec_len l.changes + length l.self.entries ≤ vec_capacity l.changes;
      capacity : vec_capacity l.fn.changes ≤ vec_capacity l.changes;
    }

abbrev pub decreases-each : goal.decreases-each
decreases-each g l = length l.self.entries
