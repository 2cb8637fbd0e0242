use Rattle.std.proofs.Common.{◌+◌, ◌≤◌, length, vec_capacity, vec_len}
use Rattle.atlas_cache.proofs.ShrinkLemmas.{Gone}
use Rattle.atlas_cache.proofs.cache.TextureCache.drop_pages.Given as goal

abbrev pub invariant-each : goal.invariant-each
invariant-each g l =
    record {
      gone : Gone g.K.PartialEq.eq l.fn.changes.items l.changes.items l.fn.self l.self;
      room : vec_len l.changes + length l.self.pages ≤ vec_capacity l.changes;
      capacity : vec_capacity l.fn.changes ≤ vec_capacity l.changes;
    }

abbrev pub decreases-each : goal.decreases-each
decreases-each g l = length l.self.pages
