use Rattle.std.proofs.Common.{◌≡◌, ◌-◌, ◌≤◌, vec_capacity, vec_len}
use Rattle.atlas_cache.proofs.RelocateLemmas.{Walked}
use Rattle.atlas_cache.proofs.cache.repacking.settle_all.Given as goal

abbrev pub invariant-loop : goal.invariant-loop
invariant-loop g l =
    record {
      walked : Walked l.options.padding l.page l.moves l.fn.entries.entries l.entries.entries l.next l.counter l.fn.changes.items
          l.changes.items
          (vec_capacity l.changes - vec_len l.changes);
      made : l.entries.made ≡ l.fn.entries.made;
      reserved : l.entries.reserved ≡ l.fn.entries.reserved;
      capacity : vec_capacity l.fn.changes ≤ vec_capacity l.changes;
    }
