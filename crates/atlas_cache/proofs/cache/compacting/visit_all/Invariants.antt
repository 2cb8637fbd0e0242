use Rattle.std.proofs.Common.{◌≡◌, ◌+◌, ◌-◌, ◌≤◌, length, vec_capacity, vec_len}
use Rattle.atlas_cache.specs.Caches.{entries_of, AreBordered, HoldsEntries}
use Rattle.atlas_entries.specs.Entries.{lying}
use Rattle.atlas_cache.proofs.CompactWalks.{Walk}
use Rattle.atlas_cache.proofs.cache.compacting.visit_all.Given as goal

abbrev pub invariant-loop : goal.invariant-loop
invariant-loop g l =
    record {
      walk : Walk l.last l.pixels l.moved l.next l.counter l.fn.changes.items l.changes.items l.fn.rooms l.rooms l.fn.entries l.entries;
      last : l.last + 1 ≡ length l.rooms.pages;
      held : HoldsEntries l.rooms.pages (lying (entries_of l.entries.entries));
      bordered : AreBordered l.rooms.options.padding (entries_of l.entries.entries);
      room : vec_len l.changes + (length l.fn.entries.entries - l.counter) ≤ vec_capacity l.changes;
      capacity : vec_capacity l.fn.changes ≤ vec_capacity l.changes;
    }
