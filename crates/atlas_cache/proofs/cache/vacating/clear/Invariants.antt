use Rattle.std.proofs.Common.{◌≡◌, ◌≤◌, ◌+◌, ◌++◌, ℕ, List, length, vec_capacity, vec_len}
use Rattle.guillotiere.specs.Pixels.{box_of}
use Rattle.atlas_entries.specs.declared.entries.Entry.{Entry}
use Rattle.atlas_cache.specs.Caches.{entries_of}
use Rattle.atlas_cache.specs.Vacating.{inside_count}
use Rattle.atlas_entries.specs.Entries.{numbers}
use Rattle.atlas_entries.specs.Orders.{oldest_of}
use Rattle.atlas_cache.proofs.ClearingLemmas.{IsClearing}
use Rattle.atlas_cache.proofs.cache.vacating.clear.Given as goal

abbrev pub invariant-loop-looked : goal.invariant-loop-looked
invariant-loop-looked g l =
    record {
      newer : List (ℕ × Entry g.row.K.Denot);
      older : List (ℕ × Entry g.row.K.Denot);
      kept : List (ℕ × Entry g.row.K.Denot);
      was : l.fn.entries.entries ≡ newer ++ older;
      is : l.entries.entries ≡ newer ++ kept;
      looked : length older ≡ l.looked;
      next : l.next ≡ oldest_of (numbers newer);
      clearing : IsClearing l.vacancy.page (box_of l.vacancy.area) l.frame newer older kept l.fn.changes.items l.changes.items
          l.fn.rooms l.rooms l.fn.entries l.entries l.fn.counts l.counts;
      room : (xs shown : List (ℕ × Entry g.row.K.Denot)) → l.fn.entries.entries ≡ xs ++ shown → length shown ≡ l.vacancy.count
          → vec_len l.changes + inside_count l.vacancy.page (box_of l.vacancy.area) (entries_of shown)
          ≤ vec_capacity l.changes + inside_count l.vacancy.page (box_of l.vacancy.area) (entries_of older);
      conserved : vec_len l.changes + length l.entries.entries ≡ vec_len l.fn.changes + length l.fn.entries.entries;
      capacity : vec_capacity l.fn.changes ≤ vec_capacity l.changes;
    }
