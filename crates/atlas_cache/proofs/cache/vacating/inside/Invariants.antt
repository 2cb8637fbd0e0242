use Rattle.std.proofs.Common.{◌≡◌, ◌≤◌, ℕ, List, length}
use Rattle.atlas_entries.specs.declared.entries.Entry.{Entry}
use Rattle.guillotiere.specs.Pixels.{box_of}
use Rattle.atlas_cache.specs.Caches.{entries_of}
use Rattle.atlas_cache.specs.Vacating.{inside_count}
use Rattle.atlas_cache.proofs.VacateLemmas.{Walked}
use Rattle.atlas_cache.proofs.cache.vacating.inside.Given as goal

abbrev pub invariant-loop-looked : goal.invariant-loop-looked
invariant-loop-looked g l =
    record {
      older : List (ℕ × Entry g.row.K.Denot);
      walked : Walked l.entries.entries older l.next l.looked;
      looked : length older ≡ l.looked;
      found : l.found ≡ inside_count l.page (box_of l.area) (entries_of older);
      few : l.found ≤ l.looked;
    }
