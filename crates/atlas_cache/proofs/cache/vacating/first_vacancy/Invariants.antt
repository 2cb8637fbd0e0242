use Rattle.std.proofs.Common.{◌≡◌, ◌<◌, ℕ, List, length}
use Rattle.std.specs.List.{AllByRecursion}
use Rattle.atlas_entries.specs.declared.entries.Entry.{Entry}
use Rattle.atlas_cache.specs.Caches.{entries_of}
use Rattle.atlas_cache.specs.Vacating.{ids_on, AreAllShown, HasNoRoomWithout}
use Rattle.atlas_cache.proofs.VacateLemmas.{Walked}
use Rattle.atlas_cache.proofs.cache.vacating.first_vacancy.Given as goal

abbrev pub invariant-loop-looked : goal.invariant-loop-looked
invariant-loop-looked g l =
    record {
      older : List (ℕ × Entry g.row.K.Denot);
      walked : Walked l.entries.entries older l.next l.looked;
      looked : length older ≡ l.looked;
      unused : AllByRecursion (λ e. e.frame < l.frame) (entries_of older);
      shown : AreAllShown l.rooms.pages l.marks.items (λ page. ids_on page (entries_of older));
      none : (page : ℕ) → HasNoRoomWithout l.asked l.rooms.pages page (ids_on page (entries_of older));
    }
