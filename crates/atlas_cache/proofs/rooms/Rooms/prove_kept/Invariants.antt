use Rattle.std.proofs.Common.{◌<◌, ℕ}
use Rattle.guillotiere.specs.Pages.{AllLieApartOn, AllLieWithinOn}
use Rattle.atlas_cache.proofs.rooms.Rooms.prove_kept.Given as goal

abbrev pub invariant-loop-at : goal.invariant-loop-at
invariant-loop-at g l =
    record {
      apart : (k : ℕ) → k < l.at → AllLieApartOn l.self-inside.pages.items k;
      within : (k : ℕ) → k < l.at → AllLieWithinOn l.self-inside.pages.items k;
    }
