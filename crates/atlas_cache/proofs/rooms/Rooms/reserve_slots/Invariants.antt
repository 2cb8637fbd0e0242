use Rattle.std.proofs.Common.{◌≡◌, ◌+◌, ◌<◌, ◌≤◌, ℕ, Some, length, map, slice_get}
use Rattle.guillotiere.specs.Reserves.{HasReserve}
use Rattle.guillotiere.specs.States.{used_in}
use Rattle.guillotiere.specs.Stored.{AtlasValue, state_of}
use Rattle.atlas_cache.specs.Reserving.{UseAtMost}
use Rattle.atlas_cache.specs.Rooms.{rooms_of, AreKnown, KeepsRooms}
use Rattle.atlas_cache.proofs.rooms.Rooms.reserve_slots.Given as goal

abbrev pub invariant-loop-page : goal.invariant-loop-page
invariant-loop-page g l =
    record {
      options : l.self-inside.options ≡ l.fn.self.options;
      same : length l.self-inside.pages.items ≡ l.page-end;
      ready : (k : ℕ) (s : AtlasValue) → k < l.page → slice_get l.self-inside.pages.items k ≡ Some s
          → HasReserve l.additional s;
      allowed : (k : ℕ) (s : AtlasValue) → k < l.page → slice_get l.self-inside.pages.items k ≡ Some s
          → used_in (state_of s) + l.additional ≤ 16777216;
      later : (k : ℕ) → l.page ≤ k → slice_get l.self-inside.pages.items k ≡ slice_get l.fn.self.pages k;
      states : map state_of l.self-inside.pages.items ≡ map state_of l.fn.self.pages;
      slots : UseAtMost 0 l.fn.self.pages l.self-inside.pages.items;
      kept : KeepsRooms (rooms_of l.self-inside.options l.self-inside.pages.items);
      known : AreKnown l.self-inside.pages.items l.self-inside.known.items;
    }
