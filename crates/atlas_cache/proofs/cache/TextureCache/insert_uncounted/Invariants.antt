use Rattle.std.proofs.Common.{◌≡◌, ◌≤◌, ℕ, length, vec_capacity, None}
use Rattle.atlas_cache.specs.Caches.{entry_for, steps_left, HasNoPageFor, IsFull}
use Rattle.atlas_cache.specs.Reserving.{room_in, HasReserves, UseAtMost}
use Rattle.atlas_cache.specs.Rooms.{HasRoomOnlyAmong}
use Rattle.atlas_cache.proofs.LoopLemmas.{Reached}
use Rattle.atlas_cache.proofs.cache.TextureCache.insert_uncounted.Given as goal

abbrev pub invariant-loop-place : goal.invariant-loop-place
invariant-loop-place g l =
    record {
      reached : Reached l.asked l.fn.changes.items l.changes.items l.fn.self l.self;
      absent : entry_for g.K.PartialEq.eq l.key l.self.entries ≡ None;
      capacity : vec_capacity l.fn.changes ≤ vec_capacity l.changes;
      options : l.self.options ≡ l.fn.self.options;
      inside : l.to ≤ length l.self.pages;
      others : HasRoomOnlyAmong l.asked l.self.pages l.from l.to;
      full : IsFull l.fn.self → IsFull l.self;
      keeps : (HasNoPageFor l.asked l.fn.self → IsFull l.fn.self) → HasNoPageFor l.asked l.self → IsFull l.self;
      reserves : (n : ℕ) → (HasNoPageFor l.asked l.fn.self → IsFull l.fn.self)
          → HasReserves n (room_in l.fn.changes) l.fn.self
          → HasReserves n (room_in l.changes) l.self;
      slots : (HasNoPageFor l.asked l.fn.self → IsFull l.fn.self) → UseAtMost 0 l.fn.self.pages l.self.pages;
    }

abbrev pub decreases-loop-place : goal.decreases-loop-place
decreases-loop-place g l = steps_left l.self
