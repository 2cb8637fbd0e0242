use Rattle.std.proofs.Common.{◌≡◌}
use Rattle.guillotiere.specs.Pages.{NoneHasRoomBelow}
use Rattle.atlas_cache.specs.Rooms.{rooms_of, AreKnown}
use Rattle.atlas_cache.proofs.rooms.Rooms.place_before.Given as goal

abbrev pub invariant-loop-page : goal.invariant-loop-page
invariant-loop-page g l =
    record {
      same : rooms_of l.self-inside.options l.self-inside.pages.items ≡ l.fn.self;
      none : NoneHasRoomBelow l.asked l.fn.self.pages l.page;
      known : AreKnown l.self-inside.pages.items l.self-inside.known.items;
    }
