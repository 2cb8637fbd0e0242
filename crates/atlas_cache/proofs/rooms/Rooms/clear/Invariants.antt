use Rattle.std.proofs.Common.{◌≡◌, ◌<◌, ℕ, None, length}
use Rattle.guillotiere.specs.Pages.{page_sizes, rectangle_on}
use Rattle.atlas_cache.specs.Reserving.{UseAtMost}
use Rattle.atlas_cache.specs.Rooms.{rooms_of, AreKnown, KeepsRooms}
use Rattle.atlas_cache.proofs.rooms.Rooms.clear.Given as goal

abbrev pub invariant-loop-page : goal.invariant-loop-page
invariant-loop-page g l =
    record {
      idle : (k : ℕ) → k < l.page → (id : ℕ) → rectangle_on l.self-inside.pages.items k id ≡ None;
      same : length l.self-inside.pages.items ≡ l.page-end;
      sizes : page_sizes l.self-inside.pages.items ≡ page_sizes l.fn.self.pages;
      slots : UseAtMost 0 l.fn.self.pages l.self-inside.pages.items;
      options : l.self-inside.options ≡ l.fn.self.options;
      kept : KeepsRooms (rooms_of l.self-inside.options l.self-inside.pages.items);
      known : AreKnown l.self-inside.pages.items l.self-inside.known.items;
    }
