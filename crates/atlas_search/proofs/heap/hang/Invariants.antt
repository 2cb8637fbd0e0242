use Rattle.std.proofs.Common.{ℕ, ◌+◌, ◌<◌, ◌≡◌, length, map}
use Rattle.atlas_search.specs.Ranks.{corner_of}
use Rattle.atlas_search.specs.Heaps.{Heap, IsAbove}
use Rattle.atlas_search.specs.HeapCalls.{AreSeparate, KeepsKinds}
use Rattle.atlas_search.specs.Items.{item_at, item_box}
use Rattle.atlas_search.proofs.HeapLemmas.Hanging.{IsHanging}
use Rattle.atlas_search.proofs.HeapLemmas.Spines.{spine}
use Rattle.atlas_search.proofs.heap.hang.Given as goal

abbrev pub invariant-loop-next : goal.invariant-loop-next
invariant-loop-next g l = record {
  hanging : (up : ℕ) (a : Heap) (under : ℕ) (b : Heap)
      → AreSeparate (map g.E.Entry.item l.fn.entries) up l.fn.top.number a under l.fn.part.number b
      → IsAbove (map g.E.Entry.item l.fn.entries) l.fn.top.number b
      → IsHanging (map g.E.Entry.item l.fn.entries) (map g.E.Entry.item l.entries) up l.fn.top.number a b l.above.number l.rest.number;
  corner : l.rest_corner ≡ corner_of (item_box (item_at (map g.E.Entry.item l.entries) l.rest.number));
  narrow : (item_box (item_at (map g.E.Entry.item l.entries) l.rest.number)).min.x < 4294967296;
  areas : KeepsKinds (map g.E.Entry.item l.fn.entries) (map g.E.Entry.item l.entries);
  bare : map g.E.Linked.bare l.entries ≡ map g.E.Linked.bare l.fn.entries;
}

abbrev pub decreases-loop-next : goal.decreases-loop-next
decreases-loop-next g l =
    spine (map g.E.Entry.item l.entries) (length (map g.E.Entry.item l.entries)) l.above.number
    + spine (map g.E.Entry.item l.entries) (length (map g.E.Entry.item l.entries)) l.rest.number
