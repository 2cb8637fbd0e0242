-- What calls on entries keep of the memory that is in reserve.
use Rattle.std.proofs.Common.{ℕ, ◌+◌, ◌≤◌, ◌≡◌, max, List, length, Option, None, Some, is_some, if◌then◌else◌, arith}
use Rattle.std.specs.HashMap.{HashMap, hash_map_len, spare}
use Rattle.atlas_entries.specs.Orders.{IsEntry, Order, gone, used, with_newest, with_reserve}
use Rattle.atlas_entries.specs.Tables.{HasMemory}
use Rattle.atlas_search.proofs.Occurrences.{length-without}

-- What a removal takes from a map is at most one.
pub one-at-most : (o : Option ℕ) → (if is_some o then 1 else 0) ≤ 1
one-at-most None = omega arith
one-at-most (Some n) = omega arith

module _ {K S : Type 0} (map : HashMap K ℕ S) (order : Order) (room : ℕ) (h : HasMemory map order room) where
  -- The entries have a place each in the list.
  pub entries-fit : {X : Type 0} (items : List X) → order.made ≤ length items → length order.entries ≤ length items
  entries-fit items made = omega (arith, h.few, made)

  -- Another map and another list with as much memory.
  pub memory-kept : (new : HashMap K ℕ S) (more : ℕ) → spare map ≤ spare new → hash_map_len new ≡ hash_map_len map
      → room ≤ more
      → HasMemory new order more
  memory-kept new more places held items = record {
    places = omega (arith, h.places, places);
    held = omega (arith, h.held, held);
    few = h.few;
    items = omega (arith, h.items, items);
  }

  -- Another map and another list with memory for the entries alone.
  pub memory-copied : (new : HashMap K ℕ S) (more : ℕ) → hash_map_len map ≤ hash_map_len new
      → length order.entries ≤ more → HasMemory new (record order { reserved = 0 }) more
  memory-copied new more held items = record {
    places = omega arith;
    held = omega (arith, h.held, held);
    few = h.few;
    items = omega (arith, items);
  }

  -- More is in reserve.
  pub memory-reserved : (new : HashMap K ℕ S) (more n : ℕ) → spare map ≤ spare new → n ≤ spare new
      → hash_map_len new ≡ hash_map_len map
      → room ≤ more → length order.entries + n ≤ more → HasMemory new (with_reserve n order) more
  memory-reserved new more n places asked held items fits = record {
    places = omega (arith, h.places, places, asked);
    held = omega (arith, h.held, held);
    few = h.few;
    items = omega (arith, h.items, items, fits);
  }

  -- An entry is used.
  pub memory-used : (n : ℕ) → IsEntry n order → HasMemory map (used n order) room
  memory-used n l = record {
    places = h.places;
    held = omega (arith, h.held, length-without n order.entries l);
    few = omega (arith, h.few, length-without n order.entries l);
    items = omega (arith, h.items, length-without n order.entries l);
  }

  -- An entry goes, from the map and from the order.
  pub memory-gone : (n : ℕ) (new : HashMap K ℕ S) → IsEntry n order → spare map ≤ spare new
      → hash_map_len map ≤ hash_map_len new + 1
      → HasMemory new (gone n order) room
  memory-gone n new l places held = record {
    places = omega (arith, h.places, places);
    held = omega (arith, h.held, held, length-without n order.entries l);
    few = omega (arith, h.few, length-without n order.entries l);
    items = omega (arith, h.items, length-without n order.entries l);
  }

  -- An entry joins, which takes one of those in reserve, if there are any.
  pub memory-joined : (n : ℕ) (new : HashMap K ℕ S) (more : ℕ) → spare map ≤ spare new + 1
      → hash_map_len new ≡ hash_map_len map + 1 → length order.entries + 1 ≤ max order.made (n + 1) → room ≤ more
      → max order.made (n + 1) ≤ more → HasMemory new (with_newest n order) more
  memory-joined n new more places held few items fits = record {
    places = omega (arith, h.places, places);
    held = omega (arith, h.held, held);
    few = omega (arith, few);
    items = omega (arith, h.items, items, few, fits);
  }
