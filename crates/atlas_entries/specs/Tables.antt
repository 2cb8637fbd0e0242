-- How entries are kept: a map from keys to numbers, an order of numbers, and a list with what belongs to each number.
-- No public clause cites this module.
use Rattle.std.specs.Prelude.{ℕ, ◌+◌, ◌≡◌, ◌<◌, ◌≤◌, Bool, true, List, [], ◌∷◌, length, Some, slice_get}
use Rattle.std.specs.Option.{option_map_or}
use Rattle.std.specs.HashMap.{HashMap, get, hash_map_len, spare}
use Rattle.atlas_entries.specs.declared.entries.Entry.{Entry}
use Rattle.atlas_entries.specs.Orders.{Order, IsEntry}
use Rattle.atlas_search.specs.Numbers.{occurs}

module _ {K : Type 0} where
  -- What belongs to each of the numbers.
  abbrev pub numbered : (items : List (Entry K)) → List ℕ → List (ℕ × Entry K)
  numbered items [] = []
  numbered items (n ∷ ns) =
      option_map_or (λ e. (n, e) ∷ numbered items ns) (slice_get items n) (numbered items ns)

  -- The number is that of an entry with this key.
  pub record HasKey (eq : K → K → Bool) (k : K) (n : ℕ) (order : Order) (items : List (Entry K)) : Type 0 where
    pub listed : IsEntry n order
    pub entry : Entry K
    pub stored : slice_get items n ≡ Some entry
    pub same : eq k entry.key ≡ true

  -- What the three keep: the map answers with the number of the entry with that key, and
  -- each entry has its number.
  pub record AreKept {S : Type 0} (eq : K → K → Bool) (map : HashMap K ℕ S) (order : Order)
      (items : List (Entry K)) : Type 0 where
    pub made : order.made ≤ length items
    pub inside : (n : ℕ) → IsEntry n order → n < length items
    pub once : (n : ℕ) → occurs n order.entries ≤ 1
    pub found : (k : K) (n : ℕ) → get eq map k ≡ Some n → HasKey eq k n order items
    pub known : (k : K) (n : ℕ) → HasKey eq k n order items → get eq map k ≡ Some n
    pub own : (n : ℕ) (e : Entry K) → slice_get items n ≡ Some e → e.number ≡ n

  -- There is memory for what the order has in reserve, beside what the entries have: in the map, and in the list with
  -- room for so many entries.
  pub record HasMemory {S : Type 0} (map : HashMap K ℕ S) (order : Order) (room : ℕ) : Type 0 where
    pub places : order.reserved ≤ spare map
    pub held : length order.entries ≤ hash_map_len map
    pub few : length order.entries ≤ order.made
    pub items : length order.entries + order.reserved ≤ room
