-- Generations: how often a slot was taken anew since the last start.
use Rattle.std.specs.Prelude.{◌≡◌, All}
use Rattle.atlas_store.specs.Slots.{nodes}
use Rattle.atlas_search.specs.Numbers.{no_slot}
use Rattle.atlas_store.specs.Stored.{AtlasValue}

-- Each slot is in its first generation, and none is unused.
pub record AreFirstGenerations (v : AtlasValue) : Type 0 where
  pub first : All (λ n. n.generation ≡ 0) (nodes v.stored.shelf.slots)
  pub used : v.stored.shelf.unused.number ≡ no_slot
