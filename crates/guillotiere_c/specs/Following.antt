-- A cache with the changes that its caller has yet to be told.
use Rattle.std.specs.Prelude.{◌≡◌, ◌+◌, ◌≤◌, ℕ, List, [], length, Option, Some, None}
use Rattle.atlas_cache.specs.declared.changes.CacheChange.{CacheChange}
use Rattle.atlas_cache.specs.declared.options.CacheOptions.{CacheOptions}
use Rattle.atlas_cache.specs.Caches.{CacheState, nothing_held}

-- A cache, the changes that weren't handed over yet, the first first, and for how many more there is memory.
pub record Followed : Type 0 where
  pub cache : CacheState ℕ
  pub changes : List (CacheChange ℕ)
  pub room : ℕ

-- A new cache: it holds nothing, and nothing changed.
abbrev pub new_cache : CacheOptions → Followed
new_cache o = record { cache = nothing_held o; changes = []; room = 0 }

-- A fact of the cache that is held: the handle holds one, and it is so.
abbrev pub HoldsCache : Option Followed → (Followed → Type 0) → Type 0
HoldsCache None P = ⊥
HoldsCache (Some f) P = P f

-- A fact of the cache that was held and of that which is held: the handle held one and holds one, and it is so.
abbrev pub GoesOver : (old new : Option Followed) → (Followed → Followed → Type 0) → Type 0
GoesOver (Some f) (Some g) R = R f g
GoesOver (Some f) None R = ⊥
GoesOver None new R = ⊥

-- The same changes weren't handed over, and there is memory for as many more.
abbrev pub KeepsChanges : (f g : Followed) → Type 0
KeepsChanges f g = (g.changes ≡ f.changes) × (g.room ≡ f.room)

-- The list of changes has memory for no fewer than before, those that wait included.
abbrev pub KeepsRoom : (f g : Followed) → Type 0
KeepsRoom f g = f.room + length f.changes ≤ g.room + length g.changes

-- Nothing happened to the cache, and the same changes weren't handed over; there is memory for no fewer.
abbrev pub IsAsItWas : (f g : Followed) → Type 0
IsAsItWas f g = (g.cache ≡ f.cache) × (g.changes ≡ f.changes) × (f.room ≤ g.room)

-- The handle holds what it held: nothing, or a cache to which nothing happened.
abbrev pub StaysHeld : (old new : Option Followed) → Type 0
StaysHeld None new = new ≡ None
StaysHeld (Some f) None = ⊥
StaysHeld (Some f) (Some g) = IsAsItWas f g
