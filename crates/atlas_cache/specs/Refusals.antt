-- Why a new entry can be refused.
use Rattle.std.specs.Prelude.{◌≡◌, ◌⊎◌, ℕ}
use Rattle.atlas_entries.specs.declared.error.CacheError.{CacheError}
use Rattle.atlas_entries.specs.declared.error.CacheError.TheVariants.{Numbers}
use Rattle.atlas_entries.specs.Limits.{most_entries}
use Rattle.atlas_cache.specs.Rooms.{IsRefusal}

-- Where so many entries are in use: memory was refused, or the slots of a page don't suffice, or there are as many as there can be.
abbrev pub IsRefusedNew : (entries : ℕ) → CacheError → Type 0
IsRefusedNew entries error = IsRefusal error ⊎ ((error ≡ Numbers) × (entries ≡ most_entries))
