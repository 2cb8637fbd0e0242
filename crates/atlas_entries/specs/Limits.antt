-- How many entries there can be.
use Rattle.std.specs.Prelude.{◌≡◌, ◌⊎◌, ℕ}
use Rattle.atlas_entries.specs.declared.error.CacheError.{CacheError}
use Rattle.atlas_entries.specs.declared.error.CacheError.TheVariants.{Memory, Numbers}

-- As many as there are numbers for them.
abbrev pub most_entries : ℕ
most_entries = 4294967295

-- Where so many entries are in use: memory was refused, or there are as many as there can be.
abbrev pub IsWithoutNumber : (entries : ℕ) → CacheError → Type 0
IsWithoutNumber entries error = (error ≡ Memory) ⊎ ((error ≡ Numbers) × (entries ≡ most_entries))
