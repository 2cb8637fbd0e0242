-- Names that stand once.
use Rattle.std.specs.Prelude.{◌≡◌, ◌≢◌, ℕ, ◌+◌, ◌<◌, ⊤, List, length, slice_index_or, string_bytes}
use Rattle.atlas_pack.specs.declared.error.PackError.{PackError}
use Rattle.atlas_pack.specs.declared.error.PackError.TheVariants as error
use Rattle.atlas_pack.specs.declared.sprites.Sprite.{Sprite}

-- No two sprites have one name.
abbrev pub AreDistinct : List Sprite → Type 0
AreDistinct sprites =
    (j k : ℕ) (d : Sprite) → j < k → k < length sprites
    → string_bytes (slice_index_or sprites j d).name ≢ string_bytes (slice_index_or sprites k d).name

-- The sprite with this number has the name of an earlier one.
abbrev pub IsNamedAgain : List Sprite → ℕ → Type 0
IsNamedAgain sprites k =
    (k < length sprites) × ((d : Sprite) → (j : ℕ) × (j < k)
    × (string_bytes (slice_index_or sprites j d).name ≡ string_bytes (slice_index_or sprites k d).name))

-- What an error says of the names of sprites, before whose lines others stand.
abbrev pub IsNameFault : (before : ℕ) → List Sprite → PackError → Type 0
IsNameFault before sprites (error.Twice number) = (k : ℕ) × (number ≡ before + k + 1) × IsNamedAgain sprites k
IsNameFault before sprites error.Memory = ⊤
IsNameFault before sprites e = ⊥
