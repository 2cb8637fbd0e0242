-- Memory for slots that aren't used yet.
use Rattle.std.specs.Prelude.{ℕ, ◌+◌, ◌≤◌}
use Rattle.atlas_model.specs.States.{used_in}
use Rattle.atlas_store.specs.Stored.{AtlasValue, state_of}

-- So many more slots can be used before memory is asked for.
abbrev pub HasReserve : ℕ → AtlasValue → Type 0
HasReserve n v = used_in (state_of v) + n ≤ v.capacity

-- At most n more slots are used, and there is memory for no fewer.
pub record UsesAtMost (n : ℕ) (old new : AtlasValue) : Type 0 where
  pub used : used_in (state_of new) ≤ used_in (state_of old) + n
  pub capacity : old.capacity ≤ new.capacity
