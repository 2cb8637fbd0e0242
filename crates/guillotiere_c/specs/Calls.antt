-- What a call does with the atlas that a handle holds.
use Rattle.std.specs.Prelude.{◌≡◌, ◌≤◌, ℕ, List, Option, Some, None}
use Rattle.guillotiere.specs.Laws.TreeLaws.{is_among}
use Rattle.guillotiere.specs.Reserves.{HasReserve}
use Rattle.guillotiere.specs.States.{State, after_freeing}
use Rattle.guillotiere.specs.Steps.{AtlasCall, AtlasReply, Step}
use Rattle.guillotiere.specs.Stored.{AtlasValue, state_of}

-- A fact of the atlas that is held: the handle holds one, and it is so.
abbrev pub HoldsAtlas : Option AtlasValue → (State → Type 0) → Type 0
HoldsAtlas None P = ⊥
HoldsAtlas (Some v) P = P (state_of v)

-- The atlas that is held makes a step of the model, and the handle holds it still.
abbrev pub IsHeldStep : Option AtlasValue → AtlasCall → AtlasReply → Option AtlasValue → Type 0
IsHeldStep (Some old) call reply (Some new) = Step (state_of old) call reply (state_of new)
IsHeldStep (Some old) call reply None = ⊥
IsHeldStep None call reply new = ⊥

-- Both handles hold an atlas, and what the two store is equal.
abbrev pub StoreEqual : (copy atlas : Option AtlasValue) → Type 0
StoreEqual (Some copy) (Some atlas) = copy.stored ≡ atlas.stored
StoreEqual None atlas = ⊥
StoreEqual (Some copy) None = ⊥

-- The ids of a list are freed, and the handle holds the atlas still.
abbrev pub FreesAll : (old : Option AtlasValue) → List ℕ → (new : Option AtlasValue) → Type 0
FreesAll (Some old) ids (Some new) = state_of new ≡ after_freeing (state_of old) (is_among ids)
FreesAll (Some old) ids None = ⊥
FreesAll None ids new = ⊥

-- The atlas that is held has memory for so many slots beside those that are used.
abbrev pub HoldsReserve : ℕ → Option AtlasValue → Type 0
HoldsReserve n None = ⊥
HoldsReserve n (Some v) = HasReserve n v

-- The atlas that is held stays as it is, but that it may have memory for more slots.
abbrev pub GainsMemory : (old new : Option AtlasValue) → Type 0
GainsMemory (Some old) (Some new) =
    (new.stored ≡ old.stored) × (new.turns ≡ old.turns) × (old.capacity ≤ new.capacity)
GainsMemory (Some old) None = ⊥
GainsMemory None new = ⊥
