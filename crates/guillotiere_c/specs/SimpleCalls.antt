-- What a call does with the simple allocator that a handle holds.
use Rattle.std.specs.Prelude.{◌≤◌, Option, Some, None}
use Rattle.guillotiere.specs.Simple.{SimpleState, SimpleAtlasCall, SimpleAnswer, SimpleStep}
use Rattle.guillotiere.specs.Simple.SimpleAtlasCall.{Start}
use Rattle.guillotiere.specs.Stored.{AtlasValue, state_of}
use Rattle.guillotiere.specs.SimpleStored.{SimpleValue, simple_state_of, UsesOldEntries}

-- A fact of the allocator that is held: the handle holds one, and it is so.
abbrev pub HoldsSimple : Option SimpleValue → (SimpleState → Type 0) → Type 0
HoldsSimple None P = ⊥
HoldsSimple (Some v) P = P (simple_state_of v)

-- The allocator that is held makes a step of the model, and the handle holds it still.
abbrev pub IsHeldSimpleStep : Option SimpleValue → SimpleAtlasCall → SimpleAnswer → Option SimpleValue → Type 0
IsHeldSimpleStep (Some old) call answer (Some new) = SimpleStep (simple_state_of old) call answer (simple_state_of new)
IsHeldSimpleStep (Some old) call answer None = ⊥
IsHeldSimpleStep None call answer new = ⊥

-- The allocator that is held takes over from the atlas that is held.
abbrev pub IsHeldStart : Option SimpleValue → Option AtlasValue → SimpleAnswer → Option SimpleValue → Type 0
IsHeldStart old (Some source) answer new = IsHeldSimpleStep old (Start (state_of source)) answer new
IsHeldStart old None answer new = ⊥

-- The allocator that is held uses unused entries first, and the handle holds it still.
abbrev pub UseOldEntries : (old new : Option SimpleValue) → Type 0
UseOldEntries (Some old) (Some new) = UsesOldEntries old new
UseOldEntries (Some old) None = ⊥
UseOldEntries None new = ⊥

-- The room for entries of the allocator that is held doesn't fall, and the handle holds it still.
abbrev pub KeepRoom : (old new : Option SimpleValue) → Type 0
KeepRoom (Some old) (Some new) = old.capacity ≤ new.capacity
KeepRoom (Some old) None = ⊥
KeepRoom None new = ⊥
