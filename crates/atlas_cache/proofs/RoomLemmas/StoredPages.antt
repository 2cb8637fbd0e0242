-- Pages that store the same stand for the same.
use Rattle.std.proofs.Common.{◌≡◌, ◌∙◌, ◌+◌, ◌<◌, ◌++◌, ◌∷◌, [], ℕ, List, get_or, length, map, take, refl, sym, ap}
use Rattle.std.proofs.lemmas.List.{map_more, map_push}
use Rattle.guillotiere.specs.States.{State}
use Rattle.guillotiere.specs.Stored.{AtlasValue, Stored, state_of}
use Rattle.atlas_cache.specs.Rooms.{stored_on}

abbrev state_stored : Stored → State
state_stored v = state_of (record { stored = v; turns = 0; capacity = 0 })

states_stored : (pages : List AtlasValue) → map state_of pages ≡ map state_stored (stored_on pages)
states_stored [] = refl
states_stored (p ∷ pages) = ap (λ ss. state_of p ∷ ss) (states_stored pages)

pub states_same : (old new : List AtlasValue) → stored_on new ≡ stored_on old → map state_of new ≡ map state_of old
states_same old new same = states_stored new ∙ ap (map state_stored) same ∙ sym (states_stored old)

-- One more page is copied.
pub stored_more : (pages copies : List AtlasValue) (k : ℕ) (s t : AtlasValue) → k < length pages → s ≡ get_or pages k s
    → t.stored ≡ s.stored → stored_on copies ≡ stored_on (take k pages)
    → stored_on (copies ++ t ∷ []) ≡ stored_on (take (k + 1) pages)
stored_more pages copies k s t within is same before =
    map_push (λ (v : AtlasValue). v.stored) copies t
    ∙ ap (λ (vs : List Stored). vs ++ t.stored ∷ []) before
    ∙ ap (λ (v : Stored). stored_on (take k pages) ++ v ∷ []) (same ∙ ap (λ (v : AtlasValue). v.stored) is)
    ∙ sym (map_more (λ (v : AtlasValue). v.stored) pages k s within)
