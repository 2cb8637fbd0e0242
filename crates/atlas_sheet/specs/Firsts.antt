-- The first or the last element of a list that is so.
use Rattle.std.specs.Prelude.{◌≡◌, List, ◌∷◌, ◌++◌, All}

-- This one stands in the list, and something holds of each one before it.
abbrev pub StandsAfter : {A : Type 0} → (A → Type 0) → List A → A → Type 0
StandsAfter {A} P xs x = (before after : List A) × (xs ≡ before ++ x ∷ after) × All P before

-- This one stands in the list, and something holds of each one after it.
abbrev pub StandsBefore : {A : Type 0} → (A → Type 0) → List A → A → Type 0
StandsBefore {A} P xs x = (before after : List A) × (xs ≡ before ++ x ∷ after) × All P after
