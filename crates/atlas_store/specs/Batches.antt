-- Lists of ids that are freed together. Public clauses cite `AreLiveOnce` alone.
use Rattle.std.specs.Prelude.{ℕ, ◌≡◌, true, false, List, [], ◌∷◌}
use Rattle.atlas_store.specs.declared.slots.Node.{Node}
use Rattle.atlas_store.specs.declared.slots.NodeKind.TheVariants as kind
use Rattle.atlas_model.specs.Trees.{slot_of}
use Rattle.atlas_model.specs.States.{State, IsLive}
use Rattle.atlas_model.specs.Laws.TreeLaws.{is_among}
use Rattle.atlas_store.specs.Slots.Standing.{with_kind}
use Rattle.atlas_store.specs.Visits.{is_named}

-- Each id is live, and none stands twice.
abbrev pub AreLiveOnce : State → List ℕ → Type 0
AreLiveOnce s [] = Unit {0}
AreLiveOnce s (id ∷ rest) = IsLive s id × (is_among rest id ≡ false) × AreLiveOnce s rest

-- The same of the slots: each id names an allocated one.
abbrev pub AreNamedOnce : List Node → List ℕ → Type 0
AreNamedOnce ns [] = Unit {0}
AreNamedOnce ns (id ∷ rest) = (is_named ns id ≡ true) × (is_among rest id ≡ false) × AreNamedOnce ns rest

-- The slots of these ids are hidden: they are no longer those of allocated leaves, so that no id names them.
abbrev pub hidden : List Node → List ℕ → List Node
hidden ns [] = ns
hidden ns (id ∷ rest) = hidden (with_kind ns (slot_of id) kind.Unused) rest

-- Each id names an allocated slot where those before it are hidden.
abbrev pub AreHidable : List Node → List ℕ → Type 0
AreHidable ns [] = Unit {0}
AreHidable ns (id ∷ rest) = (is_named ns id ≡ true) × AreHidable (with_kind ns (slot_of id) kind.Unused) rest
