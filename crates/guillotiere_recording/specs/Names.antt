-- The live ids with their names, by rising name. No public clause cites this module.
use Rattle.std.specs.Prelude.{◌≡◌, ℕ, ◌<◌, ◌==◌, if◌then◌else◌, List, [], ◌∷◌, AllPairs, count_by, Option, Some, None}
use Rattle.guillotiere.specs.declared.Allocation.{Allocation}
use Rattle.guillotiere.specs.Boxes.{Box, origin}
use Rattle.guillotiere.specs.Pixels.{rectangle_of}
use Rattle.guillotiere.specs.States.{State}
use Rattle.guillotiere.specs.Laws.StepLaws.{live_count}
use Rattle.guillotiere.specs.Replies.{live_box}
use Rattle.guillotiere_recording.specs.declared.names.LiveName.{LiveName}

-- Each name is below all that come after it.
abbrev pub AreRisingNames : List LiveName → Type 0
AreRisingNames names = AllPairs (λ (m n : LiveName). m.name < n.name) names

-- How many entries an id has.
abbrev pub entries_of : ℕ → List LiveName → ℕ
entries_of id names = count_by (λ (n : LiveName). n.id == id) names

-- Each live id has one entry, and no other id has any.
abbrev pub AreLiveIds : State → List LiveName → Type 0
AreLiveIds s names = (id : ℕ) → entries_of id names ≡ live_count id s

-- The name of a live id.
abbrev pub name_among : List LiveName → ℕ → ℕ
name_among [] id = 0
name_among (n ∷ ns) id = if n.id == id then n.name else name_among ns id

abbrev pub box_or_none : Option Box → Box
box_or_none (Some b) = b
box_or_none None = record { min = origin; max = origin }

-- What an entry shows.
abbrev pub shown : State → LiveName → Allocation
shown s n = record { id = n.name; rectangle = rectangle_of (box_or_none (live_box s n.id)) }
