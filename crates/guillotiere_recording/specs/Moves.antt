-- What a rearranging did, under names. No public clause cites this module.
use Rattle.std.specs.Prelude.{◌≡◌, ℕ, ◌≤◌, List, All, map, IsPermutation}
use Rattle.std.specs.List.Sorted.{IsNonDecreasingBy}
use Rattle.guillotiere.specs.declared.Allocation.{Allocation}
use Rattle.guillotiere.specs.declared.Change.{Change}
use Rattle.guillotiere.specs.declared.ChangeList.{ChangeList}
use Rattle.guillotiere_recording.specs.declared.names.LiveName.{LiveName}
use Rattle.guillotiere_recording.specs.declared.moves.Moved.{Moved}
use Rattle.guillotiere_recording.specs.Names.{entries_of, name_among}

abbrev pub failure_under : (ℕ → ℕ) → Allocation → Allocation
failure_under name a = record { id = name a.id; rectangle = a.rectangle }

-- Old and new under the name of the old id.
abbrev pub change_under : (ℕ → ℕ) → Change → Change
change_under name c = record {
  old = record { id = name c.old.id; rectangle = c.old.rectangle };
  new = record { id = name c.old.id; rectangle = c.new.rectangle };
}

-- The entry of what was moved: it keeps its name.
abbrev pub entry_under : (ℕ → ℕ) → Change → LiveName
entry_under name c = record { name = name c.old.id; id = c.new.id }

-- Each id that was live has an entry.
pub record AreEntered (names : List LiveName) (changes : List Change) (failures : List Allocation) : Type 0 where
  pub changed : All (λ (c : Change). 1 ≤ entries_of c.old.id names) changes
  pub failed : All (λ (a : Allocation). 1 ≤ entries_of a.id names) failures
  pub once : (id : ℕ) → entries_of id names ≤ 1

-- The answer under names, and the entries of what is live now.
pub record IsMoved {A : Type 0} (names : List LiveName) (answer : ChangeList A) (m : Moved A) : Type 0 where
  pub changes : m.list.changes.items ≡ map (change_under (name_among names)) answer.changes.items
  pub failures : m.list.failures.items ≡ map (failure_under (name_among names)) answer.failures.items
  pub entries : IsPermutation (map (entry_under (name_among names)) answer.changes.items) m.names.items
  pub sorted : IsNonDecreasingBy (λ (n : LiveName). n.name) m.names.items
