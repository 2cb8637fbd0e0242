-- Marks of unused slots, and the list that takes them away. No public clause cites this module.
use Rattle.std.specs.Prelude.{ℕ, ◌+◌, ◌≡◌, ◌<◌, ◌≤◌, Bool, true, false, List, length, slice_index_or}
use Rattle.atlas_search.specs.Numbers.{front, occurs}
use Rattle.atlas_store.specs.declared.slots.Node.{Node}
use Rattle.atlas_store.specs.declared.slots.NodeKind.{NodeKind}
use Rattle.atlas_store.specs.declared.slots.NodeKind.TheVariants as kind
use Rattle.atlas_store.specs.Store.Restoring.{NodeLine}

abbrev pub is_unused_kind : NodeKind → Bool
is_unused_kind kind.Unused = true
is_unused_kind _ = false

abbrev pub is_unused : Node → Bool
is_unused n = is_unused_kind n.kind

abbrev pub count_of : Bool → ℕ
count_of true = 1
count_of false = 0

-- 1 where slot i is marked.
abbrev pub mark_count : List Bool → ℕ → ℕ
mark_count marks i = count_of (slice_index_or marks i false)

abbrev pub AreUnmarked : List Bool → Type 0
AreUnmarked marks = (i : ℕ) → i < length marks → mark_count marks i ≡ 0

-- The list xs begins at `first`, and has marked slots alone, none twice.
pub record IsMarkedLine (ns : List Node) (marks : List Bool) (first : ℕ) (xs : List ℕ) : Type 0 where
  pub line : NodeLine ns xs
  pub begins : first ≡ front xs
  pub marked : (i : ℕ) → occurs i xs ≤ mark_count marks i

-- The list xs begins at `first`, and its slots are those whose marks went.
pub record IsTakenFrom (ns : List Node) (old new : List Bool) (first : ℕ) (xs : List ℕ) : Type 0 where
  pub line : NodeLine ns xs
  pub begins : first ≡ front xs
  pub taken : (i : ℕ) → occurs i xs + mark_count new i ≡ mark_count old i
