-- Lists of slots by the slots' rings. No public clause cites this module.
use Rattle.std.specs.Prelude.{ℕ, ◌+◌, ◌≡◌, ◌<◌, ◌==◌, ◌&&◌, ◌⊎◌, Bool, List, [], ◌∷◌, length}
use Rattle.std.specs.Prelude.{if◌then◌else◌}
use Rattle.atlas_search.specs.declared.link.Link.{Link}
use Rattle.atlas_store.specs.declared.slots.Node.{Node}
use Rattle.atlas_store.specs.declared.slots.Ring.{Ring}
use Rattle.atlas_model.specs.Boxes.{Sides, box_sides}
use Rattle.atlas_model.specs.Pixels.{box_of}
use Rattle.atlas_model.specs.Choice.{Options}
use Rattle.atlas_search.specs.Bands.{list_of}
use Rattle.atlas_search.specs.Tables.{head_of}
use Rattle.atlas_store.specs.Slots.{node_at, ring_at, use_count}
use Rattle.atlas_search.specs.Numbers.{front, no_slot, occurs}
use Rattle.atlas_search.specs.Forks.{IsListed}
use Rattle.atlas_store.specs.declared.slots.lists.Recent.{Recent}
pub use Rattle.atlas_store.specs.Slots.Entries.{entries, is_free}

-- List k, which begins with this link, has the slots xs in some order.
unfoldable pub IsLinked : List Node → List Ring → (k : ℕ) → (first : Link) → List ℕ → Type 0
IsLinked ns rs k first xs = IsListed (entries ns rs) k first.number xs

-- The list xs of unused slots runs through the rings, by what is on the right of each.
abbrev pub Line : List Ring → List ℕ → Type 0
Line rs [] = Unit {0}
Line rs (x ∷ xs) = (x < length rs) × ((ring_at rs x).right.number ≡ front xs) × Line rs xs

-- The sides of a slot's rectangle.
abbrev pub node_sides : Node → Sides
node_sides n = box_sides (box_of n.area)

-- 1 if a slot belongs in list k.
abbrev pub filed : Options → (k : ℕ) → Node → ℕ
filed o k n = if is_free n.kind && list_of o (node_sides n) == k then 1 else 0

-- List k holds the slots xs: the free ones that belong in it, but for those that are detached.
pub record IsFiled (o : Options) (ns : List Node) (rs : List Ring) (heads : List Link) (k : ℕ) (xs : List ℕ)
    (detached : ℕ → Bool) : Type 0 where
  pub links : IsLinked ns rs k (head_of heads k) xs
  pub each : (i : ℕ) → occurs i xs ≡ (if detached i then 0 else filed o k (node_at ns i))

-- Where slots stand: `unused_list` has the unused ones, `free_lists k` those of list k, `claimed i` counts a slot that
-- is taken and not used yet, and `detached` are the free ones that stand in no list.
pub record Places : Type 0 where
  pub unused_list : List ℕ
  pub free_lists : ℕ → List ℕ
  pub claimed : ℕ → ℕ
  pub detached : ℕ → Bool

-- The lists of free slots and the list of unused ones hold what stands there.
pub record AreFiled (o : Options) (ns : List Node) (rs : List Ring) (heads : List Link) (unused : Link)
    (p : Places) : Type 0 where
  pub free : (k : ℕ) → k < 2704 → IsFiled o ns rs heads k (p.free_lists k) p.detached
  pub line : Line rs p.unused_list
  pub begins : unused.number ≡ front p.unused_list
  pub each : (i : ℕ) → i < length rs → occurs i p.unused_list + p.claimed i + use_count (node_at ns i).kind ≡ 1

-- The slot that was listed last, if it is kept, stands in the list of that number.
unfoldable pub IsRecent : Recent → (free_lists : ℕ → List ℕ) → Type 0
IsRecent r free_lists = (r.at.number ≡ no_slot) ⊎ (0 < occurs r.at.number (free_lists r.list))
