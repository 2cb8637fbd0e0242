-- What the calls on the tree of the slots ask, and what they leave. No public clause cites this module.
use Rattle.std.specs.Prelude.{ℕ, ◌+◌, ◌≡◌, ◌≢◌, ◌<◌, ◌⊎◌, List}
use Rattle.atlas_store.specs.declared.slots.Slot.{Slot}
use Rattle.atlas_store.specs.declared.slots.Node.{Node}
use Rattle.atlas_store.specs.declared.slots.NodeKind.TheVariants as kind
use Rattle.atlas_model.specs.declared.geometry.Size.{Size}
use Rattle.atlas_model.specs.Boxes.{other, side}
use Rattle.atlas_model.specs.Pixels.{sides_of}
use Rattle.atlas_model.specs.Trees.{total}
use Rattle.atlas_store.specs.Slots.{nodes, rings, node_at, KeepsUse}
use Rattle.atlas_search.specs.Numbers.{no_slot}
use Rattle.atlas_store.specs.Slots.Numbered.{Numbered, marked, joined, lifted}
use Rattle.atlas_store.specs.Slots.Numbered.{End, Free, erase, first_slot}
use Rattle.atlas_store.specs.Slots.Standing.{Sequence, Standing, Stands}
use Rattle.atlas_store.specs.Slots.Growing.{Reaches, IsWider, last_slot, stretched, appended, nested, held_by}
use Rattle.atlas_store.specs.Slots.Growing.{stretched_area, top_along, whole_sequence}
use Rattle.atlas_store.specs.Slots.Calm.{IsCalmAt, IsCalmBut}
use Rattle.atlas_store.specs.Slots.Parts.{joined_node}

-- Slot i is a free leaf, and so is the next one.
pub record IsFreePair (ns : List Node) (i : ℕ) : Type 0 where
  pub free : (node_at ns i).kind ≡ kind.Free
  pub next_free : (node_at ns (node_at ns i).next.number).kind ≡ kind.Free

-- Slot i is a free leaf, alone in a container.
pub record IsLoneLeaf (ns : List Node) (i : ℕ) : Type 0 where
  pub free : (node_at ns i).kind ≡ kind.Free
  pub first : (node_at ns i).previous.number ≡ no_slot
  pub last : (node_at ns i).next.number ≡ no_slot
  pub nested : (node_at ns i).parent.number ≢ no_slot

-- The tree that the slots hold, in a sequence s, is changed by `f s`.
abbrev pub ChangesTree : (old new : List Slot) → (Sequence → Numbered → Numbered) → Type 0
ChangesTree old new f = (s : Sequence) (n : Numbered) → Stands (nodes old) s n → Stands (nodes new) s (f s n)

-- Each slot keeps its generation.
abbrev pub KeepGenerations : (old new : List Slot) → Type 0
KeepGenerations old new = (k : ℕ) → (node_at (nodes new) k).generation ≡ (node_at (nodes old) k).generation

-- The granted leaf of slot i is free.
pub record IsLeafFreed (old new : List Slot) (i : ℕ) : Type 0 where
  pub tree : ChangesTree old new (λ s. marked i)
  pub calm : ((k : ℕ) → IsCalmAt (nodes old) k) → IsCalmBut (nodes new) i
  pub leaf : node_at (nodes new) i ≡ record (node_at (nodes old) i) { kind = kind.Free }
  pub others : (k : ℕ) → k ≢ i → KeepsUse (node_at (nodes old) k) (node_at (nodes new) k)
  pub same_rings : rings new ≡ rings old

-- The free leaf of slot i has taken in that of slot j, the next one, which is unused.
pub record IsNextJoined (old new : List Slot) (i j : ℕ) : Type 0 where
  pub tree : ChangesTree old new (λ s. joined i)
  pub calm : (k : ℕ) → IsCalmBut (nodes old) k → (k ≡ i) ⊎ (k ≡ j) → IsCalmBut (nodes new) i
  pub apart : j ≢ i
  pub leaf : node_at (nodes new) i ≡ joined_node (node_at (nodes old) i) (node_at (nodes old) j)
  pub given : node_at (nodes new) j ≡ record (node_at (nodes old) j) { kind = kind.Unused }
  pub others : (k : ℕ) → k ≢ i → k ≢ j → KeepsUse (node_at (nodes old) k) (node_at (nodes new) k)
  pub same_rings : rings new ≡ rings old

-- The container of slot i has given way to its lone leaf of slot c, which is unused.
pub record IsChildLifted (old new : List Slot) (i c : ℕ) : Type 0 where
  pub tree : (s : Sequence) (n : Numbered) → s.parent ≡ no_slot → Stands (nodes old) s n
      → Stands (nodes new) s (lifted i n)
  pub calm : IsCalmBut (nodes old) c → IsCalmBut (nodes new) i
  pub container : (node_at (nodes old) i).kind ≡ kind.Container
  pub leaf : node_at (nodes new) i ≡ record (node_at (nodes old) i) { kind = kind.Free }
  pub given : node_at (nodes new) c ≡ record (node_at (nodes old) c) { kind = kind.Unused }
  pub others : (k : ℕ) → k ≢ i → k ≢ c → KeepsUse (node_at (nodes old) k) (node_at (nodes new) k)
  pub same_rings : rings new ≡ rings old

-- Slot i is a member, and slot k is unused.
pub record CanAppendTo (ns : List Node) (i k : ℕ) : Type 0 where
  pub used : (node_at ns i).kind ≢ kind.Unused
  pub unused : (node_at ns k).kind ≡ kind.Unused

-- The slots hold the tree n in the sequence s. It has members, and the first is that of slot i.
pub record BeginsAt (ns : List Node) (i : ℕ) (s : Sequence) (n : Numbered) : Type 0 where
  pub stands : Stands ns s n
  pub begins : first_slot n ≡ i
  pub some : 0 < total (erase n)

-- The slots hold a tree whose first member is that of slot i.
abbrev pub HasFirst : List Node → (i : ℕ) → Type 0
HasFirst ns i = (s : Sequence) × (n : Numbered) × BeginsAt ns i s n

-- The same, and slots c and k are unused, each another one.
pub record CanNestTop (ns : List Node) (i c k : ℕ) : Type 0 where
  pub tree : HasFirst ns i
  pub container : (node_at ns c).kind ≡ kind.Unused
  pub strip : (node_at ns k).kind ≡ kind.Unused
  pub apart : c ≢ k

-- The tree whose last member is that of slot i is changed by `f d`, where d more comes to the far corner of a size.
abbrev pub ExtendsTree : (old new : List Slot) (size : Size) (i : ℕ) → (ℕ → Numbered → Numbered) → Type 0
ExtendsTree old new size i f =
    (s : Sequence) (n : Numbered) (d : ℕ) → Stands (nodes old) s n → last_slot n ≡ i
    → Reaches (sides_of size) s (total (erase n) + d) → Stands (nodes new) s (f d n)

-- The free leaf of slot i reaches to the far corner of a size, whether it is the last member or the only one.
pub record IsLeafStretched (old new : List Slot) (i : ℕ) (size : Size) : Type 0 where
  pub longer : ExtendsTree old new size i stretched
  pub whole : (s : Sequence) (e : ℕ) → Stands (nodes old) s (Free i e End) → s.start ≡ 0
      → Stands (nodes new) (whole_sequence (sides_of size) s) (Free i (side s.axis (sides_of size)) End)
  pub leaf : node_at (nodes new) i
      ≡ record (node_at (nodes old) i) { area = stretched_area (node_at (nodes old) i).area size }
  pub others : (k : ℕ) → k ≢ i → node_at (nodes new) k ≡ node_at (nodes old) k
  pub generations : KeepGenerations old new
  pub same_rings : rings new ≡ rings old

-- The unused slot k is a free leaf after the last member, of slot i.
pub record IsLeafAppended (old new : List Slot) (i k : ℕ) (size : Size) : Type 0 where
  pub tree : ExtendsTree old new size i (appended k)
  pub free : (node_at (nodes new) k).kind ≡ kind.Free
  pub others : (j : ℕ) → j ≢ k → KeepsUse (node_at (nodes old) j) (node_at (nodes new) j)
  pub generations : KeepGenerations old new
  pub same_rings : rings new ≡ rings old

-- Slot c is the parent of the tree's members.
pub record IsTopHung (old new : List Slot) (i c : ℕ) : Type 0 where
  pub tree : (s : Sequence) (n : Numbered) → BeginsAt (nodes old) i s n
      → Standing (nodes new) (held_by c s) no_slot 0 n
  pub uses : (k : ℕ) → KeepsUse (node_at (nodes old) k) (node_at (nodes new) k)
  pub same_rings : rings new ≡ rings old

-- The unused slot c is a container of the whole tree, which spanned the size `inner`, and the unused slot k a free leaf
-- after it, which reaches to the far corner of the other size.
pub record IsTopNested (old new : List Slot) (i c k : ℕ) (inner size : Size) : Type 0 where
  pub tree : (s : Sequence) (n : Numbered) (d : ℕ) → BeginsAt (nodes old) i s n → s.start ≡ 0
      → Reaches (sides_of inner) s (total (erase n)) → IsWider s.axis (sides_of inner) (sides_of size) d
      → Stands (nodes new) (top_along (other s.axis) (total (erase n))) (nested c k s.width d n)
  pub container : (node_at (nodes new) c).kind ≡ kind.Container
  pub free : (node_at (nodes new) k).kind ≡ kind.Free
  pub others : (j : ℕ) → j ≢ c → j ≢ k → KeepsUse (node_at (nodes old) j) (node_at (nodes new) j)
  pub generations : KeepGenerations old new
  pub same_rings : rings new ≡ rings old
