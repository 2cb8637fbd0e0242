-- What slots say of a normal tree, slot by slot. No public clause cites this module.
use Rattle.std.specs.Prelude.{ℕ, ◌≡◌, List}
use Rattle.atlas_store.specs.declared.slots.Node.{Node}
use Rattle.atlas_store.specs.declared.slots.NodeKind.TheVariants as kind
use Rattle.atlas_model.specs.Trees.{Members}
use Rattle.atlas_model.specs.Trees.Members.{End, Free, Alloc, Seq}
use Rattle.atlas_store.specs.Slots.{node_at}
use Rattle.atlas_search.specs.Numbers.{no_slot}

-- If the slot k is free, the next one isn't, and it isn't alone in a container.
pub record IsCalmAt (ns : List Node) (k : ℕ) : Type 0 where
  pub apart : (node_at ns k).kind ≡ kind.Free → (node_at ns (node_at ns k).next.number).kind ≡ kind.Free → ⊥
  pub nested : (node_at ns k).kind ≡ kind.Free → (node_at ns k).previous.number ≡ no_slot
      → (node_at ns k).next.number ≡ no_slot → (node_at ns k).parent.number ≡ no_slot

-- Each slot but `at` is calm, but for a next one that is `at`.
pub record IsCalmBut (ns : List Node) (at : ℕ) : Type 0 where
  pub apart : (k : ℕ) → (k ≡ at → ⊥) → (node_at ns k).kind ≡ kind.Free
      → (node_at ns (node_at ns k).next.number).kind ≡ kind.Free → (node_at ns k).next.number ≡ at
  pub nested : (k : ℕ) → (k ≡ at → ⊥) → (node_at ns k).kind ≡ kind.Free → (node_at ns k).previous.number ≡ no_slot
      → (node_at ns k).next.number ≡ no_slot → (node_at ns k).parent.number ≡ no_slot

-- No nested sequence is empty.
abbrev pub NoneEmpty : Members → Type 0
NoneEmpty End = Unit {0}
NoneEmpty (Free e rest) = NoneEmpty rest
NoneEmpty (Alloc id e rest) = NoneEmpty rest
NoneEmpty (Seq e inner rest) = (inner ≡ End → ⊥) × NoneEmpty inner × NoneEmpty rest
