-- That slots stand for a numbered tree. No public clause cites this module.
use Rattle.std.specs.Prelude.{ℕ, ◌+◌, ◌≡◌, ◌<◌, ◌⊎◌, List, slice_set}
use Rattle.atlas_search.specs.declared.link.Link.{Link}
use Rattle.atlas_store.specs.declared.slots.Node.{Node}
use Rattle.atlas_store.specs.declared.slots.NodeKind.{NodeKind}
use Rattle.atlas_store.specs.declared.slots.NodeKind.TheVariants as kind
use Rattle.atlas_model.specs.Boxes.{Axis, Position, Box, other, sized, box_at}
use Rattle.atlas_model.specs.Boxes.Axis.{Horizontal, Vertical}
use Rattle.atlas_model.specs.Pixels.{rectangle_of}
use Rattle.atlas_store.specs.Slots.{node_at, use_count, axis_of}
use Rattle.atlas_search.specs.Numbers.{no_slot}
use Rattle.atlas_store.specs.Slots.Numbered.{Numbered, tally, first_slot, End, Free, Alloc, Seq}

-- A sequence: the slot that holds it, its axis, where it lies across and how wide it is there.
pub record Sequence : Type 0 where
  pub parent : ℕ
  pub axis : Axis
  pub start : ℕ
  pub width : ℕ

-- The position at p along an axis and at q across.
abbrev pub spot : Axis → (p q : ℕ) → Position
spot Horizontal p q = record { x = p; y = q }
spot Vertical p q = record { x = q; y = p }

-- The box of a member of a sequence from p on, of extent e.
abbrev pub member_box : Sequence → (p e : ℕ) → Box
member_box s p e = box_at (spot s.axis p s.start) (sized s.axis e s.width)

-- The sequence inside the member of slot i, from p on, of extent e.
abbrev pub inside : Sequence → (i p e : ℕ) → Sequence
inside s i p e = record { parent = i; axis = other s.axis; start = p; width = e }

-- What a node says of its place.
pub record IsLinkedIn (n : Node) (s : Sequence) (before after : ℕ) (k : NodeKind) : Type 0 where
  pub parent : n.parent.number ≡ s.parent
  pub previous : n.previous.number ≡ before
  pub next : n.next.number ≡ after
  pub kind : n.kind ≡ k
  pub axis : axis_of n.axis ≡ s.axis

-- From p on the members of s are `n`, of which the first follows the slot `previous`.
abbrev pub Standing : List Node → Sequence → (previous p : ℕ) → Numbered → Type 0
Standing ns s previous p End = Unit {0}
Standing ns s previous p (Free i e rest) =
    IsLinkedIn (node_at ns i) s previous (first_slot rest) kind.Free
    × ((node_at ns i).area ≡ rectangle_of (member_box s p e))
    × Standing ns s i (p + e) rest
Standing ns s previous p (Alloc i g e rest) =
    IsLinkedIn (node_at ns i) s previous (first_slot rest) kind.Alloc
    × ((node_at ns i).area ≡ rectangle_of (member_box s p e))
    × ((node_at ns i).generation ≡ g)
    × Standing ns s i (p + e) rest
Standing ns s previous p (Seq i e inner rest) =
    IsLinkedIn (node_at ns i) s previous (first_slot rest) kind.Container
    × ((node_at ns i).area ≡ rectangle_of (member_box s p e))
    × Standing ns (inside s i p e) no_slot s.start inner
    × Standing ns s i (p + e) rest

-- The slots hold the tree n, whose top sequence is s; each used slot is the number of one member.
pub record Stands (ns : List Node) (s : Sequence) (n : Numbered) : Type 0 where
  pub standing : Standing ns s no_slot 0 n
  pub numbered : (i : ℕ) → tally i n ≡ use_count (node_at ns i).kind

-- The slots hold some tree.
abbrev pub IsTree : List Node → Type 0
IsTree ns = (s : Sequence) × (n : Numbered) × Stands ns s n

-- The slots hold some tree that nothing holds.
abbrev pub IsWhole : List Node → Type 0
IsWhole ns = (s : Sequence) × (n : Numbered) × (s.parent ≡ no_slot) × Stands ns s n

-- A slot's number, or none.
abbrev pub IsSlot : (count i : ℕ) → Type 0
IsSlot count i = (i ≡ no_slot) ⊎ (i < count)

-- The node at i follows another; nothing happens where i is no slot.
abbrev pub with_previous : List Node → ℕ → Link → List Node
with_previous ns i link = slice_set ns i (record (node_at ns i) { previous = link })

-- Slot i is used for something else.
abbrev pub with_kind : List Node → ℕ → NodeKind → List Node
with_kind ns i k = slice_set ns i (record (node_at ns i) { kind = k })
