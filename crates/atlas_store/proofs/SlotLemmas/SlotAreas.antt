-- The rectangle that a used slot stores is that of a member.
use Rattle.std.proofs.Common.{ℕ, ◌<◌, ◌≡◌, List, length, refl, arith}
use Rattle.std.proofs.lemmas.List.{length-map}
use Rattle.atlas_store.specs.declared.slots.Slot.{Slot}
use Rattle.atlas_store.specs.declared.slots.Node.{Node}
use Rattle.atlas_store.specs.declared.slots.NodeKind.TheVariants as kind
use Rattle.atlas_model.specs.declared.geometry.Rectangle.{Rectangle}
use Rattle.atlas_model.specs.Boxes.{Box}
use Rattle.atlas_model.specs.Pixels.{rectangle_of}
use Rattle.atlas_store.specs.Slots.{nodes, node_at, use_count, node_of}
use Rattle.atlas_search.specs.Numbers.{no_slot}
use Rattle.atlas_store.specs.Slots.Numbered.{Numbered, tally, first_slot, End}
use Rattle.atlas_store.specs.Slots.Standing.{Sequence, Standing, Stands, IsTree}
use Rattle.atlas_store.proofs.SlotLemmas.Frames.{used-inside}
use Rattle.atlas_store.proofs.SlotLemmas.Suffixes.{suffix-at}
use Rattle.atlas_search.specs.Rectangles.{IsUnsigned}

pub exact_of : (r : Rectangle) (b : Box) → r ≡ rectangle_of b → IsUnsigned r
exact_of r b e = rw e refl

first-exact : (ns : List Node) (i : ℕ) (s : Sequence) (b p : ℕ) (m : Numbered) → first_slot m ≡ i → 0 < tally i m
    → Standing ns s b p m → IsUnsigned (node_at ns i).area
first-exact ns i s b p End e l h = absurd (omega arith)
first-exact ns i s b p m e l h = rw (← e) (exact_of _ _ h.1)

-- Each used slot stores the rectangle of a box.
pub Stands-exact : (ns : List Node) (i : ℕ) (s : Sequence) (n : Numbered) → Stands ns s n
    → 0 < use_count (node_at ns i).kind → IsUnsigned (node_at ns i).area
Stands-exact ns i s n h l =
    grind (arith, suffix-at ns i s no_slot 0 n h.standing (rw (h.numbered i) l), first-exact ns i)

pub free-exact : (ns : List Node) (i : ℕ) → IsTree ns → (node_at ns i).kind ≡ kind.Free → IsUnsigned (node_at ns i).area
free-exact ns i t f = Stands-exact ns i t.0 t.1 t.2 (rw f (omega arith))

pub read-exact : (ns : List Node) (i : ℕ) (n : Node) → n ≡ node_at ns i → IsTree ns → (node_at ns i).kind ≡ kind.Free
    → IsUnsigned n.area
read-exact ns i n e t f = rw e (free-exact ns i t f)

-- A free slot is one of the slots.
pub free-inside : (slots : List Slot) (i : ℕ) → (node_at (nodes slots) i).kind ≡ kind.Free → i < length slots
free-inside slots i free =
    omega (arith, used-inside (nodes slots) i (rw free (omega arith)), length-map slots node_of)
