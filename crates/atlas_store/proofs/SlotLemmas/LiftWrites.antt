-- What the writes of `lift` make.
use Rattle.std.proofs.Common.{rules, ℕ, ◌+◌, ◌<◌, ◌≡◌, List, ◌⊎◌, arith, length, get_or-set_same, get_or-set_other, length-set}
use Rattle.atlas_store.specs.declared.slots.Slot.{Slot}
use Rattle.atlas_store.specs.declared.slots.Node.{Node}
use Rattle.atlas_store.specs.declared.slots.NodeKind.TheVariants as kind
use Rattle.atlas_store.specs.Slots.{nodes, rings, node_at}
use Rattle.atlas_search.specs.Numbers.{no_slot}
use Rattle.atlas_store.specs.Slots.Numbered.{Numbered, tally, End, Free, Alloc, Seq}
use Rattle.atlas_store.specs.Slots.Standing.{Sequence, Standing, Stands, IsWhole, inside, with_kind}
use Rattle.atlas_store.specs.Slots.SlotCalls.{IsLoneLeaf, IsChildLifted}
use Rattle.atlas_store.proofs.SlotLemmas.Frames.{same-self, same-ne, keeps-same, split_pos}
use Rattle.atlas_store.proofs.SlotLemmas.JoinWrites.{used-inside, none-unused}
use Rattle.atlas_store.proofs.SlotLemmas.Lifts.{IsLiftOf, Stands-lifted}
use Rattle.atlas_store.proofs.SlotLemmas.Calm.{calm-lifted}

-- A member's parent holds the top sequence, or is a container.
pub parent-kind : (ns : List Node) (k : ℕ) (s : Sequence) (b p : ℕ) (n : Numbered) → Standing ns s b p n → 0 < tally k n
    → ((node_at ns k).parent.number ≡ s.parent) ⊎ ((node_at ns (node_at ns k).parent.number).kind ≡ kind.Container)
parent-kind ns k s b p End h l = absurd (omega arith)
parent-kind ns k s b p (Free j e rest) h l = grind (arith, parent-kind ns k s j (p + e) rest h.2, same-ne)
parent-kind ns k s b p (Alloc j g e rest) h l = grind (arith, parent-kind ns k s j (p + e) rest h.3, same-ne)
parent-kind ns k s b p (Seq j e inner rest) h l =
    search (
      rules,
      split_pos,
      same-ne,
      parent-kind ns k (inside s j p e) no_slot s.start inner h.2,
      same-self,
      parent-kind ns k s j (p + e) rest h.3,
    )

pub container-kind : (ns : List Node) (k : ℕ) → (s : Sequence) (n : Numbered) → s.parent ≡ no_slot → Stands ns s n
    → (node_at ns k).kind ≡ kind.Free → ((node_at ns k).parent.number ≡ no_slot → ⊥)
    → (node_at ns (node_at ns k).parent.number).kind ≡ kind.Container
container-kind ns k s n top h f np = grind (arith, parent-kind)

pub lift_is : (ns ms1 ms : List Node) (child : ℕ) → length ns < no_slot → IsWhole ns → IsLoneLeaf ns child
    → ms1 ≡ with_kind ns (node_at ns child).parent.number kind.Free → ms ≡ with_kind ms1 child kind.Unused
    → IsLiftOf ns ms (node_at ns child).parent.number child
lift_is ns ms1 ms k short t lone e1 e =
    grind (arith, container-kind, used-inside, length-set, get_or-set_other, none-unused, get_or-set_same)

pub container-inside : (ns : List Node) (child m : ℕ) → IsWhole ns → IsLoneLeaf ns child → m ≡ length ns
    → (node_at ns child).parent.number < m
container-inside ns child m t lone em =
    let box = container-kind ns child t.0 t.1 t.2 t.3 lone.free lone.nested in
    rw em (used-inside ns (node_at ns child).parent.number (rw box (omega arith)))

-- What `lift` leaves.
pub child-lifted : (old new : List Slot) (ms1 : List Node) (child : ℕ) → length (nodes old) < no_slot
    → IsWhole (nodes old) → IsLoneLeaf (nodes old) child
    → ms1 ≡ with_kind (nodes old) (node_at (nodes old) child).parent.number kind.Free
    → nodes new ≡ with_kind ms1 child kind.Unused → rings new ≡ rings old
    → IsChildLifted old new (node_at (nodes old) child).parent.number child
child-lifted old new ms1 child short t lone e1 e same =
    grind (
      arith,
      lift_is (nodes old) ms1 (nodes new) child short t lone e1 e,
      Stands-lifted,
      calm-lifted,
      keeps-same,
    )
