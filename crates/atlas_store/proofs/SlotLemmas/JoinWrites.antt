-- What the writes of `join_next` make.
use Rattle.std.proofs.Common.{ℕ, ◌<◌, ◌≤◌, ◌≡◌, List, refl, sym, ap, ◌∙◌, inl, inr, arith, length, set, get_or-set_same, get_or-set_other}
use Rattle.std.proofs.Common.{length-set}
use Rattle.std.proofs.lemmas.List.{get_or_past}
use Rattle.atlas_store.specs.declared.slots.Node.{Node}
use Rattle.atlas_search.specs.declared.link.Link.{Link}
use Rattle.atlas_store.specs.declared.slots.NodeKind.TheVariants as kind
use Rattle.atlas_store.specs.Slots.{node_at, blank_node}
use Rattle.atlas_search.specs.Numbers.{no_slot}
use Rattle.atlas_store.specs.Slots.Numbered.{Numbered, tally, first_slot, End, Free}
use Rattle.atlas_store.specs.Slots.SlotCalls.{IsFreePair}
use Rattle.atlas_store.specs.Slots.Parts.{joined_node}
use Rattle.atlas_store.specs.Slots.Standing.{Sequence, Standing, IsTree, IsSlot, with_kind, with_previous}
use Rattle.atlas_store.proofs.SlotLemmas.Frames.{same-self, used-le}
use Rattle.atlas_store.proofs.SlotLemmas.MemberLinks.{next-in, first-in}
use Rattle.atlas_store.proofs.SlotLemmas.Suffixes.{suffix-at}
use Rattle.atlas_store.proofs.SlotLemmas.Joins.{IsJoinOf}
pub use Rattle.atlas_store.proofs.SlotLemmas.Frames.{used-inside}

-- No node is past the end.
pub none-unused : (ns : List Node) → length ns < no_slot → (node_at ns no_slot).kind ≡ kind.Unused
none-unused ns l = ap (λ (n : Node). n.kind) (get_or_past ns no_slot blank_node (omega arith))

-- A kind that is not Unused is none's neither.
pub not-none : (ns : List Node) (i : ℕ) → (node_at ns no_slot).kind ≡ kind.Unused → (node_at ns i).kind ≡ kind.Free
    → i ≡ no_slot → ⊥
not-none ns i u f e = let l : (node_at ns i).kind ≡ kind.Unused = rw (e, u) refl in cc

abbrev pub AreThreeSlots : ℕ → ℕ → ℕ → Type 0
AreThreeSlots i j a = (j ≡ i → ⊥) × (a ≡ i → ⊥) × (a ≡ j → ⊥)

-- A free member, the next, which is free too, and what follows are three slots.
apart_first : (ns : List Node) (i j a : ℕ) (s : Sequence) (b p : ℕ) (m : Numbered)
    → (node_at ns no_slot).kind ≡ kind.Unused → (node_at ns i).kind ≡ kind.Free → (node_at ns i).next.number ≡ j
    → (node_at ns j).kind ≡ kind.Free → (node_at ns j).next.number ≡ a → first_slot m ≡ i → ((k : ℕ) → tally k m ≤ 1)
    → Standing ns s b p m → AreThreeSlots i j a
apart_first ns i j a s b p End u fi nj fj na ei once h = absurd (not-none ns i u fi (sym ei))
apart_first ns i j a s b p (Free k e End) u fi nj fj na ei once h = grind (arith, not-none)
apart_first ns i j a s b p (Free k e (Free k2 d tail)) u fi nj fj na ei once h =
    grind (arith, same-self, first-in, not-none)
apart_first ns i j a s b p m u fi nj fj na ei once h = grind arith

-- What the tree says before the join.
pub record CanJoin (ns : List Node) (i j a : ℕ) : Type 0 where
  pub apart : AreThreeSlots i j a
  pub after : IsSlot (length ns) a

pub can-join : (ns : List Node) (i j a : ℕ) → length ns < no_slot → IsTree ns → (node_at ns i).kind ≡ kind.Free
    → (node_at ns i).next.number ≡ j → (node_at ns j).kind ≡ kind.Free → (node_at ns j).next.number ≡ a
    → CanJoin ns i j a
can-join ns i j a short t fi nj fj na =
    let s = t.0 in
    let n = t.1 in
    let h = t.2 in
    let u = none-unused ns short in
    let once : (k : ℕ) → tally k n ≤ 1 = λ k. omega (arith, h.numbered k, used-le (node_at ns k).kind) in
    let here : 0 < tally i n = rw (h.numbered i, fi) (omega arith) in
    let here_j : 0 < tally j n = rw (h.numbered j, fj) (omega arith) in
    let f = suffix-at ns i s no_slot 0 n h.standing here in
    record {
      apart = apart_first ns i j a f.at f.before f.start f.members u fi nj fj na f.begins (λ k. omega (arith, f.within k, once k))
          f.standing;
      after = elim (next-in ns j s no_slot 0 n h.standing here_j) [
        | inl z ↦ inl (sym na ∙ z)
        | inr y ↦ inr
            (used-inside ns a (rw (← h.numbered a, ← na) y))
      ];
    }

pub joined-by : (ns ms : List Node) (i j a : ℕ) (n1 n2 : Node) → length ns < no_slot → CanJoin ns i j a
    → (node_at ns i).kind ≡ kind.Free → (node_at ns i).next.number ≡ j → (node_at ns j).kind ≡ kind.Free
    → (node_at ns j).next.number ≡ a
    → n1 ≡ record (node_at ns i) { next = (node_at ns j).next; area = record (node_at ns i).area { max = (node_at ns j).area.max } }
    → n2 ≡ record (node_at ns j) { kind = kind.Unused }
    → ms ≡ set (with_previous (set ns i n1) a (record { number = i })) j n2 → IsJoinOf ns ms i j a
joined-by ns ms i j a n1 n2 short c fi nj fj na e1 e2 e =
    grind (arith, none-unused, length-set, get_or-set_other, get_or-set_same, get_or_past)

pub IsSlot-after : (ns : List Node) (slot : Link) (this next : Node) (k : ℕ) → length ns < no_slot → IsTree ns
    → IsFreePair ns slot.number → this ≡ node_at ns slot.number → next ≡ node_at ns this.next.number → k ≡ length ns
    → IsSlot k next.next.number
IsSlot-after ns slot this next k short t free et en ek = grind (arith, can-join)

pub join_next_is : (ns ms1 ms2 ms : List Node) (slot : Link) (this next : Node) → length ns < no_slot → IsTree ns
    → IsFreePair ns slot.number → this ≡ node_at ns slot.number → next ≡ node_at ns this.next.number
    → ms1 ≡ set ns slot.number (joined_node this next) → ms2 ≡ with_previous ms1 next.next.number slot
    → ms ≡ with_kind ms2 this.next.number kind.Unused
    → IsJoinOf ns ms slot.number (node_at ns slot.number).next.number (node_at ns (node_at ns slot.number).next.number).next.number
join_next_is ns ms1 ms2 ms slot this next short t free et en e1 e2 e =
    let i = slot.number in
    let j = (node_at ns i).next.number in
    let a = (node_at ns j).next.number in
    let n1 : Node = joined_node this next in
    let ej : this.next.number ≡ j = rw et refl in
    let ea : next.next.number ≡ a = rw (en, ej) refl in
    let can = can-join ns i j a short t free.free refl free.next_free refl in
    let xs = set ns i n1 in
    let ys = with_previous xs a slot in
    let ja : j ≡ a → ⊥ = λ x. can.apart.2 (sym x) in
    let there : node_at ys j ≡ node_at ns j = get_or-set_other xs a j _ blank_node ja ∙ get_or-set_other ns i j n1 blank_node can.apart.0 in
    let n2 : Node = record (node_at ys j) { kind = kind.Unused } in
    joined-by ns ms i j a n1 n2 short can free.free refl free.next_free refl (rw (en, et) refl) (rw there refl)
    (rw (e, e2, e1, ej, ea) refl)
