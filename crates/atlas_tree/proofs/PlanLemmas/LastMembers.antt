-- The last member of the top sequence is found from the first.
use Rattle.std.proofs.Common.{ℕ, ◌+◌, ◌<◌, ◌≤◌, ◌≡◌, List, refl, sym, ap, ◌∙◌, arith, length}
use Rattle.std.proofs.lemmas.List.{length-map}
use Rattle.atlas_store.specs.declared.slots.Node.{Node}
use Rattle.atlas_store.specs.declared.slots.Slot.{Slot}
use Rattle.atlas_model.specs.Boxes.{Sides}
use Rattle.atlas_store.specs.Slots.{nodes, node_at, use_count}
use Rattle.atlas_search.specs.Numbers.{no_slot}
use Rattle.atlas_store.specs.Slots.Numbered.{Numbered, tally, first_slot, End, Free, Alloc, Seq}
use Rattle.atlas_store.specs.Slots.Standing.{Sequence, Standing}
use Rattle.atlas_store.specs.Stored.{Shelf, Holding}
use Rattle.atlas_store.specs.Store.Holdings.{node_in}
use Rattle.atlas_store.specs.Slots.Growing.{last_after, last_slot}
use Rattle.atlas_tree.specs.Plans.Growths.{IsTreeOf}
use Rattle.atlas_store.proofs.SlotLemmas.JoinWrites.{none-unused}
use Rattle.atlas_store.proofs.WalkLemmas.StoredAtlas.{nodes-below, nonempty-total}
use Rattle.atlas_store.proofs.SlotLemmas.Followers.{outermost, outermost-few, followers, followers-outermost, begins-inside}
use Rattle.atlas_store.proofs.SlotLemmas.MemberLinks.{begins-none}
use Rattle.atlas_store.proofs.SlotLemmas.Frames.{ne-from_count}

-- The search is at a member of n, and slot `next` begins what comes after that.
pub record IsAtMember (ns : List Node) (at next : ℕ) (s : Sequence) (n : Numbered) : Type 0 where
  pub start : ℕ
  pub rest : Numbered
  pub standing : Standing ns s at start rest
  pub begins : next ≡ first_slot rest
  pub none : tally no_slot rest ≡ 0
  pub few : outermost rest ≤ length ns
  pub last : last_after at rest ≡ last_slot n

-- The search is at slot i, one member further, of so many that were left.
abbrev pub IsFurther : List Node → (i : ℕ) → Sequence → Numbered → (count : ℕ) → Type 0
IsFurther ns i s n count = (g : IsAtMember ns i (node_at ns i).next.number s n) × (outermost g.rest + 1 ≡ count)

member-first : (ns : List Node) (s : Sequence) (b q i : ℕ) (m n : Numbered) → i ≡ first_slot m → (i ≡ no_slot → ⊥)
    → Standing ns s b q m → tally no_slot m ≡ 0 → outermost m ≤ length ns → last_after b m ≡ last_slot n
    → IsFurther ns i s n (outermost m)
member-first ns s b q i End n e ne h none few last = absurd (ne e)
member-first ns s b q i (Free j d rest) n e ne h none few last =
    rw e (
      record { start = q + d; rest = rest; standing = h.2; begins = h.0.next; none = omega arith; few = omega arith; last = last },
      omega arith,
    )
member-first ns s b q i (Alloc j a d rest) n e ne h none few last =
    rw e (
      record { start = q + d; rest = rest; standing = h.3; begins = h.0.next; none = omega arith; few = omega arith; last = last },
      omega arith,
    )
member-first ns s b q i (Seq j d inner rest) n e ne h none few last =
    rw e (
      record { start = q + d; rest = rest; standing = h.3; begins = h.0.next; none = omega arith; few = omega arith; last = last },
      omega arith,
    )

-- At first the search is at the first member.
pub members-begin : (v : Shelf) (size : Sides) (first : ℕ) (h : Holding) → IsTreeOf v size first h
    → IsAtMember (nodes v.slots) first (node_in v first).next.number h.sequence h.tree
members-begin v size first h t =
    let ns = nodes v.slots in
    let stands = t.holds.stands in
    let none : tally no_slot h.tree ≡ 0 = stands.numbered no_slot ∙ ap use_count (none-unused ns (nodes-below v.slots t.holds.short)) in
    let some = ne-from_count no_slot (first_slot h.tree) h.tree none (nonempty-total h.tree t.spans.some) in
    (member-first ns h.sequence no_slot 0 first h.tree h.tree (sym t.spans.begins) (λ e. some (t.spans.begins ∙ e)) stands.standing none
    (outermost-few ns h.sequence h.tree stands) refl).0

pub member-inside : (slots : List Slot) (at next : ℕ) (s : Sequence) (n : Numbered) → (next ≡ no_slot → ⊥)
    → IsAtMember (nodes slots) at next s n → next < length slots
member-inside slots at next s n ne g = grind (arith, begins-inside, length-map)

module _ (ns : List Node) (at next : ℕ) (s : Sequence) (n : Numbered) where
  member-next : (next ≡ no_slot → ⊥) → (g : IsAtMember ns at next s n) → IsFurther ns next s n (outermost g.rest)
  member-next ne g = member-first ns s at g.start next g.rest n g.begins ne g.standing g.none g.few g.last

  pub members-go_on : (next ≡ no_slot → ⊥) → IsAtMember ns at next s n
      → IsAtMember ns next (node_at ns next).next.number s n
  members-go_on ne g = (member-next ne g).0

  -- No member follows the last.
  pub members-end : next ≡ no_slot → IsAtMember ns at next s n → last_slot n ≡ at
  members-end e g = sym g.last ∙ ap (last_after at) (begins-none g.rest (sym g.begins ∙ e) g.none)

member-followers : (ns : List Node) (at next : ℕ) (s : Sequence) (n : Numbered) → (g : IsAtMember ns at next s n)
    → followers (length ns) ns next ≡ outermost g.rest
member-followers ns at next s n g = grind (arith, followers-outermost)

-- Fewer members follow.
pub members-fall : (ns : List Node) (at next : ℕ) (s : Sequence) (n : Numbered) → (next ≡ no_slot → ⊥)
    → IsAtMember ns at next s n → followers (length ns) ns (node_at ns next).next.number < followers (length ns) ns next
members-fall ns at next s n ne g =
    let less = member-next ns at next s n ne g in
    omega (arith, less.1, member-followers ns at next s n g, member-followers ns next (node_at ns next).next.number s n less.0)
