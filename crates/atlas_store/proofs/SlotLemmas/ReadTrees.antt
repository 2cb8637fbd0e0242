-- The slots determine the tree.
use Rattle.std.proofs.Common.{ℕ, ◌+◌, ◌<◌, ◌≤◌, ◌≡◌, List, refl, sym, ap, ◌∙◌, ◌⊎◌, inl, inr, arith, length, zero, suc, true, subst}
use Rattle.std.proofs.lemmas.Bool.{cases_eq, cases_lt, and_parts, and_from, eqb-true, eq-eqb, ltb-true, lt-ltb, true≢false}
use Rattle.std.proofs.lemmas.List.{get_or_past}
use Rattle.std.proofs.lemmas.List.Sums.{passes_at_first, fails_before_first}
use Rattle.atlas_store.specs.declared.slots.Node.{Node}
use Rattle.atlas_model.specs.Boxes.{Axis, side, box_sides}
use Rattle.atlas_model.specs.Pixels.{box_of, rectangle_of}
use Rattle.atlas_store.specs.declared.slots.NodeKind.TheVariants as kind
use Rattle.atlas_store.specs.Slots.{axis_of, node_at, blank_node, use_count}
use Rattle.atlas_search.specs.Numbers.{no_slot, same}
use Rattle.atlas_model.specs.Trees.{Members, Tree}
use Rattle.atlas_model.proofs.ListLemmas.Sums.{sums, sums-add, sums-none}
use Rattle.atlas_store.specs.Slots.Numbered.{Numbered, tally, first_slot, erase, numbers, End, Free, Alloc, Seq}
use Rattle.atlas_store.specs.Slots.Standing.{Sequence, Standing, Stands, inside, member_box}
use Rattle.atlas_store.specs.Slots.Reading.{extent_of, begins_in, first_member_of, read, numbered_of, tree_of}
use Rattle.atlas_store.proofs.SlotLemmas.Frames.{same-self, same-ne, used-le, split_pos, ne-from_same}
use Rattle.atlas_store.proofs.SlotLemmas.JoinWrites.{none-unused, used-inside}
use Rattle.atlas_store.proofs.SlotLemmas.Lifts.{head-is_first, parent-in}

pub side-box : (s : Sequence) (p e : ℕ) → side s.axis (box_sides (box_of (rectangle_of (member_box s p e)))) ≡ e
side-box s p e = grind arith

-- The extent read from a member's rectangle is the member's.
pub extent-of_placed : (ns : List Node) (j : ℕ) (s : Sequence) (p e : ℕ) → axis_of (node_at ns j).axis ≡ s.axis
    → (node_at ns j).area ≡ rectangle_of (member_box s p e) → extent_of (node_at ns j) ≡ e
extent-of_placed ns j s p e a b = rw (a, b) (side-box s p e)

-- A head, of its parts.
pub record IsHead (c : ℕ) (n : Node) : Type 0 where
  pub is_used : 0 < use_count n.kind
  pub parent : n.parent.number ≡ c
  pub previous : n.previous.number ≡ no_slot

IsHead-true : (c : ℕ) (n : Node) → begins_in c n ≡ true → IsHead c n
IsHead-true c n h = grind (arith, and_parts, ltb-true, eqb-true)

true-IsHead : (c : ℕ) (n : Node) → IsHead c n → begins_in c n ≡ true
true-IsHead c n h = grind (arith, and_from, lt-ltb, eq-eqb)

-- The head of the sequence of c is its first_slot member.
head-first : (ns : List Node) (c k : ℕ) (s : Sequence) (b q : ℕ) (n : Numbered) → IsHead c (node_at ns k)
    → tally no_slot n ≡ 0 → tally c n ≡ 0 → 0 < tally k n → Standing ns s b q n → k ≡ first_slot n
head-first ns c k s b q n hd = head-is_first ns c k hd.parent hd.previous s b q n

-- A node in use that has the parent c is in n, for each c in n.
abbrev pub IsClosed : List Node → Numbered → Type 0
IsClosed ns n = (k : ℕ) → 0 < use_count (node_at ns k).kind → 0 < tally (node_at ns k).parent.number n → 0 < tally k n

-- i is where n begins: no slot in use, if n is empty.
abbrev pub Starts : List Node → ℕ → Numbered → Type 0
Starts ns i End = (node_at ns i).kind ≡ kind.Unused
Starts ns i (Free j e rest) = i ≡ j
Starts ns i (Alloc j g e rest) = i ≡ j
Starts ns i (Seq j e inner rest) = i ≡ j

Starts-first : (ns : List Node) (n : Numbered) → (node_at ns no_slot).kind ≡ kind.Unused → Starts ns (first_slot n) n
Starts-first ns End u = u
Starts-first ns n u = refl

-- The first_slot member is a head.
first-head : (ns : List Node) (s : Sequence) (q : ℕ) (n : Numbered) → Standing ns s no_slot q n
    → 0 < tally (first_slot n) n → IsHead s.parent (node_at ns (first_slot n))
first-head ns s q End h l = absurd (omega arith)
first-head ns s q n h l = record { is_used = rw h.0.kind (omega arith); parent = h.0.parent; previous = h.0.previous }

Starts-at : (ns : List Node) (i : ℕ) (n : Numbered) → 0 < tally (first_slot n) n → i ≡ first_slot n → Starts ns i n
Starts-at ns i End l e = absurd (omega arith)
Starts-at ns i n l e = e

empty-or : (n : Numbered) → (n ≡ End) ⊎ (0 < tally (first_slot n) n)
empty-or End = inl refl
empty-or n = inr (omega (arith, same-self))

-- first_member_of finds where a sequence starts.
pub Starts-head : (ns : List Node) (s : Sequence) (q : ℕ) (n : Numbered) → Standing ns s no_slot q n
    → ((k : ℕ) → IsHead s.parent (node_at ns k) → k ≡ first_slot n × (0 < tally k n))
    → Starts ns (first_member_of ns s.parent) n
Starts-head ns s q n h only =
    let c = s.parent in
    let p = first_member_of ns c in
    elim (cases_lt p (length ns)) [
      | inl l ↦
          let hd = IsHead-true c (node_at ns p) (passes_at_first (begins_in c) ns blank_node l) in
          let o = only p hd in
          Starts-at ns p n (omega (arith, ap (λ v. tally v n) o.0, o.1)) o.0
      | inr g ↦ elim (empty-or n) [
        | inl e ↦ subst (Starts ns p) (sym e) (ap (λ (x : Node). x.kind) (get_or_past ns p blank_node g))
        | inr l ↦
            let hd = first-head ns s q n h l in
            let fails = fails_before_first (begins_in c) ns (first_slot n) blank_node
            (omega (arith, used-inside ns (first_slot n) hd.is_used)) in
            absurd (true≢false (sym (true-IsHead c (node_at ns (first_slot n)) hd) ∙ fails))
      ]
    ]

closed_rest : (ns : List Node) (s : Sequence) (j : ℕ) (n rest : Numbered) → (node_at ns j).parent.number ≡ s.parent
    → tally s.parent rest ≡ 0 → ((k : ℕ) → tally k n ≡ same k j + tally k rest) → IsClosed ns n → IsClosed ns rest
closed_rest ns s j n rest pj z is closed k u l =
    let y : 0 < tally k n = closed k u (omega (arith, is (node_at ns k).parent.number)) in
    elim (cases_eq k j) [
      | inl x ↦ absurd (omega (arith, z, l, ap (λ v. tally (node_at ns v).parent.number rest) x, ap (λ v. tally v rest) pj))
      | inr ne ↦ omega (arith, is k, same-ne k j ne)
    ]

pub read-is : (fuel : ℕ) (ns : List Node) (s : Sequence) (b q : ℕ) (n : Numbered) (i : ℕ)
    → (node_at ns no_slot).kind ≡ kind.Unused → Standing ns s b q n → numbers n ≤ fuel → IsClosed ns n
    → tally s.parent n ≡ 0 → ((k : ℕ) → tally k n ≤ 1) → tally no_slot n ≡ 0 → Starts ns i n → read fuel ns i ≡ n
read-is zero ns s b q End i u h f closed z once none st = refl
read-is zero ns s b q n i u h f closed z once none st = absurd (omega arith)
read-is (suc fuel) ns s b q End i u h f closed z once none st = rw st refl
read-is (suc fuel) ns s b q (Free j e rest) i u h f closed z once none st =
    let next : Starts ns (node_at ns j).next.number rest = rw h.0.next (Starts-first ns rest u) in
    let r : read fuel ns (node_at ns j).next.number ≡ rest = read-is fuel ns s j (q + e) rest _ u h.2 (omega arith)
    (closed_rest ns s j (Free j e rest) rest h.0.parent (omega arith) (λ k. refl) closed) (omega arith) (λ k. omega (arith, once k))
    (omega arith) next in
    let x : extent_of (node_at ns j) ≡ e = extent-of_placed ns j s q e h.0.axis h.1 in
    rw (st, h.0.kind) (ap (λ v. Free j v (read fuel ns (node_at ns j).next.number)) x ∙ ap (Free j e) r)
read-is (suc fuel) ns s b q (Alloc j g e rest) i u h f closed z once none st =
    let next : Starts ns (node_at ns j).next.number rest = rw h.0.next (Starts-first ns rest u) in
    let r : read fuel ns (node_at ns j).next.number ≡ rest = read-is fuel ns s j (q + e) rest _ u h.3 (omega arith)
    (closed_rest ns s j (Alloc j g e rest) rest h.0.parent (omega arith) (λ k. refl) closed) (omega arith) (λ k. omega (arith, once k))
    (omega arith) next in
    let x : extent_of (node_at ns j) ≡ e = extent-of_placed ns j s q e h.0.axis h.1 in
    rw (st, h.0.kind) (ap (λ w. Alloc j w (extent_of (node_at ns j)) (read fuel ns (node_at ns j).next.number)) h.2 ∙
    ap (λ v. Alloc j g v (read fuel ns (node_at ns j).next.number)) x ∙ ap (Alloc j g e) r)
read-is (suc fuel) ns s b q (Seq j e inner rest) i u h f closed z once none st =
    let t = inside s j q e in
    let self = same-self j in
    let nj : same s.parent j ≡ 0 = omega arith in
    let zj : tally j inner + tally j rest ≡ 0 = omega (arith, once j) in
    let at_j : (k : ℕ) → 0 < use_count (node_at ns k).kind → k ≡ j → 0 < tally (node_at ns k).parent.number inner + tally
    (node_at ns k).parent.number rest → ⊥ = (λ k uk x l. absurd (omega (
      arith,
      z,
      l,
      ap (λ v. tally (node_at ns v).parent.number inner) x,
      ap (λ v. tally (node_at ns v).parent.number rest) x,
      ap (λ v. tally v inner) h.0.parent,
      ap (λ v. tally v rest) h.0.parent,
    ))) in
    let which : (k : ℕ) → 0 < use_count (node_at ns k).kind → 0 < tally (node_at ns k).parent.number inner + tally
    (node_at ns k).parent.number rest → (0 < tally k inner) ⊎ (0 < tally k rest) = (λ k uk l. elim (cases_eq k j) [
      | inl x ↦ absurd (at_j k uk x l)
      | inr ne ↦ let y = closed k uk (omega arith) in split_pos (tally k inner) (tally k rest) (omega (arith, same-ne k j ne))
    ]) in
    let closed_in : IsClosed ns inner = (λ k u l. elim (which k u (omega arith)) [
      | inl y ↦ y
      | inr y ↦ absurd (elim (parent-in ns k s j (q + e) rest h.3 y) [
        | inl x ↦ omega (arith, z, l, ap (λ v. tally v inner) x)
        | inr v ↦
            omega (arith, l, v, once (node_at ns k).parent.number)
      ])
    ]) in
    let closed_after : IsClosed ns rest = (λ k u l. elim (which k u (omega arith)) [
      | inl y ↦ absurd (elim (parent-in ns k t no_slot s.start inner h.2 y)
          [ inl x ↦ omega (arith, zj, l, ap (λ v. tally v rest) x) | inr v ↦ omega (arith, l, v, once (node_at ns k).parent.number) ])
      | inr y ↦ y
    ]) in
    let only : (k : ℕ) → IsHead j (node_at ns k) → k ≡ first_slot inner × (0 < tally k inner) = (λ k hd.
    let y = closed k hd.is_used (omega (arith, ap (λ v. tally v (Seq j e inner rest)) hd.parent, self)) in
    elim (cases_eq k j) [
      | inl x ↦ absurd (ne-from_same s.parent j nj (sym hd.parent ∙ ap (λ v. (node_at ns v).parent.number) x ∙ h.0.parent))
      | inr ne ↦ elim (split_pos (tally k inner) (tally k rest) (omega (arith, same-ne k j ne))) [
        | inl a ↦ (head-first ns j k t no_slot s.start inner hd (omega arith) (omega arith) a h.2, a)
        | inr c ↦ absurd (elim (parent-in ns k s j (q + e) rest h.3 c) [
          | inl x ↦ ne-from_same s.parent j nj (sym hd.parent ∙ x)
          | inr v ↦
              absurd (omega (arith, ap (λ v. tally v rest) hd.parent, zj))
        ])
      ]
    ]) in
    let next : Starts ns (node_at ns j).next.number rest = rw h.0.next (Starts-first ns rest u) in
    let r : read fuel ns (node_at ns j).next.number ≡ rest = read-is fuel ns s j (q + e) rest _ u h.3 (omega arith) closed_after
    (omega arith) (λ k. omega (arith, once k)) (omega arith) next in
    let m : read fuel ns (first_member_of ns j) ≡ inner = read-is fuel ns t no_slot s.start inner _ u h.2 (omega arith) closed_in
    (omega arith) (λ k. omega (arith, once k)) (omega arith) (Starts-head ns t s.start inner h.2 only) in
    let x : extent_of (node_at ns j) ≡ e = extent-of_placed ns j s q e h.0.axis h.1 in
    rw (st, h.0.kind) (ap (λ v. Seq j v (read fuel ns (first_member_of ns j)) (read fuel ns (node_at ns j).next.number)) x ∙
    ap (λ v. Seq j e v (read fuel ns (node_at ns j).next.number)) m ∙ ap (Seq j e inner) r)

pub sums-same : (j m : ℕ) → j < m → sums (λ i. same i j) m ≡ 1
unfolding sums
sums-same j zero l = absurd (omega arith)
sums-same j (suc m) l =
    elim (cases_eq m j) [
      | inl e ↦ omega (
        arith,
        same-self j,
        ap (λ v. same v j) e,
        sums-none (λ i. same i j) m
            (λ i b. same-ne i j (λ q. absurd (omega arith))),
      )
      | inr ne ↦ omega (arith, same-ne m j ne, sums-same j m (omega arith))
    ]

-- How often the slots below m stand in a tree.
abbrev pub tallies : ℕ → Numbered → ℕ
tallies m n = sums (λ i. tally i n) m

pub tallies-le : (m : ℕ) (n : Numbered) → ((k : ℕ) → tally k n ≤ 1) → tallies m n ≤ m
unfolding sums
tallies-le zero n once = omega arith
tallies-le (suc m) n once = omega (arith, once m, tallies-le m n once)

-- Each member has a slot below m, so the tallies count the members.
pub tallies-numbers : (m : ℕ) (n : Numbered) → ((k : ℕ) → 0 < tally k n → k < m) → tallies m n ≡ numbers n
tallies-numbers m End below = sums-none (λ i. 0) m (λ i l. refl)
tallies-numbers m (Free j e rest) below =
    let one = sums-same j m (below j (omega (arith, same-self j))) in
    omega (arith, one, sums-add (λ i. same i j) (λ i. tally i rest) m, tallies-numbers m rest (λ k l. below k (omega arith)))
tallies-numbers m (Alloc j g e rest) below =
    let one = sums-same j m (below j (omega (arith, same-self j))) in
    omega (arith, one, sums-add (λ i. same i j) (λ i. tally i rest) m, tallies-numbers m rest (λ k l. below k (omega arith)))
tallies-numbers m (Seq j e inner rest) below =
    let one = sums-same j m (below j (omega (arith, same-self j))) in
    let two = sums-add (λ i. same i j + tally i inner) (λ i. tally i rest) m in
    let within = tallies-numbers m inner (λ k l. below k (omega arith)) in
    omega (arith, one, two, sums-add (λ i. same i j) (λ i. tally i inner) m, within, tallies-numbers m rest (λ k l. below k (omega arith)))

-- What the slots of a whole tree say of it.
record WholeFacts (ns : List Node) (s : Sequence) (n : Numbered) : Type 0 where
  ends : (node_at ns no_slot).kind ≡ kind.Unused
  once : (k : ℕ) → tally k n ≤ 1
  none : tally no_slot n ≡ 0
  apart : tally s.parent n ≡ 0
  below : (k : ℕ) → 0 < tally k n → k < length ns

whole_facts : (ns : List Node) (s : Sequence) (n : Numbered) → length ns < no_slot → s.parent ≡ no_slot → Stands ns s n
    → WholeFacts ns s n
whole_facts ns s n short top h = grind (arith, none-unused, used-le, used-inside)

top-start : (ns : List Node) (s : Sequence) (n : Numbered) → length ns < no_slot → s.parent ≡ no_slot → Stands ns s n
    → Starts ns (first_member_of ns no_slot) n
top-start ns s n short top h = grind (arith, whole_facts, head-first, Starts-head)

-- There are no more members than slots.
pub numbers-few : (ns : List Node) (s : Sequence) (n : Numbered) → Stands ns s n → numbers n ≤ length ns
numbers-few ns s n h = grind (arith, used-le, used-inside ns, tallies-numbers (length ns) n, tallies-le (length ns) n)

-- The slots determine the tree.
pub numbered_of-Stands : (ns : List Node) (s : Sequence) (n : Numbered) → length ns < no_slot → s.parent ≡ no_slot
    → Stands ns s n → numbered_of ns ≡ n
numbered_of-Stands ns s n short top h = grind (arith, whole_facts, read-is, numbers-few, top-start)

-- Slots that hold a tree determine it.
pub members_of-Stands : (ns : List Node) (s : Sequence) (n : Numbered) → length ns < no_slot → s.parent ≡ no_slot
    → Stands ns s n → (tree_of ns).members ≡ erase n
members_of-Stands ns s n short top h = ap erase (numbered_of-Stands ns s n short top h)

abbrev pub HasMember : Numbered → Type 0
HasMember n = 0 < tally (first_slot n) n

-- Where a member stands, a first one stands.
pub nonempty-tally : (k : ℕ) (n : Numbered) → 0 < tally k n → HasMember n
nonempty-tally k End l = absurd (omega arith)
nonempty-tally k n l = omega (arith, same-self)

pub first-axis : (ns : List Node) (s : Sequence) (b q : ℕ) (n : Numbered) → Standing ns s b q n → HasMember n
    → axis_of (node_at ns (first_slot n)).axis ≡ s.axis
first-axis ns s b q End h l = absurd (omega arith)
first-axis ns s b q n h l = h.0.axis

start-first : (ns : List Node) (i : ℕ) (n : Numbered) → HasMember n → Starts ns i n → i ≡ first_slot n
start-first ns i End l st = absurd (omega arith)
start-first ns i n l st = st

-- The top sequence is found where it begins.
pub head_of-Stands : (ns : List Node) (s : Sequence) (n : Numbered) → length ns < no_slot → s.parent ≡ no_slot
    → Stands ns s n → HasMember n → first_member_of ns no_slot ≡ first_slot n
head_of-Stands ns s n short top h l = start-first ns _ n l (top-start ns s n short top h)

pub axis_of-Stands : (ns : List Node) (s : Sequence) (n : Numbered) → length ns < no_slot → s.parent ≡ no_slot
    → Stands ns s n → HasMember n → (tree_of ns).axis ≡ s.axis
axis_of-Stands ns s n short top h l = grind (arith, head_of-Stands, first-axis)

-- A tree with this axis and these members.
pub tree-by_parts : (t : Tree) (a : Axis) (m : Members) → t.axis ≡ a → t.members ≡ m
    → t ≡ record { axis = a; members = m }
tree-by_parts t a m ea em = rw (← ea, ← em) refl

pub tree_of-Stands : (ns : List Node) (s : Sequence) (n : Numbered) → length ns < no_slot → s.parent ≡ no_slot
    → Stands ns s n → HasMember n → tree_of ns ≡ record { axis = s.axis; members = erase n }
tree_of-Stands ns s n short top h l = grind (arith, axis_of-Stands, members_of-Stands, tree-by_parts)

tallies-less : (m j : ℕ) (n less : Numbered) → ((x : ℕ) → tally x less + same x j ≡ tally x n)
    → tallies m less + sums (λ i. same i j) m ≡ tallies m n
unfolding sums
tallies-less zero j n less is = refl
tallies-less (suc m) j n less is = omega (arith, is m, tallies-less m j n less is)

-- A tree without one slot has one member less.
pub numbers-less : (m j : ℕ) (n less : Numbered) → j < m → ((x : ℕ) → 0 < tally x n → x < m)
    → ((x : ℕ) → tally x less + same x j ≡ tally x n) → numbers less + 1 ≡ numbers n
numbers-less m j n less l below is =
    omega (
      arith,
      tallies-numbers m n below,
      tallies-numbers m less (λ x c. below x (omega (arith, is x))),
      tallies-less m j n less is,
      sums-same j m l,
    )
