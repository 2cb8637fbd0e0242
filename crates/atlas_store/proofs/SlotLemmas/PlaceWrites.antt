-- What the writes of `place_leaf` make.
use Rattle.std.proofs.Common.{ℕ, ◌+◌, ◌<◌, ◌≤◌, ◌≡◌, ◌≢◌, List, refl, sym, ap, ◌∙◌, inl, inr, arith, length, subst, get_or-set_same}
use Rattle.std.proofs.Common.{get_or-set_other, length-set}
use Rattle.std.proofs.lemmas.List.{get_or_past, length-map}
use Rattle.atlas_store.specs.declared.slots.Node.{Node}
use Rattle.atlas_search.specs.declared.link.Link.{Link}
use Rattle.atlas_store.specs.declared.slots.Slot.{Slot}
use Rattle.atlas_store.specs.declared.slots.NodeKind.{NodeKind}
use Rattle.atlas_store.specs.declared.slots.NodeKind.TheVariants as kind
use Rattle.atlas_store.specs.declared.slots.placing.Parts.{Parts}
use Rattle.atlas_store.specs.declared.slots.placing.Plan.{Plan}
use Rattle.atlas_store.specs.declared.slots.placing.Plan.TheVariants as plan
use Rattle.atlas_store.specs.Slots.{nodes, node_at, blank_node, node_of}
use Rattle.atlas_search.specs.Numbers.{no_slot, occurs, same}
use Rattle.atlas_store.specs.Slots.Numbered.{Numbered, tally, first_slot, End, Seq}
use Rattle.atlas_store.specs.Slots.Standing.{Sequence, Standing, IsTree, IsSlot, with_kind, with_previous}
use Rattle.atlas_store.specs.Slots.Parts.{front_node, inner_node}
use Rattle.atlas_store.specs.Slots.Placing.{CanPlace, IsCutInto, IsCarriedOut, taken_by}
use Rattle.atlas_store.proofs.SlotLemmas.Frames.{same-self, used-le}
use Rattle.atlas_store.proofs.SlotLemmas.MemberLinks.{next-in, first-in}
use Rattle.atlas_store.proofs.SlotLemmas.Suffixes.{suffix-at}
use Rattle.atlas_store.proofs.SlotLemmas.JoinWrites.{used-inside, none-unused, not-none}

-- What follows a member is another slot.
follows : (i j a : ℕ) (rest : Numbered) → same i j + tally i rest ≤ 1 → j ≡ i → i ≢ no_slot → first_slot rest ≡ a
    → a ≡ i → ⊥
follows i j a rest once ji none goes ai = grind (arith, first-in, same-self)

after_other : (ns : List Node) (i a : ℕ) (s : Sequence) (b p : ℕ) (m : Numbered) → i ≢ no_slot
    → (node_at ns i).next.number ≡ a → first_slot m ≡ i → ((x : ℕ) → tally x m ≤ 1) → Standing ns s b p m → a ≡ i → ⊥
after_other ns i a s b p End none next begins once h = absurd (none (sym begins))
after_other ns i a s b p (Seq j e inner rest) none next begins once h = grind (arith, follows i j a rest)
after_other ns i a s b p m none next begins once h = follows i _ a _ (once i) begins none
    (sym h.0.next ∙ (rw begins next))

-- What comes after the free leaf of slot i is another slot that is used, or none.
pub record IsAfter (ns : List Node) (i a : ℕ) : Type 0 where
  pub apart : a ≢ i
  pub used : (k : ℕ) → (node_at ns k).kind ≡ kind.Unused → k < length ns → a ≢ k
  pub is_slot : IsSlot (length ns) a

pub is-after : (ns : List Node) (i : ℕ) → length ns < no_slot → IsTree ns → (node_at ns i).kind ≡ kind.Free
    → IsAfter ns i (node_at ns i).next.number
is-after ns i short t fi =
    let h = t.2 in
    let here : 0 < tally i t.1 = rw (h.numbered i, fi) (omega arith) in
    let f = suffix-at ns i t.0 no_slot 0 t.1 h.standing here in
    grind (
      arith,
      h.numbered,
      used-le,
      f.within,
      next-in ns i t.0 no_slot 0 t.1 h.standing here,
      used-inside,
      not-none ns i (none-unused ns short) fi,
      after_other ns i (node_at ns i).next.number f.at f.before f.start f.members,
    )

-- What comes at a, if anything, follows `link`.
pub record IsFollowing (ns ms : List Node) (a : ℕ) (link : Link) : Type 0 where
  pub moved : a ≢ no_slot → node_at ms a ≡ record (node_at ns a) { previous = link }
  pub stays : a ≡ no_slot → node_at ms a ≡ node_at ns a
  pub others : (x : ℕ) → x ≢ a → node_at ms x ≡ node_at ns x

following-by : (ns ms : List Node) (a : ℕ) (link : Link) → length ns < no_slot → IsSlot (length ns) a
    → ms ≡ with_previous ns a link → IsFollowing ns ms a link
following-by ns ms a link short slot e = grind (arith, get_or-set_same, get_or-set_other, get_or_past, length-set)

-- A kind is written.
kind-there : (ns ms : List Node) (i : ℕ) (k : NodeKind) → i < length ns → ms ≡ with_kind ns i k
    → node_at ms i ≡ record (node_at ns i) { kind = k }
kind-there ns ms i k inside e = rw (e, get_or-set_same ns i _ blank_node inside) refl

kind-others : (ns ms : List Node) (i : ℕ) (k : NodeKind) → ms ≡ with_kind ns i k → (x : ℕ) → x ≢ i
    → node_at ms x ≡ node_at ns x
kind-others ns ms i k e x ne = rw (e, get_or-set_other ns i x _ blank_node ne) refl

-- The plan is known.
pub can-place : (ns : List Node) (at : ℕ) (p q : Plan) (t : Parts) → p ≡ q → CanPlace ns at p t → CanPlace ns at q t
can-place ns at p q t e c = subst (λ p. CanPlace ns at p t) e c

pub placed-as : (ns ms : List Node) (at : Link) (p q : Plan) (t : Parts) → p ≡ q → IsCarriedOut ns ms at q t
    → IsCarriedOut ns ms at p t
placed-as ns ms at p q t e w = subst (λ p. IsCarriedOut ns ms at p t) (sym e) w

pub placed-inside : (slots : List Slot) (at : ℕ) (p q : Plan) (t : Parts) (k m : ℕ) → CanPlace (nodes slots) at p t
    → p ≡ q
    → 0 < occurs k (taken_by q t) → m ≡ length slots → k < m
placed-inside slots at p q t k m c e l em =
    omega (arith, (can-place (nodes slots) at p q t e c).inside k l, length-map slots node_of)

pub placed-once : (ns : List Node) (at : ℕ) (p q : Plan) (t : Parts) (k : ℕ) → CanPlace ns at p t → p ≡ q
    → occurs k (taken_by q t) ≤ 1
placed-once ns at p q t k c e = (can-place ns at p q t e c).once k

pub after-slot : (slots : List Slot) (at : ℕ) (p : Plan) (t : Parts) (leaf : Node) (m : ℕ) → length slots < no_slot
    → IsTree (nodes slots)
    → CanPlace (nodes slots) at p t → leaf ≡ node_at (nodes slots) at → m ≡ length slots → IsSlot m leaf.next.number
after-slot slots at p t leaf m short tree c el em =
    let l : length (nodes slots) ≡ length slots = length-map slots node_of in
    let f = is-after (nodes slots) at (omega arith) tree c.free in
    rw el (elim f.is_slot [ inl z ↦ inl z | inr y ↦ inr (omega (arith, y)) ])

-- The leaf, what comes after it and the parts are different slots.
module _ (ns : List Node) (at : Link) (p : Plan) (t : Parts) (short : length ns < no_slot) (tree : IsTree ns)
    (can : CanPlace ns at.number p t) where
  abbrev a : ℕ
  a = (node_at ns at.number).next.number

  after : IsAfter ns at.number a
  after = is-after ns at.number short tree can.free

  part_leaf : (k : ℕ) → 0 < occurs k (taken_by p t) → k ≢ at.number
  part_leaf k l e = let u : (node_at ns at.number).kind ≡ kind.Unused = rw (← e) (can.unused k l) in let f =
      can.free in cc

  part_after : (k : ℕ) → 0 < occurs k (taken_by p t) → k ≢ a
  part_after k l e = after.used k (can.unused k l) (can.inside k l) (sym e)

  leaf_inside : at.number < length ns
  leaf_inside = used-inside ns at.number (rw can.free (omega arith))

-- Slots of which one doesn't count as the other.
differs : (x y : ℕ) → same x y ≡ 0 → x ≢ y
differs x y z e = absurd (omega (arith, z, ap (same x) e, same-self x))

pub whole-by : (ns ms : List Node) (at : Link) (t : Parts) → length ns < no_slot → IsTree ns
    → CanPlace ns at.number plan.Whole t
    → ms ≡ with_kind ns at.number kind.Alloc → IsCarriedOut ns ms at plan.Whole t
whole-by ns ms at t short tree can e =
    let f = after ns at plan.Whole t short tree can in
    grind (
      arith,
      f,
      kind-there ns ms at.number kind.Alloc (leaf_inside ns at plan.Whole t short tree can) e,
      kind-others ns ms at.number kind.Alloc e,
    )

pub strip_along-by : (ns m1 ms : List Node) (at : Link) (t : Parts) (p : ℕ) → length ns < no_slot → IsTree ns
    → CanPlace ns at.number (plan.StripAlong p) t → length m1 ≡ length ns
    → IsCutInto ns m1 (node_at ns at.number) p at kind.Alloc t.split
    → ms ≡ with_previous m1 (node_at ns at.number).next.number t.split → IsCarriedOut ns ms at (plan.StripAlong p) t
strip_along-by ns m1 ms at t p short tree can len cut e =
    let f = after ns at (plan.StripAlong p) t short tree can in
    let fo = following-by m1 ms (node_at ns at.number).next.number t.split (omega (arith, len)) (rw len f.is_slot) e in
    let away = part_after ns at (plan.StripAlong p) t short tree can t.split.number in
    grind (arith, f, fo, cut, away, same-self, differs)

pub corner_along-by : (ns m1 m2 ms : List Node) (at : Link) (t : Parts) (p q : ℕ) (front : Node) → length ns < no_slot
    → IsTree ns
    → CanPlace ns at.number (plan.CornerAlong p q) t → length m1 ≡ length ns
    → IsCutInto ns m1 (node_at ns at.number) p at kind.Container t.split
    → m2 ≡ with_previous m1 (node_at ns at.number).next.number t.split
    → front ≡ record (front_node (node_at ns at.number) p t.split) { kind = kind.Container }
    → IsCutInto m2 ms (inner_node front at (node_at m2 t.granted.number)) q t.granted kind.Alloc t.leftover
    → IsCarriedOut ns ms at (plan.CornerAlong p q) t
corner_along-by ns m1 m2 ms at t p q front short tree can len cut e ef last =
    let f = after ns at (plan.CornerAlong p q) t short tree can in
    let fo = following-by m1 m2 (node_at ns at.number).next.number t.split (omega (arith, len)) (rw len f.is_slot) e in
    let apart = part_leaf ns at (plan.CornerAlong p q) t short tree can in
    let away = part_after ns at (plan.CornerAlong p q) t short tree can in
    grind (arith, f, fo, cut, last, apart, away, can.once, same-self, differs)

pub strip_across-by : (ns m1 ms : List Node) (at : Link) (t : Parts) (q : ℕ) → length ns < no_slot → IsTree ns
    → CanPlace ns at.number (plan.StripAcross q) t → m1 ≡ with_kind ns at.number kind.Container
    → IsCutInto m1 ms (inner_node (node_at ns at.number) at (node_at m1 t.granted.number)) q t.granted kind.Alloc
    t.split
    → IsCarriedOut ns ms at (plan.StripAcross q) t
strip_across-by ns m1 ms at t q short tree can e last =
    let f = after ns at (plan.StripAcross q) t short tree can in
    let apart = part_leaf ns at (plan.StripAcross q) t short tree can in
    let away = part_after ns at (plan.StripAcross q) t short tree can in
    let there = kind-there ns m1 at.number kind.Container (leaf_inside ns at (plan.StripAcross q) t short tree can) e in
    grind (arith, f, last, there, kind-others ns m1 at.number kind.Container e, apart, away, can.once, same-self, differs)

pub corner_across-by : (ns m1 m2 ms : List Node) (at : Link) (t : Parts) (p q : ℕ) (front : Node)
    → length ns < no_slot → IsTree ns
    → CanPlace ns at.number (plan.CornerAcross p q) t → m1 ≡ with_kind ns at.number kind.Container
    → IsCutInto m1 m2 (inner_node (node_at ns at.number) at (node_at m1 t.container.number)) q t.container
    kind.Container t.split
    → front ≡ record (front_node (inner_node (node_at ns at.number) at (node_at m1 t.container.number)) q t.split)
    { kind = kind.Container }
    → IsCutInto m2 ms (inner_node front t.container (node_at m2 t.granted.number)) p t.granted kind.Alloc t.leftover
    → IsCarriedOut ns ms at (plan.CornerAcross p q) t
corner_across-by ns m1 m2 ms at t p q front short tree can e cut ef last =
    let f = after ns at (plan.CornerAcross p q) t short tree can in
    let apart = part_leaf ns at (plan.CornerAcross p q) t short tree can in
    let away = part_after ns at (plan.CornerAcross p q) t short tree can in
    let there = kind-there ns m1 at.number kind.Container (leaf_inside ns at (plan.CornerAcross p q) t short tree can) e in
    grind (arith, f, cut, last, there, kind-others ns m1 at.number kind.Container e, apart, away, can.once, same-self, differs)
