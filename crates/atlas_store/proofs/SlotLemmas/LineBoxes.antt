-- The boxes along a line of open members, and in a container that the line fills.
use Rattle.std.proofs.Common.{ℕ, ◌+◌, ◌<◌, ◌≤◌, ◌≡◌, inl, inr, List, Bool, true, false, refl, sym, ap, ◌∙◌, arith}
use Rattle.std.proofs.Common.{zero, suc}
use Rattle.std.proofs.lemmas.Bool.{cases_eq, and_parts}
use Rattle.atlas_store.specs.declared.slots.Node.{Node}
use Rattle.atlas_model.specs.Boxes.{Box, other, IsInside}
use Rattle.atlas_model.specs.Pixels.{box_of, rectangle_of}
use Rattle.atlas_model.specs.Trees.{IsCut, total}
use Rattle.atlas_store.specs.Slots.{node_at}
use Rattle.atlas_search.specs.Numbers.{no_slot, same}
use Rattle.atlas_store.specs.Slots.Numbered.{Numbered, tally, first_slot, erase, End, Free, Alloc, Seq}
use Rattle.atlas_store.specs.Slots.Standing.{Sequence, Standing, inside, member_box}
use Rattle.atlas_store.specs.Slots.Rehearsing.{all_open, OpenLine}
use Rattle.atlas_store.proofs.SlotLemmas.Frames.{same-self, same-ne, split_pos, ne-from_same}
use Rattle.atlas_store.proofs.SlotLemmas.Lifts.{head-is_first}
use Rattle.atlas_store.proofs.SlotLemmas.Suffixes.{suffix-at}
use Rattle.atlas_store.proofs.SlotLemmas.OpenMembers.{parent-in, below-cases}
use Rattle.atlas_store.proofs.SlotLemmas.OpenLines.{line-all, none-open}

-- The second box begins and ends no sooner than the first.
pub record IsAlong (b c : Box) : Type 0 where
  pub min_x : b.min.x ≤ c.min.x
  pub min_y : b.min.y ≤ c.min.y
  pub max_x : b.max.x ≤ c.max.x
  pub max_y : b.max.y ≤ c.max.y

along-itself : (b : Box) → IsAlong b b
along-itself b = record { min_x = omega arith; min_y = omega arith; max_x = omega arith; max_y = omega arith }

along-on : (b c d : Box) → IsAlong b c → IsAlong c d → IsAlong b d
along-on b c d x y = record { min_x = omega arith; min_y = omega arith; max_x = omega arith; max_y = omega arith }

along-next : (s : Sequence) (p e d : ℕ) → IsAlong (member_box s p e) (member_box s (p + e) d)
along-next s p e d = grind arith

-- From the first member's box, and of the same parent.
pub record IsBeyond (ns : List Node) (s : Sequence) (b : Box) (i : ℕ) : Type 0 where
  pub along : IsAlong b (box_of (node_at ns i).area)
  pub parent : (node_at ns i).parent.number ≡ s.parent

beyond-on : (ns : List Node) (s : Sequence) (b c : Box) (i : ℕ) → IsAlong b c → IsBeyond ns s c i → IsBeyond ns s b i
beyond-on ns s b c i x y = record { along = along-on b c _ x y.along; parent = y.parent }

module _ (ns : List Node) (o : ℕ → Bool) (closed : o no_slot ≡ false) (high : ℕ) (last : o high ≡ true) where
  -- Where a line leads to an open member.
  record IsBeyondAll (s : Sequence) (p : ℕ) (m : Numbered) : Type 0 where
    extent : ℕ
    begins : (node_at ns (first_slot m)).area ≡ rectangle_of (member_box s p extent)
    beyond : IsBeyond ns s (member_box s p extent) high

  beyond-here : (s : Sequence) (p i e : ℕ) → i ≡ high → (node_at ns i).parent.number ≡ s.parent
      → (node_at ns i).area ≡ rectangle_of (member_box s p e) → IsBeyond ns s (member_box s p e) high
  beyond-here s p i e q x a =
      rw (← q) (record { along = rw a (along-itself _); parent = x })

  beyond-line : (c : ℕ) (s : Sequence) (b p : ℕ) (m : Numbered) → Standing ns s b p m
      → OpenLine ns o c (first_slot m) high → IsBeyondAll s p m
  beyond-line zero s b p End h x = absurd (none-open ns o closed high (sym x) last)
  beyond-line (suc c) s b p End h x = absurd (none-open ns o closed no_slot refl x.0)
  beyond-line zero s b p (Free i e rest) h x = record { extent = e; begins = h.1; beyond = beyond-here s p i e x h.0.parent h.1 }
  beyond-line (suc c) s b p (Free i e rest) h x =
      let y = beyond-line c s i (p + e) rest h.2 (rw h.0.next at x.1) in
      record { extent = e; begins = h.1; beyond = beyond-on ns s _ _ high (along-next s p e y.extent) y.beyond }
  beyond-line zero s b p (Alloc i g e rest) h x = record { extent = e; begins = h.1; beyond = beyond-here s p i e x h.0.parent h.1 }
  beyond-line (suc c) s b p (Alloc i g e rest) h x =
      let y = beyond-line c s i (p + e) rest h.3 (rw h.0.next at x.1) in
      record { extent = e; begins = h.1; beyond = beyond-on ns s _ _ high (along-next s p e y.extent) y.beyond }
  beyond-line zero s b p (Seq i e inner rest) h x = record { extent = e; begins = h.1; beyond = beyond-here s p i e x h.0.parent h.1 }
  beyond-line (suc c) s b p (Seq i e inner rest) h x =
      let y = beyond-line c s i (p + e) rest h.3 (rw h.0.next at x.1) in
      record { extent = e; begins = h.1; beyond = beyond-on ns s _ _ high (along-next s p e y.extent) y.beyond }

  -- What a line says of its last member, seen from the first.
  pub line-beyond : (c low : ℕ) (s : Sequence) (p : ℕ) (n : Numbered) → Standing ns s no_slot p n → 0 < tally low n
      → OpenLine ns o c low high
      → IsAlong (box_of (node_at ns low).area) (box_of (node_at ns high).area)
      × ((node_at ns high).parent.number ≡ (node_at ns low).parent.number)
  line-beyond c low s p n h l x =
      let f = suffix-at ns low s no_slot p n h l in
      let y = beyond-line c f.at f.before f.start f.members f.standing (rw f.begins x) in
      let low_is : (node_at ns low).parent.number ≡ f.at.parent = rw f.begins at
      (parent-first f.at f.before f.start f.members f.standing (rw f.begins f.here)) in
      let a : (node_at ns low).area ≡ rectangle_of (member_box f.at f.start y.extent) = rw f.begins at y.begins in
      (rw a y.beyond.along, y.beyond.parent ∙ sym low_is)
    where
      parent-first : (s : Sequence) (b p : ℕ) (m : Numbered) → Standing ns s b p m → 0 < tally (first_slot m) m
          → (node_at ns (first_slot m)).parent.number ≡ s.parent
      parent-first s b p End h l = absurd (omega arith)
      parent-first s b p m h l = h.0.parent

-- The rectangle of a member has the coordinates of its box.
pub exact-at : (ns : List Node) (i : ℕ) (s : Sequence) (p : ℕ) (n : Numbered) → Standing ns s no_slot p n → 0 < tally i n
    → (node_at ns i).area ≡ rectangle_of (box_of (node_at ns i).area)
exact-at ns i s p n h l =
    let f = suffix-at ns i s no_slot p n h l in
    rw f.begins at (from f.at f.before f.start f.members f.standing (rw f.begins f.here))
  where
    from : (s : Sequence) (b p : ℕ) (m : Numbered) → Standing ns s b p m → 0 < tally (first_slot m) m
        → (node_at ns (first_slot m)).area ≡ rectangle_of (box_of (node_at ns (first_slot m)).area)
    from s b p End h l = absurd (omega arith)
    from s b p m h l = rw h.1 refl

-- Members of one container.
module _ (ns : List Node) (k : ℕ) where
  -- A member of an open sequence.
  pub open-direct : (o : ℕ → Bool) (s : Sequence) (b p : ℕ) (n : Numbered) → Standing ns s b p n → tally s.parent n ≡ 0
      → (node_at ns k).parent.number ≡ s.parent → all_open o n ≡ true → 0 < tally k n → o k ≡ true
  open-direct o s b p End h z e t l = absurd (omega arith)
  open-direct o s b p (Free i d rest) h z e t l =
      let y = and_parts _ _ t in
      elim (cases_eq k i) [
        | inl q ↦ ap o q ∙ y.0
        | inr ne ↦ open-direct o s i (p + d) rest h.2 (omega arith) e y.1 (omega (arith, same-ne k i ne))
      ]
  open-direct o s b p (Alloc i g d rest) h z e t l =
      let y = and_parts _ _ t in
      elim (cases_eq k i) [
        | inl q ↦ ap o q ∙ y.0
        | inr ne ↦ open-direct o s i (p + d) rest h.3 (omega arith) e y.1 (omega (arith, same-ne k i ne))
      ]
  open-direct o s b p (Seq i d inner rest) h z e t l =
      let y = and_parts _ _ t in
      elim (cases_eq k i) [
        | inl q ↦ ap o q ∙ y.0
        | inr ne ↦ elim (split_pos (tally k inner) (tally k rest) (omega (arith, same-ne k i ne))) [
          | inl a ↦ elim (parent-in ns k (inside s i p d) no_slot s.start inner h.2 a) [
            | inl q ↦ absurd (ne-from_same s.parent i (omega arith) (sym q ∙ e))
            | inr x ↦ absurd (omega (arith, rw e at x))
          ]
          | inr a ↦ open-direct o s i (p + d) rest h.3 (omega arith) e y.1 a
        ]
      ]

  -- A member of a sequence lies between its ends.
  record IsBetween (s : Sequence) (p e : ℕ) : Type 0 where
    start : ℕ
    extent : ℕ
    box : (node_at ns k).area ≡ rectangle_of (member_box s start extent)
    after : p ≤ start
    before : start + extent ≤ p + e

  between-here : (s : Sequence) (p e i t : ℕ) → k ≡ i → (node_at ns i).area ≡ rectangle_of (member_box s p e)
      → e ≤ t → IsBetween s p t
  between-here s p e i t q a l =
      record { start = p; extent = e; box = ap (λ x. (node_at ns x).area) q ∙ a; after = omega arith; before = omega arith }

  between-later : (s : Sequence) (p d t u : ℕ) → IsBetween s (p + d) t → d + t ≤ u → IsBetween s p u
  between-later s p d t u x l =
      record { start = x.start; extent = x.extent; box = x.box; after = omega (arith, x.after); before = omega (arith, x.before) }

  between-direct : (s : Sequence) (b p : ℕ) (n : Numbered) → Standing ns s b p n → tally s.parent n ≡ 0
      → (node_at ns k).parent.number ≡ s.parent → 0 < tally k n → IsBetween s p (total (erase n))
  between-direct s b p End h z e l = absurd (omega arith)
  between-direct s b p (Free i d rest) h z e l =
      elim (cases_eq k i) [
        | inl q ↦ between-here s p d i _ q h.1 (omega arith)
        | inr ne ↦ between-later s p d _ _ (between-direct s i (p + d) rest h.2 (omega arith) e (omega (arith, same-ne k i ne)))
            (omega arith)
      ]
  between-direct s b p (Alloc i g d rest) h z e l =
      elim (cases_eq k i) [
        | inl q ↦ between-here s p d i _ q h.1 (omega arith)
        | inr ne ↦ between-later s p d _ _ (between-direct s i (p + d) rest h.3 (omega arith) e (omega (arith, same-ne k i ne)))
            (omega arith)
      ]
  between-direct s b p (Seq i d inner rest) h z e l =
      elim (cases_eq k i) [
        | inl q ↦ between-here s p d i _ q h.1 (omega arith)
        | inr ne ↦ elim (split_pos (tally k inner) (tally k rest) (omega (arith, same-ne k i ne))) [
          | inl a ↦ elim (parent-in ns k (inside s i p d) no_slot s.start inner h.2 a) [
            | inl q ↦ absurd (ne-from_same s.parent i (omega arith) (sym q ∙ e))
            | inr x ↦ absurd (omega (arith, rw e at x))
          ]
          | inr a ↦ between-later s p d _ _ (between-direct s i (p + d) rest h.3 (omega arith) e a) (omega arith)
        ]
      ]

  inside-sides : (s : Sequence) (i p e q d : ℕ) → s.start ≤ q → q + d ≤ s.start + s.width
      → IsInside (member_box (inside s i p e) q d) (member_box s p e)
  inside-sides s i p e q d l m = grind arith

  -- A member of a container lies inside its box.
  pub inside-parent : (s : Sequence) (b p : ℕ) (n : Numbered) → Standing ns s b p n → 0 < tally k n
      → ((node_at ns k).parent.number ≡ s.parent → ⊥) → ((x : ℕ) → tally x n ≤ 1) → IsCut s.width (erase n)
      → IsInside (box_of (node_at ns k).area) (box_of (node_at ns (node_at ns k).parent.number).area)
  inside-parent s b p End h l ne once cut = absurd (omega arith)
  inside-parent s b p (Free i d rest) h l ne once cut =
      elim (cases_eq k i) [
        | inl q ↦ absurd (ne (rw q h.0.parent))
        | inr other ↦ inside-parent s i (p + d) rest h.2 (omega (arith, same-ne k i other)) ne (λ x. omega (arith, once x)) cut.1
      ]
  inside-parent s b p (Alloc i g d rest) h l ne once cut =
      elim (cases_eq k i) [
        | inl q ↦ absurd (ne (rw q h.0.parent))
        | inr other ↦ inside-parent s i (p + d) rest h.3 (omega (arith, same-ne k i other)) ne (λ x. omega (arith, once x)) cut.1
      ]
  inside-parent s b p (Seq i d inner rest) h l ne once cut =
      elim (below-cases ns k s b p i d inner rest h l ne) [
        | inl (a, inl q) ↦
            let z : tally i inner ≡ 0 = omega (arith, once i, same-self i) in
            let x = between-direct (inside s i p d) no_slot s.start inner h.2 z q a in
            let sides = inside-sides s i p d x.start x.extent x.after (omega (arith, x.before, cut.1)) in
            rw (q, x.box, h.1) sides
        | inl (a, inr x) ↦
            let other : (node_at ns k).parent.number ≡ i → ⊥ = λ q. absurd (omega (arith, once i, same-self i, ap (λ m. tally m inner) q))
            in
            inside-parent (inside s i p d) no_slot s.start inner h.2 a other (λ y. omega (arith, once y)) cut.2
        | inr (a, x) ↦ inside-parent s i (p + d) rest h.3 a ne (λ y. omega (arith, once y)) cut.3
      ]

-- Each member of a container is open where a line fills it.
module _ (ns : List Node) (o : ℕ → Bool) (c : ℕ) (low k l : ℕ) (line : OpenLine ns o l low no_slot)
    (parent : (node_at ns low).parent.number ≡ c) (first : (node_at ns low).previous.number ≡ no_slot)
    (is : (node_at ns k).parent.number ≡ c) where
  open-here : (s : Sequence) (p : ℕ) (inner : Numbered) → Standing ns s no_slot p inner → s.parent ≡ c
      → tally no_slot inner ≡ 0 → tally c inner ≡ 0 → 0 < tally low inner → 0 < tally k inner → o k ≡ true
  open-here s p inner h q none z a b =
      let e : low ≡ first_slot inner = head-is_first ns c low parent first s no_slot p inner none z a h in
      let all : all_open o inner ≡ true = line-all ns o l s no_slot p inner h none (rw e at line) in
      open-direct ns k o s no_slot p inner h (rw q z) (is ∙ sym q) all b

  pub open-each : (s : Sequence) (b p : ℕ) (n : Numbered) → Standing ns s b p n → (c ≡ s.parent → ⊥)
      → ((x : ℕ) → tally x n ≤ 1) → tally no_slot n ≡ 0 → 0 < tally low n → 0 < tally k n → o k ≡ true
  open-each s b p End h ne once none x y = absurd (omega arith)
  open-each s b p (Free i d rest) h ne once none x y =
      let a : low ≡ i → ⊥ = λ q. ne (sym parent ∙ rw q h.0.parent) in
      let b : k ≡ i → ⊥ = λ q. ne (sym is ∙ rw q h.0.parent) in
      open-each s i (p + d) rest h.2 ne (λ v. omega (arith, once v)) (omega arith) (omega (arith, same-ne low i a))
      (omega (arith, same-ne k i b))
  open-each s b p (Alloc i g d rest) h ne once none x y =
      let a : low ≡ i → ⊥ = λ q. ne (sym parent ∙ rw q h.0.parent) in
      let b : k ≡ i → ⊥ = λ q. ne (sym is ∙ rw q h.0.parent) in
      open-each s i (p + d) rest h.3 ne (λ v. omega (arith, once v)) (omega arith) (omega (arith, same-ne low i a))
      (omega (arith, same-ne k i b))
  open-each s b p (Seq i d inner rest) h ne once none x y =
      let u = rw parent at (below-cases ns low s b p i d inner rest h x (λ q. ne (sym parent ∙ q))) in
      let v = rw is at (below-cases ns k s b p i d inner rest h y (λ q. ne (sym is ∙ q))) in
      elim u [
        | inl (a, m) ↦ elim v [
          | inl (b, _) ↦ elim (cases_eq c i) [
            | inl q ↦ open-here (inside s i p d) s.start inner h.2 (sym q) (omega arith)
                (omega (arith, once c, ap (λ w. same c w) q, same-self c)) a b
            | inr other ↦ open-each (inside s i p d) no_slot s.start inner h.2 other (λ w. omega (arith, once w)) (omega arith) a b
          ]
          | inr (b, z) ↦ absurd (elim m [
            | inl q ↦ omega (arith, once c, ap (λ w. same c w) q, same-self c, z)
            | inr w ↦ omega
                (arith, once c, z, w)
          ])
        ]
        | inr (a, z) ↦ elim v [
          | inl (b, m) ↦ absurd (elim m [
            | inl q ↦ omega (arith, once c, ap (λ w. same c w) q, same-self c, z)
            | inr w ↦ omega
                (arith, once c, z, w)
          ])
          | inr (b, _) ↦ open-each s i (p + d) rest h.3 ne (λ w. omega (arith, once w)) (omega arith) a b
        ]
      ]
