-- Opening one member more, in a tree of which some members are open.
use Rattle.std.proofs.Common.{ℕ, ◌+◌, ◌<◌, ◌≤◌, ◌≡◌, ◌||◌, ◌⊎◌, inl, inr, Bool, true, false, refl, sym, ap, ◌∙◌, arith}
use Rattle.std.proofs.Common.{List, length, set, get_or-set_same, get_or-set_other}
use Rattle.std.proofs.lemmas.Bool.{cases_eq, eq-eqb, ne_eqb, and_left, and_right, and_from, and_parts, or_right}
use Rattle.atlas_store.specs.declared.slots.Node.{Node}
use Rattle.atlas_store.specs.declared.slots.NodeKind.TheVariants as kind
use Rattle.atlas_model.specs.Changes.{and_id}
use Rattle.atlas_store.specs.Slots.{node_at, use_count}
use Rattle.atlas_search.specs.Numbers.{no_slot, same}
use Rattle.atlas_store.specs.Slots.Lists.{is_free}
use Rattle.atlas_store.specs.Slots.Numbered.{Numbered, tally, id_of, End, Free, Alloc, Seq}
use Rattle.atlas_store.specs.Slots.Standing.{Sequence, Standing, Stands, inside}
use Rattle.atlas_store.specs.Slots.Rehearsing.{is_open, all_open, ShowsBut, Shows}
use Rattle.atlas_store.proofs.SlotLemmas.Frames.{same-self, same-ne, split_pos, used-le, ne-from_same}
use Rattle.atlas_store.proofs.SlotLemmas.JoinWrites.{used-inside, none-unused}

-- The open members are those of o, and the one at slot i.
pub record IsOpenedAt (o more : ℕ → Bool) (i : ℕ) : Type 0 where
  pub there : more i ≡ true
  pub others : (k : ℕ) → (k ≡ i → ⊥) → more k ≡ o k

pub stays-open : (o more : ℕ → Bool) (i k : ℕ) → IsOpenedAt o more i → o k ≡ true → more k ≡ true
stays-open o more i k w h = elim (cases_eq k i) [ inl e ↦ rw e w.there | inr ne ↦ rw (w.others k ne) h ]

-- A mark opens the member at its slot.
pub opened-set : (ns : List Node) (marks : List Bool) (i : ℕ) → i < length marks
    → IsOpenedAt (is_open ns marks) (is_open ns (set marks i true)) i
opened-set ns marks i l =
    record {
      there = or_right _ _ (get_or-set_same marks i true false l);
      others = λ k ne. ap (λ b. is_free (node_at ns k).kind || b) (get_or-set_other marks i k true false ne);
    }

pub or_false : (a b : Bool) → b ≡ false → (a || b) ≡ a
or_false true b h = refl
or_false false b h = h

-- Where all members are open, they stay so.
pub all_open-stays : (o more : ℕ → Bool) (i : ℕ) (n : Numbered) → IsOpenedAt o more i → all_open o n ≡ true
    → all_open more n ≡ true
all_open-stays o more i End w h = refl
all_open-stays o more i (Free j e rest) w h =
    let x = and_parts _ _ h in and_from _ _ (stays-open o more i j w x.0) (all_open-stays o more i rest w x.1)
all_open-stays o more i (Alloc j g e rest) w h =
    let x = and_parts _ _ h in and_from _ _ (stays-open o more i j w x.0) (all_open-stays o more i rest w x.1)
all_open-stays o more i (Seq j e inner rest) w h =
    let x = and_parts _ _ h in and_from _ _ (stays-open o more i j w x.0) (all_open-stays o more i rest w x.1)

-- Whether all members of the container c are open is `b`.
abbrev pub AreInside : (b : Bool) (o : ℕ → Bool) (c : ℕ) → Numbered → Type 0
AreInside b o c End = Unit {0}
AreInside b o c (Free j e rest) = AreInside b o c rest
AreInside b o c (Alloc j g e rest) = AreInside b o c rest
AreInside b o c (Seq j e inner rest) =
    (j ≡ c → all_open o inner ≡ b) × AreInside b o c inner × AreInside b o c rest

inside-none : (b : Bool) (o : ℕ → Bool) (c : ℕ) (n : Numbered) → tally c n ≡ 0 → AreInside b o c n
inside-none b o c End z = tt
inside-none b o c (Free j e rest) z = inside-none b o c rest (omega arith)
inside-none b o c (Alloc j g e rest) z = inside-none b o c rest (omega arith)
inside-none b o c (Seq j e inner rest) z =
    ((λ q. absurd (ne-from_same c j (omega arith) q)), inside-none b o c inner (omega arith), inside-none b o c rest (omega arith))

-- The container at the hole is as the others are.
pub shows-all : (o set : ℕ → Bool) (c : ℕ) (n : Numbered) → AreInside (o c) o c n → ShowsBut c o set n → Shows o set n
shows-all o set c End x f = tt
shows-all o set c (Free j e rest) x f = (f.0, shows-all o set c rest x f.1)
shows-all o set c (Alloc j g e rest) x f = (f.0, shows-all o set c rest x f.1)
shows-all o set c (Seq j e inner rest) x f = (
  elim (cases_eq j c) [ inl q ↦ ap o q ∙ sym (x.0 q) | inr ne ↦ f.0 ne ],
  shows-all o set c inner x.1 f.1,
  shows-all o set c rest x.2 f.2,
)

pub shows-no_hole : (o set : ℕ → Bool) (c : ℕ) (n : Numbered) → tally c n ≡ 0 → ShowsBut c o set n → Shows o set n
shows-no_hole o set c n z f = shows-all o set c n (inside-none (o c) o c n z) f

pub shows-but : (o set : ℕ → Bool) (c : ℕ) (n : Numbered) → Shows o set n → ShowsBut c o set n
shows-but o set c End f = tt
shows-but o set c (Free j e rest) f = (f.0, shows-but o set c rest f.1)
shows-but o set c (Alloc j g e rest) f = (f.0, shows-but o set c rest f.1)
shows-but o set c (Seq j e inner rest) f = ((λ _. f.0), shows-but o set c inner f.1, shows-but o set c rest f.2)

module _ (ns : List Node) where
  -- A sequence that the slot i is none of.
  pub all_open-same : (o more : ℕ → Bool) (i : ℕ) (s : Sequence) (b p : ℕ) (n : Numbered) → IsOpenedAt o more i
      → ((node_at ns i).parent.number ≡ s.parent → ⊥) → Standing ns s b p n → all_open more n ≡ all_open o n
  all_open-same o more i s b p End w apart h = refl
  all_open-same o more i s b p (Free j e rest) w apart h =
      let other : j ≡ i → ⊥ = λ q. apart (ap (λ k. (node_at ns k).parent.number) (sym q) ∙ h.0.parent) in
      rw (w.others j other, all_open-same o more i s j (p + e) rest w apart h.2) refl
  all_open-same o more i s b p (Alloc j g e rest) w apart h =
      let other : j ≡ i → ⊥ = λ q. apart (ap (λ k. (node_at ns k).parent.number) (sym q) ∙ h.0.parent) in
      rw (w.others j other, all_open-same o more i s j (p + e) rest w apart h.3) refl
  all_open-same o more i s b p (Seq j e inner rest) w apart h =
      let other : j ≡ i → ⊥ = λ q. apart (ap (λ k. (node_at ns k).parent.number) (sym q) ∙ h.0.parent) in
      rw (w.others j other, all_open-same o more i s j (p + e) rest w apart h.3) refl

  -- A leaf that is allocated becomes open, and its id one of the set.
  module _ (o more set : ℕ → Bool) (i : ℕ) (short : length ns ≤ 16777216) (was : (node_at ns i).kind ≡ kind.Alloc)
      (w : IsOpenedAt o more i) where
    shown_id : (j g : ℕ) → (node_at ns j).kind ≡ kind.Alloc → (node_at ns j).generation ≡ g → o j ≡ set (id_of j g)
        → more j ≡ and_id set (id_of i (node_at ns i).generation) (id_of j g)
    shown_id j g k q h =
        let lj : j < length ns = used-inside ns j (rw k (omega arith)) in
        let li : i < length ns = used-inside ns i (rw was (omega arith)) in
        elim (cases_eq j i) [
          | inl e ↦
              let same_id : id_of j g ≡ id_of i (node_at ns i).generation = rw (← q, e) refl in
              ap more e ∙ w.there ∙ sym (or_right (set (id_of j g)) _ (eq-eqb _ _ same_id))
          | inr ne ↦
              let other_id : id_of j g ≡ id_of i (node_at ns i).generation → ⊥ = (λ x. ne (omega arith)) in
              w.others j ne ∙ h ∙ sym (or_false (set (id_of j g)) _ (ne_eqb _ _ other_id))
        ]

    pub shows-leaf : (s : Sequence) (b p : ℕ) (n : Numbered) → Standing ns s b p n → Shows o set n
        → ShowsBut (node_at ns i).parent.number more (and_id set (id_of i (node_at ns i).generation)) n
    shows-leaf s b p End h f = tt
    shows-leaf s b p (Free j e rest) h f = (stays-open o more i j w f.0, shows-leaf s j (p + e) rest h.2 f.1)
    shows-leaf s b p (Alloc j g e rest) h f =
        (shown_id j g h.0.kind h.2 f.0, shows-leaf s j (p + e) rest h.3 f.1)
    shows-leaf s b p (Seq j e inner rest) h f =
        let other : j ≡ i → ⊥ = λ q. (let x = h.0.kind in absurd cc) in
        let here : (j ≡ (node_at ns i).parent.number → ⊥) → more j ≡ all_open more inner =
        λ ne. w.others j other ∙ f.0 ∙ sym (all_open-same o more i (inside s j p e) no_slot s.start inner w (λ q. ne (sym q)) h.2)
        in
        (here, shows-leaf (inside s j p e) no_slot s.start inner h.2 f.1, shows-leaf s j (p + e) rest h.3 f.2)

  -- The container becomes open.
  pub shows-container : (o more set : ℕ → Bool) (c : ℕ) (s : Sequence) (b p : ℕ) (n : Numbered)
      → (node_at ns c).kind ≡ kind.Container → IsOpenedAt o more c → AreInside true o c n → Standing ns s b p n
      → ShowsBut c o set n → ShowsBut (node_at ns c).parent.number more set n
  shows-container o more set c s b p End was w full h f = tt
  shows-container o more set c s b p (Free j e rest) was w full h f =
      (stays-open o more c j w f.0, shows-container o more set c s j (p + e) rest was w full h.2 f.1)
  shows-container o more set c s b p (Alloc j g e rest) was w full h f =
      let other : j ≡ c → ⊥ = λ q. (let x = h.0.kind in absurd cc) in
      (w.others j other ∙ f.0, shows-container o more set c s j (p + e) rest was w full h.3 f.1)
  shows-container o more set c s b p (Seq j e inner rest) was w full h f =
      let here : (j ≡ (node_at ns c).parent.number → ⊥) → more j ≡ all_open more inner =
      λ ne. elim (cases_eq j c) [
        | inl q ↦ ap more q ∙ w.there ∙ sym (all_open-stays o more c inner w (full.0 q))
        | inr other ↦
            w.others j other ∙ f.0 other
            ∙ sym (all_open-same o more c (inside s j p e) no_slot s.start inner w (λ q. ne (sym q)) h.2)
      ]
      in (
        here,
        shows-container o more set c (inside s j p e) no_slot s.start inner was w full.1 h.2 f.1,
        shows-container o more set c s j (p + e) rest was w full.2 h.3 f.2,
      )

  -- Where each used slot that names c as its parent is open.
  pub all_open-each : (o : ℕ → Bool) (s : Sequence) (b p : ℕ) (n : Numbered)
      → ((k : ℕ) → 0 < use_count (node_at ns k).kind → (node_at ns k).parent.number ≡ s.parent → o k ≡ true)
      → Standing ns s b p n → all_open o n ≡ true
  all_open-each o s b p End each h = refl
  all_open-each o s b p (Free j e rest) each h =
      and_from _ _ (each j (rw h.0.kind (omega arith)) h.0.parent) (all_open-each o s j (p + e) rest each h.2)
  all_open-each o s b p (Alloc j g e rest) each h =
      and_from _ _ (each j (rw h.0.kind (omega arith)) h.0.parent) (all_open-each o s j (p + e) rest each h.3)
  all_open-each o s b p (Seq j e inner rest) each h =
      and_from _ _ (each j (rw h.0.kind (omega arith)) h.0.parent) (all_open-each o s j (p + e) rest each h.3)

  pub open_inside-each : (o : ℕ → Bool) (c : ℕ) (s : Sequence) (b p : ℕ) (n : Numbered)
      → ((k : ℕ) → 0 < use_count (node_at ns k).kind → (node_at ns k).parent.number ≡ c → o k ≡ true)
      → Standing ns s b p n → AreInside true o c n
  open_inside-each o c s b p End each h = tt
  open_inside-each o c s b p (Free j e rest) each h = open_inside-each o c s j (p + e) rest each h.2
  open_inside-each o c s b p (Alloc j g e rest) each h = open_inside-each o c s j (p + e) rest each h.3
  open_inside-each o c s b p (Seq j e inner rest) each h = (
    (λ q. all_open-each o (inside s j p e) no_slot s.start inner (λ k u x. each k u (x ∙ q)) h.2),
    open_inside-each o c (inside s j p e) no_slot s.start inner each h.2,
    open_inside-each o c s j (p + e) rest each h.3,
  )

  -- The parent of a member is that of the sequence, or a member.
  pub parent-in : (k : ℕ) (s : Sequence) (b p : ℕ) (n : Numbered) → Standing ns s b p n → 0 < tally k n
      → ((node_at ns k).parent.number ≡ s.parent) ⊎ (0 < tally (node_at ns k).parent.number n)
  parent-in k s b p End h l = absurd (omega arith)
  parent-in k s b p (Free j e rest) h l =
      elim (cases_eq k j) [
        | inl q ↦ inl (rw q h.0.parent)
        | inr ne ↦ elim (parent-in k s j (p + e) rest h.2 (omega (arith, same-ne k j ne))) [ inl x ↦ inl x | inr x ↦ inr (omega arith) ]
      ]
  parent-in k s b p (Alloc j g e rest) h l =
      elim (cases_eq k j) [
        | inl q ↦ inl (rw q h.0.parent)
        | inr ne ↦ elim (parent-in k s j (p + e) rest h.3 (omega (arith, same-ne k j ne))) [ inl x ↦ inl x | inr x ↦ inr (omega arith) ]
      ]
  parent-in k s b p (Seq j e inner rest) h l =
      elim (cases_eq k j) [
        | inl q ↦ inl (rw q h.0.parent)
        | inr ne ↦ elim (split_pos (tally k inner) (tally k rest) (omega (arith, same-ne k j ne))) [
          | inl a ↦ elim (parent-in k (inside s j p e) no_slot s.start inner h.2 a) [
            | inl x ↦ inr (rw x (omega (arith, same-self j)))
            | inr x ↦ inr (omega arith)
          ]
          | inr a ↦ elim (parent-in k s j (p + e) rest h.3 a) [ inl x ↦ inl x | inr x ↦ inr (omega arith) ]
        ]
      ]

  module _ (k : ℕ) where
    -- A member that isn't in the sequence itself is below this container, or below one in the rest.
    pub below-cases : (s : Sequence) (b p j e : ℕ) (inner rest : Numbered) → Standing ns s b p (Seq j e inner rest)
        → 0 < tally k (Seq j e inner rest) → ((node_at ns k).parent.number ≡ s.parent → ⊥)
        → ((0 < tally k inner) × (((node_at ns k).parent.number ≡ j) ⊎ (0 < tally (node_at ns k).parent.number inner)))
        ⊎ ((0 < tally k rest) × (0 < tally (node_at ns k).parent.number rest))
    below-cases s b p j e inner rest h l ne =
        elim (cases_eq k j) [
          | inl q ↦ absurd (ne (rw q h.0.parent))
          | inr other ↦ elim (split_pos (tally k inner) (tally k rest) (omega (arith, same-ne k j other))) [
            | inl a ↦ inl (a, parent-in k (inside s j p e) no_slot s.start inner h.2 a)
            | inr a ↦ elim (parent-in k s j (p + e) rest h.3 a) [ inl x ↦ absurd (ne x) | inr x ↦ inr (a, x) ]
          ]
        ]

    -- A member of another sequence comes after the first of this one.
    not-first : (s : Sequence) (j later : ℕ) → (node_at ns j).parent.number ≡ s.parent
        → ((node_at ns k).parent.number ≡ s.parent → ⊥) → 0 < same k j + later → 0 < later
    not-first s j later h ne l =
        elim (cases_eq k j) [ inl x ↦ absurd (ne (rw x h)) | inr other ↦ omega (arith, same-ne k j other) ]

    -- What is below a container names it.
    pub parent-kind : (s : Sequence) (b p : ℕ) (n : Numbered) → Standing ns s b p n → 0 < tally k n
        → ((node_at ns k).parent.number ≡ s.parent → ⊥) → (node_at ns (node_at ns k).parent.number).kind ≡ kind.Container
    parent-kind s b p End h l ne = absurd (omega arith)
    parent-kind s b p (Free j e rest) h l ne =
        parent-kind s j (p + e) rest h.2 (not-first s j (tally k rest) h.0.parent ne l) ne
    parent-kind s b p (Alloc j g e rest) h l ne =
        parent-kind s j (p + e) rest h.3 (not-first s j (tally k rest) h.0.parent ne l) ne
    parent-kind s b p (Seq j e inner rest) h l ne =
        elim (below-cases s b p j e inner rest h l ne) [
          | inl (a, x) ↦ elim (cases_eq (node_at ns k).parent.number j) [
            | inl q ↦ ap (λ m. (node_at ns m).kind) q ∙ h.0.kind
            | inr other ↦ parent-kind (inside s j p e) no_slot s.start inner h.2 a other
          ]
          | inr (a, x) ↦ parent-kind s j (p + e) rest h.3 a ne
        ]

    -- No member is its own parent.
    pub parent-other : (s : Sequence) (b p : ℕ) (n : Numbered) → Standing ns s b p n → 0 < tally k n
        → ((x : ℕ) → tally x n ≤ 1) → tally s.parent n ≡ 0 → (node_at ns k).parent.number ≡ k → ⊥
    parent-other s b p End h l once z q = absurd (omega arith)
    parent-other s b p (Free j e rest) h l once z q =
        elim (cases_eq k j) [
          | inl x ↦ absurd (ne-from_same s.parent j (omega arith) (sym x ∙ sym q ∙ rw x h.0.parent))
          | inr ne ↦ parent-other s j (p + e) rest h.2 (omega (arith, same-ne k j ne)) (λ x. omega (arith, once x)) (omega arith) q
        ]
    parent-other s b p (Alloc j g e rest) h l once z q =
        elim (cases_eq k j) [
          | inl x ↦ absurd (ne-from_same s.parent j (omega arith) (sym x ∙ sym q ∙ rw x h.0.parent))
          | inr ne ↦ parent-other s j (p + e) rest h.3 (omega (arith, same-ne k j ne)) (λ x. omega (arith, once x)) (omega arith) q
        ]
    parent-other s b p (Seq j e inner rest) h l once z q =
        elim (cases_eq k j) [
          | inl x ↦ absurd (ne-from_same s.parent j (omega arith) (sym x ∙ sym q ∙ rw x h.0.parent))
          | inr ne ↦ elim (split_pos (tally k inner) (tally k rest) (omega (arith, same-ne k j ne))) [
            | inl a ↦
                let none : tally j inner ≡ 0 = omega (arith, once j, same-self j) in
                parent-other (inside s j p e) no_slot s.start inner h.2 a (λ x. omega (arith, once x)) none q
            | inr a ↦ parent-other s j (p + e) rest h.3 a (λ x. omega (arith, once x)) (omega arith) q
          ]
        ]

    module _ (o : ℕ → Bool) (closed : o k ≡ false) where
      -- A sequence with a member that isn't open.
      pub closed-here : (s : Sequence) (b p : ℕ) (n : Numbered) → Standing ns s b p n → 0 < tally k n
          → (node_at ns k).parent.number ≡ s.parent → tally s.parent n ≡ 0 → all_open o n ≡ false
      closed-here s b p End h l q z = absurd (omega arith)
      closed-here s b p (Free j e rest) h l q z =
          elim (cases_eq k j) [
            | inl x ↦ and_left _ _ (ap o (sym x) ∙ closed)
            | inr ne ↦ and_right _ _ (closed-here s j (p + e) rest h.2 (omega (arith, same-ne k j ne)) q (omega arith))
          ]
      closed-here s b p (Alloc j g e rest) h l q z =
          elim (cases_eq k j) [
            | inl x ↦ and_left _ _ (ap o (sym x) ∙ closed)
            | inr ne ↦ and_right _ _ (closed-here s j (p + e) rest h.3 (omega (arith, same-ne k j ne)) q (omega arith))
          ]
      closed-here s b p (Seq j e inner rest) h l q z =
          elim (cases_eq k j) [
            | inl x ↦ and_left _ _ (ap o (sym x) ∙ closed)
            | inr ne ↦ elim (split_pos (tally k inner) (tally k rest) (omega (arith, same-ne k j ne))) [
              | inl a ↦ elim (parent-in k (inside s j p e) no_slot s.start inner h.2 a) [
                | inl x ↦ absurd (ne-from_same s.parent j (omega arith) (sym x ∙ q))
                | inr x ↦ absurd (omega (arith, ap (λ m. tally m inner) q))
              ]
              | inr a ↦ and_right _ _ (closed-here s j (p + e) rest h.3 a q (omega arith))
            ]
          ]

      -- Its container doesn't have all members open.
      pub closed-inside : (s : Sequence) (b p : ℕ) (n : Numbered) → Standing ns s b p n → 0 < tally k n
          → ((node_at ns k).parent.number ≡ s.parent → ⊥) → tally (node_at ns k).parent.number n ≤ 1
          → AreInside false o (node_at ns k).parent.number n
      closed-inside s b p End h l ne once = tt
      closed-inside s b p (Free j e rest) h l ne once =
          closed-inside s j (p + e) rest h.2 (not-first s j (tally k rest) h.0.parent ne l) ne (omega arith)
      closed-inside s b p (Alloc j g e rest) h l ne once =
          closed-inside s j (p + e) rest h.3 (not-first s j (tally k rest) h.0.parent ne l) ne (omega arith)
      closed-inside s b p (Seq j e inner rest) h l ne once =
          let c = (node_at ns k).parent.number in
          elim (below-cases s b p j e inner rest h l ne) [
            | inl (a, inl q) ↦
                let z : tally c inner + tally c rest ≡ 0 = omega (arith, ap (λ m. same m j) q, same-self j) in
                let shut = closed-here (inside s j p e) no_slot s.start inner h.2 a q (rw (← q) (omega arith)) in
                ((λ _. shut), inside-none false o c inner (omega arith), inside-none false o c rest (omega arith))
            | inl (a, inr x) ↦
                let other : c ≡ j → ⊥ = λ q. absurd (omega (arith, ap (λ m. same m j) q, same-self j)) in
                let deep = closed-inside (inside s j p e) no_slot s.start inner h.2 a other (omega arith) in
                ((λ q. absurd (other (sym q))), deep, inside-none false o c rest (omega arith))
            | inr (a, x) ↦
                let other : c ≡ j → ⊥ = λ q. absurd (omega (arith, ap (λ m. same m j) q, same-self j)) in
                let later = closed-inside s j (p + e) rest h.3 a ne (omega arith) in
                ((λ q. absurd (other (sym q))), inside-none false o c inner (omega arith), later)
          ]

      -- So that container isn't open.
      pub closed-above : (set : ℕ → Bool) (hole : ℕ) (s : Sequence) (b p : ℕ) (n : Numbered) → Standing ns s b p n
          → 0 < tally k n → ((node_at ns k).parent.number ≡ s.parent → ⊥) → tally (node_at ns k).parent.number n ≤ 1
          → ((node_at ns k).parent.number ≡ hole → ⊥) → ShowsBut hole o set n → o (node_at ns k).parent.number ≡ false
      closed-above set hole s b p End h l ne once nh f = absurd (omega arith)
      closed-above set hole s b p (Free j e rest) h l ne once nh f =
          closed-above set hole s j (p + e) rest h.2 (not-first s j (tally k rest) h.0.parent ne l) ne (omega arith) nh f.1
      closed-above set hole s b p (Alloc j g e rest) h l ne once nh f =
          closed-above set hole s j (p + e) rest h.3 (not-first s j (tally k rest) h.0.parent ne l) ne (omega arith) nh f.1
      closed-above set hole s b p (Seq j e inner rest) h l ne once nh f =
          let c = (node_at ns k).parent.number in
          elim (below-cases s b p j e inner rest h l ne) [
            | inl (a, inl q) ↦
                let z : tally c inner ≡ 0 = omega (arith, ap (λ m. same m j) q, same-self j) in
                ap o q ∙ f.0 (λ x. nh (q ∙ x)) ∙ closed-here (inside s j p e) no_slot s.start inner h.2 a q (rw (← q) z)
            | inl (a, inr x) ↦
                let other : c ≡ j → ⊥ = λ q. absurd (omega (arith, ap (λ m. same m j) q, same-self j)) in
                closed-above set hole (inside s j p e) no_slot s.start inner h.2 a other (omega arith) nh f.1
            | inr (a, x) ↦ closed-above set hole s j (p + e) rest h.3 a ne (omega arith) nh f.2
          ]

-- The same of slots that hold a whole tree.
module _ (ns : List Node) (s : Sequence) (n : Numbered) (short : length ns ≤ 16777216) (top : s.parent ≡ no_slot)
    (h : Stands ns s n) where
  none_in : tally no_slot n ≡ 0
  none_in = h.numbered no_slot ∙ ap use_count (none-unused ns (omega arith))

  once_in : (x : ℕ) → tally x n ≤ 1
  once_in x = omega (arith, h.numbered x, used-le (node_at ns x).kind)

  -- An allocated leaf becomes open.
  pub leaf-shown : (o more set : ℕ → Bool) (i : ℕ) → (node_at ns i).kind ≡ kind.Alloc → IsOpenedAt o more i
      → Shows o set n
      → ShowsBut (node_at ns i).parent.number more (and_id set (id_of i (node_at ns i).generation)) n
  leaf-shown o more set i was w f = shows-leaf ns o more set i short was w s no_slot 0 n h.standing f

  -- A container becomes open, all of whose members are.
  pub container-shown : (o more set : ℕ → Bool) (c : ℕ) → (node_at ns c).kind ≡ kind.Container → IsOpenedAt o more c
      → ((k : ℕ) → 0 < use_count (node_at ns k).kind → (node_at ns k).parent.number ≡ c → o k ≡ true)
      → ShowsBut c o set n → ShowsBut (node_at ns c).parent.number more set n
  container-shown o more set c was w each f =
      shows-container ns o more set c s no_slot 0 n was w (open_inside-each ns o c s no_slot 0 n each h.standing) h.standing f

  -- Where the hole is no slot, each container is as it is to be.
  pub top-shown : (o set : ℕ → Bool) (hole : ℕ) → hole ≡ no_slot → ShowsBut hole o set n → Shows o set n
  top-shown o set hole e f = shows-no_hole o set hole n (rw e none_in) f

  -- So it is where a member of the hole isn't open, nor the hole.
  pub closed-shown : (o set : ℕ → Bool) (k : ℕ) → 0 < use_count (node_at ns k).kind → o k ≡ false
      → (((node_at ns k).parent.number ≡ no_slot → ⊥) → o (node_at ns k).parent.number ≡ false)
      → ShowsBut (node_at ns k).parent.number o set n → Shows o set n
  closed-shown o set k used closed above f =
      elim (cases_eq (node_at ns k).parent.number no_slot) [
        | inl e ↦ top-shown o set (node_at ns k).parent.number e f
        | inr ne ↦
            let c = (node_at ns k).parent.number in
            let here : 0 < tally k n = rw (h.numbered k) used in
            let x = closed-inside ns k o closed s no_slot 0 n h.standing here (λ q. ne (q ∙ top)) (once_in c) in
            shows-all o set c n (rw (above ne) x) f
      ]

  -- The container of a member that isn't open isn't.
  pub parent-closed : (o set : ℕ → Bool) (hole k : ℕ) → 0 < use_count (node_at ns k).kind → o k ≡ false
      → ((node_at ns k).parent.number ≡ no_slot → ⊥) → ((node_at ns k).parent.number ≡ hole → ⊥)
      → ShowsBut hole o set n → o (node_at ns k).parent.number ≡ false
  parent-closed o set hole k used closed ne nh f =
      closed-above ns k o closed set hole s no_slot 0 n h.standing (rw (h.numbered k) used) (λ q. ne (q ∙ top)) (once_in _) nh f

  -- A member's parent is another slot, and a container.
  pub parent-apart : (k : ℕ) → 0 < use_count (node_at ns k).kind → (node_at ns k).parent.number ≡ k → ⊥
  parent-apart k used =
      parent-other ns k s no_slot 0 n h.standing (rw (h.numbered k) used) once_in (rw top none_in)

  pub parent-container : (k : ℕ) → 0 < use_count (node_at ns k).kind → ((node_at ns k).parent.number ≡ no_slot → ⊥)
      → (node_at ns (node_at ns k).parent.number).kind ≡ kind.Container
  parent-container k used ne =
      parent-kind ns k s no_slot 0 n h.standing (rw (h.numbered k) used) (λ q. ne (q ∙ top))
