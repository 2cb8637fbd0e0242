-- Lines of open members that follow one another.
use Rattle.std.proofs.Common.{ℕ, ◌+◌, ◌<◌, ◌≡◌, inl, inr, List, Bool, true, false, refl, sym, ap, ◌∙◌, arith}
use Rattle.std.proofs.Common.{zero, suc, if◌then◌else◌}
use Rattle.std.proofs.lemmas.Bool.{cases_eq, cases_Bool, true≢false, and_from, and_parts}
use Rattle.atlas_store.specs.declared.slots.Node.{Node}
use Rattle.atlas_model.specs.Boxes.{Box}
use Rattle.atlas_model.specs.Pixels.{box_of, rectangle_of}
use Rattle.atlas_store.specs.Slots.{node_at}
use Rattle.atlas_search.specs.Numbers.{no_slot}
use Rattle.atlas_store.specs.Slots.Numbered.{Numbered, tally, first_slot, End, Free, Alloc, Seq}
use Rattle.atlas_store.specs.Slots.Standing.{Sequence, Standing, inside, member_box}
use Rattle.atlas_store.specs.Slots.Rehearsing.{all_open, Shows, run_length, IsRunIn, OpenLine}
use Rattle.atlas_store.proofs.SlotLemmas.Frames.{same-ne, split_pos, ne-from_same}
use Rattle.atlas_store.proofs.SlotLemmas.OpenMembers.{parent-in}

-- A line after a line.
pub line-on : (ns : List Node) (o : ℕ → Bool) (c d low at high : ℕ) → OpenLine ns o c low at → OpenLine ns o d at high
    → (k : ℕ) × OpenLine ns o k low high
line-on ns o zero d low at high x y = (d, rw x y)
line-on ns o (suc c) d low at high x y =
    let z = line-on ns o c d (node_at ns low).next.number at high x.1 y in (suc z.0, (x.0, z.1))

pub line-first : (ns : List Node) (o : ℕ → Bool) (c low at : ℕ) → OpenLine ns o c low at → o at ≡ true → o low ≡ true
line-first ns o zero low at x t = ap o x ∙ t
line-first ns o (suc c) low at x t = x.0

-- All members are open where a line goes from the first to the end.
pub line-all : (ns : List Node) (o : ℕ → Bool) (c : ℕ) (s : Sequence) (b p : ℕ) (m : Numbered) → Standing ns s b p m
    → tally no_slot m ≡ 0 → OpenLine ns o c (first_slot m) no_slot → all_open o m ≡ true
line-all ns o c s b p End h none x = refl
line-all ns o zero s b p (Free i e rest) h none x = absurd (ne-from_same no_slot i (omega arith) x)
line-all ns o zero s b p (Alloc i g e rest) h none x = absurd (ne-from_same no_slot i (omega arith) x)
line-all ns o zero s b p (Seq i e inner rest) h none x = absurd (ne-from_same no_slot i (omega arith) x)
line-all ns o (suc c) s b p (Free i e rest) h none x =
    and_from _ _ x.0 (line-all ns o c s i (p + e) rest h.2 (omega arith) (rw h.0.next at x.1))
line-all ns o (suc c) s b p (Alloc i g e rest) h none x =
    and_from _ _ x.0 (line-all ns o c s i (p + e) rest h.3 (omega arith) (rw h.0.next at x.1))
line-all ns o (suc c) s b p (Seq i e inner rest) h none x =
    and_from _ _ x.0 (line-all ns o c s i (p + e) rest h.3 (omega arith) (rw h.0.next at x.1))

run-none : (o : ℕ → Bool) (m : Numbered) → o (first_slot m) ≡ false → run_length o m ≡ 0
run-none o End f = refl
run-none o (Free i e rest) f = rw f refl
run-none o (Alloc i g e rest) f = rw f refl
run-none o (Seq i e inner rest) f = rw f refl

run-one : (o : ℕ → Bool) (i e : ℕ) (rest : Numbered) → o i ≡ true
    → (if o i then e + run_length o rest else 0) ≡ e + run_length o rest
run-one o i e rest t = rw t refl

end-on : (s : Sequence) (p e r : ℕ) → (member_box s (p + e) r).max ≡ (member_box s p (e + r)).max
end-on s p e r = grind arith

module _ (ns : List Node) (o : ℕ → Bool) (closed : o no_slot ≡ false) where
  pub none-open : (i : ℕ) → i ≡ no_slot → o i ≡ true → ⊥
  none-open i e t = true≢false (sym t ∙ ap o e ∙ closed)

  -- The run that m begins with ends where the line does.
  module _ (high : ℕ) (last : o high ≡ true) (after : o (node_at ns high).next.number ≡ false) where
    abbrev EndsRun : Sequence → ℕ → Numbered → Type 0
    EndsRun s p m = (box_of (node_at ns high).area).max ≡ (member_box s p (run_length o m)).max

    ends-here : (s : Sequence) (p i e : ℕ) (rest : Numbered) → i ≡ high → (node_at ns i).next.number ≡ first_slot rest
        → (node_at ns i).area ≡ rectangle_of (member_box s p e)
        → (box_of (node_at ns high).area).max ≡ (member_box s p (if o i then e + run_length o rest else 0)).max
    ends-here s p i e rest q n a =
        let z : run_length o rest ≡ 0 = run-none o rest (ap o (sym n ∙ ap (λ k. (node_at ns k).next.number) q) ∙ after) in
        let l : (if o i then e + run_length o rest else 0) ≡ e = run-one o i e rest (ap o q ∙ last) ∙ (rw z (omega arith)) in
        rw (l, ← q, a) refl

    ends-later : (s : Sequence) (p i e : ℕ) (rest : Numbered) → o i ≡ true → EndsRun s (p + e) rest
        → (box_of (node_at ns high).area).max ≡ (member_box s p (if o i then e + run_length o rest else 0)).max
    ends-later s p i e rest t x = x ∙ end-on s p e (run_length o rest) ∙ sym (ap (λ r. (member_box s p r).max) (run-one o i e rest t))

    pub line-run : (c : ℕ) (s : Sequence) (b p : ℕ) (m : Numbered) → Standing ns s b p m
        → OpenLine ns o c (first_slot m) high → EndsRun s p m
    line-run zero s b p End h x = absurd (none-open high (sym x) last)
    line-run (suc c) s b p End h x = absurd (none-open no_slot refl x.0)
    line-run zero s b p (Free i e rest) h x = ends-here s p i e rest x h.0.next h.1
    line-run (suc c) s b p (Free i e rest) h x =
        ends-later s p i e rest x.0 (line-run c s i (p + e) rest h.2 (rw h.0.next at x.1))
    line-run zero s b p (Alloc i g e rest) h x = ends-here s p i e rest x h.0.next h.1
    line-run (suc c) s b p (Alloc i g e rest) h x =
        ends-later s p i e rest x.0 (line-run c s i (p + e) rest h.3 (rw h.0.next at x.1))
    line-run zero s b p (Seq i e inner rest) h x = ends-here s p i e rest x h.0.next h.1
    line-run (suc c) s b p (Seq i e inner rest) h x =
        ends-later s p i e rest x.0 (line-run c s i (p + e) rest h.3 (rw h.0.next at x.1))

-- Where all members are open, so are those inside them.
pub open-inside : (o set : ℕ → Bool) (x : ℕ) (m : Numbered) → Shows o set m → all_open o m ≡ true → 0 < tally x m
    → o x ≡ true
open-inside o set x End f t l = absurd (omega arith)
open-inside o set x (Free i e rest) f t l =
    let y = and_parts _ _ t in
    elim (cases_eq x i) [ inl q ↦ ap o q ∙ y.0 | inr ne ↦ open-inside o set x rest f.1 y.1 (omega (arith, same-ne x i ne)) ]
open-inside o set x (Alloc i g e rest) f t l =
    let y = and_parts _ _ t in
    elim (cases_eq x i) [ inl q ↦ ap o q ∙ y.0 | inr ne ↦ open-inside o set x rest f.1 y.1 (omega (arith, same-ne x i ne)) ]
open-inside o set x (Seq i e inner rest) f t l =
    let y = and_parts _ _ t in
    elim (cases_eq x i) [
      | inl q ↦ ap o q ∙ y.0
      | inr ne ↦ elim (split_pos (tally x inner) (tally x rest) (omega (arith, same-ne x i ne))) [
        | inl a ↦ open-inside o set x inner f.1 (sym f.0 ∙ y.0) a
        | inr a ↦ open-inside o set x rest f.2 y.1 a
      ]
    ]

-- The box from the first open member of a line to the last.
module _ (ns : List Node) (o set : ℕ → Bool) (closed : o no_slot ≡ false) (low high c : ℕ)
    (first : o low ≡ true) (before : o (node_at ns low).previous.number ≡ false)
    (shut : ((node_at ns low).parent.number ≡ no_slot → ⊥) → o (node_at ns low).parent.number ≡ false)
    (last : o high ≡ true) (after : o (node_at ns high).next.number ≡ false) (line : OpenLine ns o c low high) where
  abbrev pub run_box : Box
  run_box = record { min = (box_of (node_at ns low).area).min; max = (box_of (node_at ns high).area).max }

  run-here : (s : Sequence) (p i e r : ℕ) → low ≡ i → (node_at ns i).area ≡ rectangle_of (member_box s p e)
      → (box_of (node_at ns high).area).max ≡ (member_box s p r).max → run_box ≡ member_box s p r
  run-here s p i e r q a x = rw (q, a, x) refl

  -- A container that has the line somewhere inside isn't open.
  shut-above : (s : Sequence) (i p e : ℕ) (inner : Numbered) → Standing ns (inside s i p e) no_slot s.start inner
      → (i ≡ no_slot → ⊥) → tally no_slot inner ≡ 0 → o i ≡ all_open o inner → Shows o set inner → 0 < tally low inner
      → o i ≡ false
  shut-above s i p e inner h ni none is f l =
      elim (cases_Bool (o i)) [
        | inr x ↦ x
        | inl t ↦
            let all : all_open o inner ≡ true = sym is ∙ t in
            elim (parent-in ns low (inside s i p e) no_slot s.start inner h l) [
              | inl q ↦ absurd (true≢false (sym t ∙ ap o (sym q) ∙ shut (λ z. ni (sym q ∙ z))))
              | inr y ↦
                  let parent = (node_at ns low).parent.number in
                  let np : parent ≡ no_slot → ⊥ = λ z. absurd (omega (arith, none, rw z at y)) in
                  absurd (true≢false (sym (open-inside o set parent inner f all y) ∙ shut np))
            ]
      ]

  pub line-is_run : (b_open : Bool) (s : Sequence) (b p : ℕ) (n : Numbered) → b_open ≡ o b → Standing ns s b p n
      → tally no_slot n ≡ 0 → Shows o set n → 0 < tally low n → IsRunIn o run_box b_open s p n
  line-is_run b_open s b p End is h none f l = absurd (omega arith)
  line-is_run b_open s b p (Free i e rest) is h none f l =
      elim (cases_eq low i) [
        | inl q ↦ inl (
          is ∙ ap o (sym h.0.previous ∙ ap (λ k. (node_at ns k).previous.number) (sym q)) ∙ before,
          ap o (sym q) ∙ first,
          run-here s p i e _ q h.1 (line-run ns o closed high last after c s b p (Free i e rest) h (rw q at line)),
        )
        | inr ne ↦ inr (line-is_run (o i) s i (p + e) rest refl h.2 (omega arith) f.1 (omega (arith, same-ne low i ne)))
      ]
  line-is_run b_open s b p (Alloc i g e rest) is h none f l =
      elim (cases_eq low i) [
        | inl q ↦ inl (
          is ∙ ap o (sym h.0.previous ∙ ap (λ k. (node_at ns k).previous.number) (sym q)) ∙ before,
          ap o (sym q) ∙ first,
          run-here s p i e _ q h.1 (line-run ns o closed high last after c s b p (Alloc i g e rest) h (rw q at line)),
        )
        | inr ne ↦ inr (line-is_run (o i) s i (p + e) rest refl h.3 (omega arith) f.1 (omega (arith, same-ne low i ne)))
      ]
  line-is_run b_open s b p (Seq i e inner rest) is h none f l =
      elim (cases_eq low i) [
        | inl q ↦ inl (
          is ∙ ap o (sym h.0.previous ∙ ap (λ k. (node_at ns k).previous.number) (sym q)) ∙ before,
          ap o (sym q) ∙ first,
          run-here s p i e _ q h.1 (line-run ns o closed high last after c s b p (Seq i e inner rest) h (rw q at line)),
        )
        | inr ne ↦ elim (split_pos (tally low inner) (tally low rest) (omega (arith, same-ne low i ne))) [
          | inl a ↦ inr (inl (
            shut-above s i p e inner h.2 (ne-from_same no_slot i (omega arith)) (omega arith) f.0 f.1 a,
            line-is_run false (inside s i p e) no_slot s.start inner (sym closed) h.2 (omega arith) f.1 a,
          ))
          | inr a ↦ inr (inr (line-is_run (o i) s i (p + e) rest refl h.3 (omega arith) f.2 a))
        ]
      ]
