-- Each member of a tree that stands agrees with its neighbours.
use Rattle.std.proofs.Common.{ℕ, pos, ◌+◌, ◌<◌, ◌≡◌, ◌≢◌, List, refl, sym, ap, ◌∙◌, inl, inr, arith, subst}
use Rattle.std.proofs.lemmas.Bool.{cases_eq, cases_lt, ne_eqb}
use Rattle.atlas_image.specs.declared.members.Span.{Span}
use Rattle.atlas_image.specs.Members.{IsAcross, IsFirstOf, IsNextOf, IsUsed, frame_around, span_in}
use Rattle.atlas_model.specs.declared.geometry.Size.{Size}
use Rattle.atlas_model.specs.Boxes.{Axis, box_at, other, sized}
use Rattle.atlas_model.specs.Boxes.Axis.{Horizontal, Vertical}
use Rattle.atlas_model.specs.Pixels.{rectangle_of}
use Rattle.atlas_model.specs.Trees.{IsCut, total}
use Rattle.atlas_search.specs.declared.cut.Orientation.{Orientation}
use Rattle.atlas_search.specs.declared.cut.Orientation.TheVariants as orientation
use Rattle.atlas_search.specs.Numbers.{no_slot}
use Rattle.atlas_search.specs.Rectangles.{flipped}
use Rattle.atlas_store.specs.declared.slots.Node.{Node}
use Rattle.atlas_store.specs.declared.slots.NodeKind.{NodeKind}
use Rattle.atlas_store.specs.declared.slots.NodeKind.TheVariants as kind
use Rattle.atlas_store.specs.Slots.{axis_of, node_at, use_count}
use Rattle.atlas_store.specs.Slots.Numbered.{Numbered, erase, first_slot, tally, End, Free, Alloc, Seq}
use Rattle.atlas_store.specs.Slots.Standing.{IsLinkedIn, Sequence, Standing, inside, member_box, spot}
use Rattle.atlas_store.proofs.SlotLemmas.Frames.{same-ne, ne-from_same}
use Rattle.atlas_store.proofs.SlotLemmas.MemberLinks.{begins-none}
use Rattle.atlas_store.proofs.SlotLemmas.PlannedLeaves.{axis_of-flipped, box-inside}

span_across : (o : Orientation) (a : Axis) (p e start width : ℕ) → axis_of o ≡ a
    → span_in (flipped o) (rectangle_of (box_at (spot a p start) (sized a e width)))
    ≡ record { low = pos start; high = pos (start + width) }
span_across orientation.Horizontal a p e start width q = rw (← q) refl
span_across orientation.Vertical a p e start width q = rw (← q) refl

span_along : (o : Orientation) (a : Axis) (p e start width : ℕ) → axis_of o ≡ a
    → span_in o (rectangle_of (box_at (spot a p start) (sized a e width))) ≡ record { low = pos p; high = pos (p + e) }
span_along orientation.Horizontal a p e start width q = rw (← q) refl
span_along orientation.Vertical a p e start width q = rw (← q) refl

axis_one : (o u : Orientation) → axis_of o ≡ axis_of u → o ≡ u
axis_one orientation.Horizontal orientation.Horizontal e = refl
axis_one orientation.Vertical orientation.Vertical e = refl
axis_one orientation.Horizontal orientation.Vertical e = cc
axis_one orientation.Vertical orientation.Horizontal e = cc

other_twice : (a : Axis) → other (other a) ≡ a
other_twice Horizontal = refl
other_twice Vertical = refl

-- The member b, before the one of slot i, ends where that begins.
pub record IsPriorOf (b : Node) (i : ℕ) (n : Node) : Type 0 where
  pub used : IsUsed b
  pub next : b.next.number ≡ i
  pub parent : b.parent.number ≡ n.parent.number
  pub axis : b.axis ≡ n.axis
  pub low : (span_in n.axis n.area).low ≡ (span_in n.axis b.area).high

pub record IsPlaced (ns : List Node) (size : Size) (start i : ℕ) : Type 0 where
  pub across : IsAcross (node_at ns i) (frame_around ns size (node_at ns i))
  pub top : (node_at ns i).parent.number ≡ no_slot → (node_at ns i).axis ≡ (node_at ns start).axis
  pub holder : (node_at ns i).parent.number ≢ no_slot → (node_at ns (node_at ns i).parent.number).kind ≡ kind.Container
  pub nested : (node_at ns i).parent.number ≢ no_slot
      → (node_at ns i).axis ≡ flipped (node_at ns (node_at ns i).parent.number).axis
  pub low : (node_at ns i).previous.number ≡ no_slot → (span_in (node_at ns i).axis (node_at ns i).area).low
      ≡ (span_in (node_at ns i).axis (frame_around ns size (node_at ns i))).low
  pub after : (node_at ns i).previous.number ≢ no_slot
      → IsPriorOf (node_at ns (node_at ns i).previous.number) i (node_at ns i)
  pub high : (node_at ns i).next.number ≡ no_slot → (span_in (node_at ns i).axis (node_at ns i).area).high
      ≡ (span_in (node_at ns i).axis (frame_around ns size (node_at ns i))).high
  pub before : (node_at ns i).next.number ≢ no_slot → IsNextOf (node_at ns (node_at ns i).next.number) i
  pub filled : (node_at ns i).kind ≡ kind.Container → (c : ℕ) × IsFirstOf (node_at ns c) i

module _ (ns : List Node) (size : Size) (top : ℕ) where
  -- What is known of the members m from p on, which follow slot b, of a sequence that divides the l pixels from `from` on.
  pub record IsIn (t : Sequence) (from l b p : ℕ) (m : Numbered) : Type 0 where
    pub frame : (x : ℕ) → (node_at ns x).parent.number ≡ t.parent
        → frame_around ns size (node_at ns x) ≡ rectangle_of (member_box t from l)
    pub ends : p + total (erase m) ≡ from + l
    pub begins : b ≡ no_slot → p ≡ from
    pub used : b ≢ no_slot → IsUsed (node_at ns b)
    pub next : b ≢ no_slot → (node_at ns b).next.number ≡ first_slot m
    pub parent : b ≢ no_slot → (node_at ns b).parent.number ≡ t.parent
    pub axis : b ≢ no_slot → axis_of (node_at ns b).axis ≡ t.axis
    pub high : b ≢ no_slot → (span_in (node_at ns b).axis (node_at ns b).area).high ≡ pos p
    pub holder : t.parent ≢ no_slot → (node_at ns t.parent).kind ≡ kind.Container
    pub nested : t.parent ≢ no_slot → axis_of (node_at ns t.parent).axis ≡ other t.axis
    pub top_axis : t.parent ≡ no_slot → axis_of (node_at ns top).axis ≡ t.axis

  module _ (t : Sequence) (from l b p i e : ℕ) (m rest : Numbered) (k : NodeKind) (h : IsIn t from l b p m)
      (link : IsLinkedIn (node_at ns i) t b (first_slot rest) k) (place : (node_at ns i).area ≡ rectangle_of (member_box t p e))
      (is_used : 0 < use_count k) (some : i ≢ no_slot) (starts : first_slot m ≡ i)
      (long : total (erase m) ≡ e + total (erase rest)) where
    abbrev n : Node
    n = node_at ns i

    framed : frame_around ns size n ≡ rectangle_of (member_box t from l)
    framed = h.frame i link.parent

    own_along : (span_in n.axis n.area) ≡ record { low = pos p; high = pos (p + e) }
    own_along = ap (span_in n.axis) place ∙ span_along n.axis t.axis p e t.start t.width link.axis

    frame_along : (span_in n.axis (frame_around ns size n)) ≡ record { low = pos from; high = pos (from + l) }
    frame_along = ap (span_in n.axis) framed ∙ span_along n.axis t.axis from l t.start t.width link.axis

    -- What comes after the member.
    rest_in : IsIn t from l i (p + e) rest
    rest_in =
        record {
          frame = h.frame;
          ends = omega (arith, h.ends, long);
          begins = λ z. absurd (some z);
          used = λ _. rw link.kind is_used;
          next = λ _. link.next;
          parent = λ _. link.parent;
          axis = λ _. link.axis;
          high = λ _. ap (λ (s : Span). s.high) own_along;
          holder = h.holder;
          nested = h.nested;
          top_axis = h.top_axis;
        }

    placed_here : (last : (node_at ns i).next.number ≡ no_slot → total (erase rest) ≡ 0)
        → (before : (node_at ns i).next.number ≢ no_slot → IsNextOf (node_at ns (node_at ns i).next.number) i)
        → (filled : (node_at ns i).kind ≡ kind.Container → (c : ℕ) × IsFirstOf (node_at ns c) i) → IsPlaced ns size top i
    placed_here last before filled =
        record {
          across =
              ap (span_in (flipped n.axis)) place ∙ span_across n.axis t.axis p e t.start t.width link.axis
              ∙ sym (ap (span_in (flipped n.axis)) framed ∙ span_across n.axis t.axis from l t.start t.width link.axis);
          top = λ z. axis_one n.axis (node_at ns top).axis (link.axis ∙ sym (h.top_axis (sym link.parent ∙ z)));
          holder = λ z. subst (λ v. (node_at ns v).kind ≡ kind.Container) (sym link.parent) (h.holder (λ q. z (link.parent ∙ q)));
          nested = λ z. axis_one n.axis (flipped (node_at ns n.parent.number).axis)
              (link.axis ∙ nested_axis (subst (λ v. axis_of (node_at ns v).axis ≡ other t.axis) (sym link.parent)
              (h.nested (λ q. z (link.parent ∙ q)))));
          low = λ z.
              ap (λ (s : Span). s.low) own_along ∙ ap pos (h.begins (sym link.previous ∙ z))
              ∙ sym (ap (λ (s : Span). s.low) frame_along);
          after = λ z. subst (λ v. IsPriorOf (node_at ns v) i n) (sym link.previous) (prior (λ q. z (link.previous ∙ q)));
          high = λ z.
              let ends : p + e ≡ from + l = omega (arith, h.ends, long, last z) in
              ap (λ (s : Span). s.high) own_along ∙ ap pos ends ∙ sym (ap (λ (s : Span). s.high) frame_along);
          before = before;
          filled = filled;
        }
      where
        nested_axis : axis_of (node_at ns n.parent.number).axis ≡ other t.axis
            → t.axis ≡ axis_of (flipped (node_at ns n.parent.number).axis)
        nested_axis q = sym (other_twice t.axis) ∙ ap other (sym q) ∙ sym (axis_of-flipped (node_at ns n.parent.number).axis)

        prior : b ≢ no_slot → IsPriorOf (node_at ns b) i n
        prior z = record {
          used = h.used z;
          next = h.next z ∙ starts;
          parent = h.parent z ∙ sym link.parent;
          axis = axis_one (node_at ns b).axis n.axis (h.axis z ∙ sym link.axis);
          low = ap (λ (s : Span). s.low) own_along ∙ sym (h.high z)
              ∙ ap (λ o. (span_in o (node_at ns b).area).high)
              (axis_one (node_at ns b).axis n.axis (h.axis z ∙ sym link.axis));
        }

  -- What is inside a member.
  inner_in : (t : Sequence) (from l i p e : ℕ) (inner : Numbered) → (node_at ns i).kind ≡ kind.Container
      → axis_of (node_at ns i).axis ≡ t.axis → (node_at ns i).area ≡ rectangle_of (member_box t p e) → i ≢ no_slot
      → total (erase inner) ≡ t.width → IsIn (inside t i p e) t.start t.width no_slot t.start inner
  inner_in t from l i p e inner k axis place some long =
      record {
        frame = λ x q. rw (ne_eqb (node_at ns x).parent.number no_slot (λ z. some (sym q ∙ z)))
            (ap (λ v. (node_at ns v).area) q ∙ place ∙ ap rectangle_of (sym (box-inside t i p e)));
        ends = omega (arith, long);
        begins = λ _. refl;
        used = λ z. absurd (z refl);
        next = λ z. absurd (z refl);
        parent = λ z. absurd (z refl);
        axis = λ z. absurd (z refl);
        high = λ z. absurd (z refl);
        holder = λ _. k;
        nested = λ _. axis ∙ sym (other_twice t.axis);
        top_axis = λ z. absurd (some z);
      }

  -- The first of members that stand.
  first_stands : (t : Sequence) (b p : ℕ) (m : Numbered) → Standing ns t b p m → first_slot m ≢ no_slot
      → IsNextOf (node_at ns (first_slot m)) b
  first_stands t b p End h ne = absurd (ne refl)
  first_stands t b p (Free i e rest) h ne = record { used = rw h.0.kind (omega arith); previous = h.0.previous }
  first_stands t b p (Alloc i g e rest) h ne = record { used = rw h.0.kind (omega arith); previous = h.0.previous }
  first_stands t b p (Seq i e inner rest) h ne = record { used = rw h.0.kind (omega arith); previous = h.0.previous }

  pub first_inside : (t : Sequence) (p : ℕ) (m : Numbered) → Standing ns t no_slot p m → first_slot m ≢ no_slot
      → IsFirstOf (node_at ns (first_slot m)) t.parent
  first_inside t p End h ne = absurd (ne refl)
  first_inside t p (Free i e rest) h ne =
      record { used = rw h.0.kind (omega arith); parent = h.0.parent; previous = h.0.previous }
  first_inside t p (Alloc i g e rest) h ne =
      record { used = rw h.0.kind (omega arith); parent = h.0.parent; previous = h.0.previous }
  first_inside t p (Seq i e inner rest) h ne =
      record { used = rw h.0.kind (omega arith); parent = h.0.parent; previous = h.0.previous }

  none_total : (m : Numbered) → tally no_slot m ≡ 0 → first_slot m ≡ no_slot → total (erase m) ≡ 0
  none_total m z e = ap (λ v. total (erase v)) (begins-none m e z)

  pub some_total : (m : Numbered) → tally no_slot m ≡ 0 → 0 < total (erase m) → first_slot m ≢ no_slot
  some_total m z l e = absurd (omega (arith, none_total m z e))

  -- So each member of a tree is placed.
  pub placed-all : (t : Sequence) (from l b p : ℕ) (m : Numbered) → IsIn t from l b p m → Standing ns t b p m
      → IsCut t.width (erase m) → 0 < t.width → tally no_slot m ≡ 0 → (i : ℕ) → 0 < tally i m → IsPlaced ns size top i
  placed-all t from l b p End h st c w z i x = absurd (omega arith)
  placed-all t from l b p (Free j e rest) h st c w z i x =
      let some : j ≢ no_slot = ne-from_same no_slot j (omega arith) in
      let m = Free j e rest in
      elim (cases_eq i j) [
        | inl q ↦ subst (IsPlaced ns size top) (sym q)
            (placed_here t from l b p j e m rest kind.Free h st.0 st.1 (omega arith) some refl refl
            (λ n. none_total rest (omega arith) (sym st.0.next ∙ n))
            (λ n. subst (λ v. IsNextOf (node_at ns v) j) (sym st.0.next)
            (first_stands t j (p + e) rest st.2 (λ v. n (st.0.next ∙ v))))
            (λ k. absurd (let y = sym k ∙ st.0.kind in cc)))
        | inr ne ↦ placed-all t from l j (p + e) rest
            (rest_in t from l b p j e m rest kind.Free h st.0 st.1 (omega arith) some refl refl) st.2 c.1 w (omega arith) i
            (omega (arith, same-ne i j ne))
      ]
  placed-all t from l b p (Alloc j g e rest) h st c w z i x =
      let some : j ≢ no_slot = ne-from_same no_slot j (omega arith) in
      let m = Alloc j g e rest in
      elim (cases_eq i j) [
        | inl q ↦ subst (IsPlaced ns size top) (sym q)
            (placed_here t from l b p j e m rest kind.Alloc h st.0 st.1 (omega arith) some refl refl
            (λ n. none_total rest (omega arith) (sym st.0.next ∙ n))
            (λ n. subst (λ v. IsNextOf (node_at ns v) j) (sym st.0.next)
            (first_stands t j (p + e) rest st.3 (λ v. n (st.0.next ∙ v))))
            (λ k. absurd (let y = sym k ∙ st.0.kind in cc)))
        | inr ne ↦ placed-all t from l j (p + e) rest
            (rest_in t from l b p j e m rest kind.Alloc h st.0 st.1 (omega arith) some refl refl) st.3 c.1 w (omega arith) i
            (omega (arith, same-ne i j ne))
      ]
  placed-all t from l b p (Seq j e inner rest) h st c w z i x =
      let some : j ≢ no_slot = ne-from_same no_slot j (omega arith) in
      let m = Seq j e inner rest in
      let full = some_total inner (omega arith) (omega (arith, c.1, w)) in
      elim (cases_eq i j) [
        | inl q ↦ subst (IsPlaced ns size top) (sym q)
            (placed_here t from l b p j e m rest kind.Container h st.0 st.1 (omega arith) some refl refl
            (λ n. none_total rest (omega arith) (sym st.0.next ∙ n))
            (λ n. subst (λ v. IsNextOf (node_at ns v) j) (sym st.0.next)
            (first_stands t j (p + e) rest st.3 (λ v. n (st.0.next ∙ v))))
            (λ k. (first_slot inner, first_inside (inside t j p e) t.start inner st.2 full)))
        | inr ne ↦ elim (cases_lt 0 (tally i inner)) [
          | inl y ↦ placed-all (inside t j p e) t.start t.width no_slot t.start inner
              (inner_in t from l j p e inner st.0.kind st.0.axis st.1 some c.1) st.2 c.2 c.0 (omega arith) i y
          | inr y ↦ placed-all t from l j (p + e) rest
              (rest_in t from l b p j e m rest kind.Container h st.0 st.1 (omega arith) some refl refl) st.3 c.3 w
              (omega arith) i (omega (arith, same-ne i j ne))
        ]
      ]
