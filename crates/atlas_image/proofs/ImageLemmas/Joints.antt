-- Nodes whose checks succeed stand for the tree of an atlas.
use Rattle.std.proofs.Common.{ℕ, ◌-◌, ◌<◌, ◌≡◌, ◌≢◌, List, refl, sym, ap, ◌∙◌, inl, inr, arith, zero, suc, subst, length, get_or, sum}
use Rattle.std.proofs.lemmas.Bool.{cases_eq, cases_lt, eq-eqb, ne_eqb}
use Rattle.std.proofs.lemmas.List.{get_or_past}
use Rattle.std.proofs.lemmas.List.Sums.{get_or-le-sum_by}
use Rattle.atlas_image.specs.declared.members.Span.{Span}
use Rattle.atlas_image.specs.declared.order.Order.{Order}
use Rattle.atlas_image.specs.Imaged.{AreMembers, IsTreeOfNodes, used_below}
use Rattle.atlas_image.specs.Members.{IsAfter, IsHeldBy, IsMember, IsNormalAndAligned, IsUsed}
use Rattle.atlas_image.specs.Members.{first_in, frame_around, rank_in, span_in, whole_rectangle}
use Rattle.atlas_image.proofs.ImageLemmas.Spans.{
  across-end,
  area-is,
  begin_of,
  end_of,
  extent-some,
  inner-sequence,
  place-end,
  place_of,
  same-sequence,
  sequence_in,
  sequence_of,
}
use Rattle.atlas_image.proofs.ImageLemmas.GrownTrees.{AreJoints, IsInnerIn, IsJoint, IsNextIn, IsTreeAt, grown, grown-stands}
use Rattle.atlas_image.proofs.ImageLemmas.GrownOnce.{before-after, before-first}
use Rattle.atlas_image.proofs.ImageLemmas.Reached.{IsLedTo, grown-Stands}
use Rattle.atlas_model.specs.declared.geometry.Rectangle.{Rectangle}
use Rattle.atlas_model.specs.declared.geometry.Size.{Size}
use Rattle.atlas_model.specs.declared.options.AllocatorOptions.{AllocatorOptions}
use Rattle.atlas_model.specs.Boxes.{IsPositive, other, side}
use Rattle.atlas_model.specs.Pixels.{natural, sides_of}
use Rattle.atlas_model.specs.Trees as tree
use Rattle.atlas_model.specs.Trees.{IsCut, Members, total}
use Rattle.atlas_model.proofs.TreeLemmas.TreeBasics.{side_positive}
use Rattle.atlas_search.specs.declared.cut.Orientation.{Orientation}
use Rattle.atlas_search.specs.declared.cut.Orientation.TheVariants as orientation
use Rattle.atlas_search.specs.declared.link.Link.{Link}
use Rattle.atlas_search.specs.Numbers.{no_slot}
use Rattle.atlas_search.specs.Rectangles.{flipped}
use Rattle.atlas_store.specs.declared.slots.Node.{Node}
use Rattle.atlas_store.specs.declared.slots.NodeKind.TheVariants as kind
use Rattle.atlas_store.specs.Slots.{axis_of, node_at, use_count}
use Rattle.atlas_store.specs.Slots.Calm.{IsCalmAt, NoneEmpty}
use Rattle.atlas_store.specs.Slots.Growing.{top_along}
use Rattle.atlas_store.specs.Slots.Numbered.{Numbered, erase, numbers, tally}
use Rattle.atlas_store.specs.Slots.Standing.{Sequence, Stands}
use Rattle.atlas_store.proofs.SlotLemmas.Calm.{normal-from_calm}
use Rattle.atlas_store.proofs.SlotLemmas.Frames.{used-inside}
use Rattle.atlas_model.proofs.ListLemmas.Sums.{sums}
use Rattle.atlas_store.proofs.SlotLemmas.ReadTrees.{tallies, tallies-numbers}
use Rattle.atlas_store.proofs.SlotLemmas.PlannedLeaves.{axis_of-flipped}

-- A number of a list is below its sum and 1.
pub below-sum : (xs : List ℕ) (i : ℕ) → get_or xs i 0 < suc (sum xs)
below-sum xs i = elim (cases_lt i (length xs)) [
  | inl l ↦ omega (arith, get_or-le-sum_by (λ x. x) xs i 0 l)
  | inr l ↦ omega (arith, get_or_past xs i 0 l)
]

-- In a tree that is cut no container is empty.
pub full-from_cut : (w : ℕ) (m : Members) → 0 < w → IsCut w m → NoneEmpty m
full-from_cut w tree.End l h = tt
full-from_cut w (tree.Free e rest) l h = full-from_cut w rest l h.1
full-from_cut w (tree.Alloc id e rest) l h = full-from_cut w rest l h.1
full-from_cut w (tree.Seq e inner rest) l h =
    ((λ q. absurd (omega (arith, h.1, ap total q))), full-from_cut e inner h.0 h.2, full-from_cut w rest l h.3)

-- The spans of a whole atlas.
record IsWhole (size : Size) (o : Orientation) : Type 0 where
  begins : begin_of (span_in o (whole_rectangle size)) ≡ 0
  ends : end_of (span_in o (whole_rectangle size)) ≡ side (axis_of o) (sides_of size)

whole_span : (size : Size) (o : Orientation) → IsWhole size o
whole_span size orientation.Horizontal = record { begins = refl; ends = refl }
whole_span size orientation.Vertical = record { begins = refl; ends = refl }

top_is : (p w : ℕ) (o : Orientation) (s : Span) → p ≡ no_slot → begin_of s ≡ 0 → end_of s - begin_of s ≡ w
    → sequence_in p o s ≡ top_along (axis_of o) w
top_is p w o s e f g = rw (e, g, f) refl

module _ {A : Type 0} (ns : List Node) (o : Order A) (size : Size) (options : AllocatorOptions)
    (all : AreMembers ns o size options) (none : (node_at ns no_slot).kind ≡ kind.Unused) where
  abbrev d : ℕ → ℕ
  d i = (first_in o i).number

  abbrev frame : Node → Rectangle
  frame n = frame_around ns size n

  -- Where the sequence of a member ends.
  abbrev ends : Node → ℕ
  ends n = end_of (span_in n.axis (frame n))

  frame_same : (n m : Node) → n.parent ≡ m.parent → frame n ≡ frame m
  frame_same n m e = rw e refl

  frame_nested : (n : Node) → n.parent.number ≢ no_slot → frame n ≡ (node_at ns n.parent.number).area
  frame_nested n ne = rw (ne_eqb n.parent.number no_slot ne) refl

  frame_whole : (n : Node) → n.parent.number ≡ no_slot → frame n ≡ whole_rectangle size
  frame_whole n e = rw (eq-eqb n.parent.number no_slot e) refl

  some : (k : ℕ) → IsUsed (node_at ns k) → k ≢ no_slot
  some k l e = absurd (omega (arith, l, ap (λ v. use_count (node_at ns v).kind) e, ap use_count none))

  container_used : (n : Node) → n.kind ≡ kind.Container → IsUsed n
  container_used n e = rw e (omega arith)

  module _ (i : ℕ) (u : IsUsed (node_at ns i)) where
    abbrev n : Node
    n = node_at ns i

    abbrev here : IsMember ns o size i (node_at ns i)
    here = all.members i u

    -- What follows slot i comes after it.
    after_this : (ne : (node_at ns i).next.number ≢ no_slot)
        → IsAfter (node_at ns i) (node_at ns i).next.number (node_at ns (node_at ns i).next.number) (rank_in o i)
        (rank_in o (node_at ns i).next.number)
    after_this ne =
        let j = (node_at ns i).next.number in
        let a = here.ended.before ne in
        let b = (all.members j a.used).begun.after (λ e. some i u (sym a.previous ∙ e)) in
        subst (λ v. IsAfter (node_at ns v) j (node_at ns j) (rank_in o v) (rank_in o j)) a.previous b

    next_in : (ne : (node_at ns i).next.number ≢ no_slot) → IsNextIn ns (rank_in o) ends i (node_at ns i).next.number
    next_in ne =
        let j = (node_at ns i).next.number in
        let m = node_at ns j in
        let a = here.ended.before ne in
        let b = after_this ne in
        let f : frame m ≡ frame n = frame_same m n (sym b.parent) in
        record {
          used = a.used;
          previous = a.previous;
          sequence = same-sequence n m (frame n) (frame m) here.across (all.members j a.used).across f (sym b.axis)
              (ap (λ (l : Link). l.number) (sym b.parent));
          place = ap natural b.low ∙ ap (λ v. end_of (span_in v n.area)) (sym b.axis) ∙ sym (place-end n here.solid);
          until = ap (λ v. end_of (span_in v (frame m))) (sym b.axis) ∙ ap (λ v. end_of (span_in n.axis v)) f;
          rank = b.rank;
        }

    held_by_this : (k : (node_at ns i).kind ≡ kind.Container) → IsHeldBy (node_at ns i) (node_at ns (d i))
    held_by_this k =
        let f = here.filled k in
        let b = (all.members (d i) f.used).held.nested (λ e. some i u (sym f.parent ∙ e)) in
        subst (λ v. IsHeldBy (node_at ns v) (node_at ns (d i))) f.parent b

    inner_in : (k : (node_at ns i).kind ≡ kind.Container) → IsInnerIn ns (rank_in o) ends i (d i)
    inner_in k =
        let c = node_at ns (d i) in
        let f = here.filled k in
        let b = held_by_this k in
        let z = (all.members (d i) f.used).begun.first f.previous in
        let nested : c.parent.number ≢ no_slot = λ e. some i u (sym f.parent ∙ e) in
        let g : frame c ≡ n.area = frame_nested c nested ∙ ap (λ v. (node_at ns v).area) f.parent in
        record {
          used = f.used;
          previous = f.previous;
          parent = f.parent;
          sequence = inner-sequence n c i (frame c) (all.members (d i) f.used).across g b.axis f.parent;
          place = ap natural z.low ∙ ap (λ v. begin_of (span_in c.axis v)) g ∙ ap (λ v. begin_of (span_in v n.area)) b.axis;
          until = ap (λ v. end_of (span_in c.axis v)) g ∙ ap (λ v. end_of (span_in v n.area)) b.axis
              ∙ sym (across-end n here.solid);
          rank = subst (λ v. rank_in o v < rank_in o (d i)) f.parent (z.rank nested);
        }

    joint : IsJoint ns d (rank_in o) ends i
    joint =
        record {
          area = area-is n here.solid;
          extent = extent-some n here.solid;
          last = λ e. place-end n here.solid ∙ ap natural (here.ended.last e);
          next = next_in;
          inner = inner_in;
        }

    led_to : IsLedTo ns d (rank_in o) o.top.number i
    led_to =
        let b = here.begun in
        let h = here.held in
        record {
          top = λ z. elim (cases_eq n.previous.number no_slot) [
            | inl p ↦
                let e : n.parent.number ≡ no_slot = sym (before-first n p) ∙ z in
                sym (b.first p).first ∙ ap (λ v. (first_in o v).number) e
            | inr p ↦ absurd (p (sym (before-after n p) ∙ z))
          ];
          used = λ z. elim (cases_eq n.previous.number no_slot) [
            | inl p ↦ subst (λ v. IsUsed (node_at ns v)) (sym (before-first n p))
                (container_used (node_at ns n.parent.number) (h.nested (λ e. z (before-first n p ∙ e))).kind)
            | inr p ↦ subst (λ v. IsUsed (node_at ns v)) (sym (before-after n p)) (b.after p).used
          ];
          rank = λ z. elim (cases_eq n.previous.number no_slot) [
            | inl p ↦ subst (λ v. rank_in o v < rank_in o i) (sym (before-first n p))
                ((b.first p).rank (λ e. z (before-first n p ∙ e)))
            | inr p ↦ subst (λ v. rank_in o v < rank_in o i) (sym (before-after n p)) (b.after p).rank
          ];
          after = λ p. (b.after p).next;
          holder = λ p q. (h.nested q).kind;
          inner = λ p q. (b.first p).first;
        }

  abbrev m : ℕ
  m = suc (sum o.ranks.items)

  joints : AreJoints ns d (rank_in o) ends m
  joints = record { joint = joint; below = below-sum o.ranks.items; none = none }

  module _ (first : IsUsed (node_at ns o.top.number)) (alone : (node_at ns o.top.number).previous.number ≡ no_slot)
      (held : (node_at ns o.top.number).parent.number ≡ no_slot) (positive : IsPositive (sides_of size)) where
    abbrev t : Node
    t = node_at ns o.top.number

    abbrev whole : Numbered
    whole = grown m ns d o.top.number

    begins : IsTreeAt ns ends o.top.number whole
    begins = grown-stands ns d (rank_in o) ends m joints m o.top.number first (omega arith)

    place_zero : place_of t ≡ 0
    place_zero =
        ap natural ((all.members o.top.number first).begun.first alone).low
        ∙ ap (λ v. begin_of (span_in t.axis v)) (frame_whole t held) ∙ (whole_span size t.axis).begins

    across_whole : span_in (flipped t.axis) t.area ≡ span_in (flipped t.axis) (whole_rectangle size)
    across_whole = (all.members o.top.number first).across ∙ ap (λ v. span_in (flipped t.axis) v) (frame_whole t held)

    start_zero : begin_of (span_in (flipped t.axis) t.area) ≡ 0
    start_zero = ap begin_of across_whole ∙ (whole_span size (flipped t.axis)).begins

    width_is : end_of (span_in (flipped t.axis) t.area) ≡ side (other (axis_of t.axis)) (sides_of size)
    width_is = ap end_of across_whole ∙ (whole_span size (flipped t.axis)).ends
        ∙ ap (λ a. side a (sides_of size)) (axis_of-flipped t.axis)

    sequence_whole : sequence_of t ≡ top_along (axis_of t.axis) (side (other (axis_of t.axis)) (sides_of size))
    sequence_whole = top_is t.parent.number (side (other (axis_of t.axis)) (sides_of size)) t.axis
        (span_in (flipped t.axis) t.area) held start_zero (omega (arith, width_is, start_zero))

    stands : Stands ns (sequence_of t) whole
    stands = grown-Stands ns d (rank_in o) ends m joints o.top.number first led_to alone place_zero

    cut : IsCut (side (other (axis_of t.axis)) (sides_of size)) (erase whole)
    cut = subst (λ (v : Sequence). IsCut v.width (erase whole)) sequence_whole begins.cut

    calm : (k : ℕ) → 0 < tally k whole → IsCalmAt ns k
    calm k l =
        let u : IsUsed (node_at ns k) = omega (arith, stands.numbered k) in
        let h = all.settled k u in
        record { apart = λ f g. (h.free f).apart g; nested = λ f. (h.free f).nested }

    -- So the nodes are those of a tree of this size.
    pub imaged-tree : IsTreeOfNodes ns (sides_of size) options o.top.number whole
    imaged-tree =
        record {
          axis = axis_of t.axis;
          stands = subst (λ v. Stands ns v whole) sequence_whole stands;
          cut = cut;
          along = omega (
            arith,
            begins.along,
            place_zero,
            ap (λ v. end_of (span_in t.axis v)) (frame_whole t held),
            (whole_span size t.axis).ends,
          );
          first = begins.first;
          normal = normal-from_calm ns (sequence_of t) no_slot 0 whole (stands.numbered no_slot ∙ ap use_count none)
              (full-from_cut (side (other (axis_of t.axis)) (sides_of size)) (erase whole)
              (side_positive (other (axis_of t.axis)) (sides_of size) positive) cut) calm stands.standing;
          aligned = λ i k. (all.settled i (rw k (omega arith))).granted k;
        }

    pub imaged : (n : Numbered) × IsTreeOfNodes ns (sides_of size) options o.top.number n
    imaged = (whole, imaged-tree)

-- What holds of each used slot below the end holds of each.
pub members-all : {A : Type 0} (ns : List Node) (o : Order A) (size : Size) (options : AllocatorOptions)
    → ((i : ℕ) → i < length ns → IsUsed (node_at ns i) → IsMember ns o size i (node_at ns i))
    → ((i : ℕ) → i < length ns → IsUsed (node_at ns i) → IsNormalAndAligned ns options (node_at ns i))
    → AreMembers ns o size options
members-all ns o size options f g =
    record { members = λ i u. f i (used-inside ns i u) u; settled = λ i u. g i (used-inside ns i u) u }

-- As many slots are used as the tree has members.
used_tallies : (ns : List Node) (m : ℕ) (t : Numbered) → ((k : ℕ) → tally k t ≡ use_count (node_at ns k).kind)
    → used_below ns m ≡ tallies m t
unfolding sums
used_tallies ns zero t h = refl
used_tallies ns (suc m) t h = omega (arith, h m, used_tallies ns m t h)

pub used-numbers : (ns : List Node) (s : Sequence) (t : Numbered) → Stands ns s t → used_below ns (length ns) ≡ numbers t
used-numbers ns s t h =
    used_tallies ns (length ns) t h.numbered
    ∙ tallies-numbers (length ns) t (λ k l. used-inside ns k (omega (arith, h.numbered k, l)))
