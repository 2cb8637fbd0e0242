-- The checks accept the nodes of a tree, where its first members are noted and ranks rise.
use Rattle.std.proofs.Common.{ℕ, pos, ◌+◌, ◌<◌, ◌≡◌, ◌≢◌, List, refl, sym, ap, ◌∙◌, arith, subst, length}
use Rattle.atlas_image.specs.declared.order.Order.{Order}
use Rattle.atlas_image.specs.Imaged.{AreMembers, IsTreeOfNodes}
use Rattle.atlas_image.specs.Members.{IsAfter, IsFirst, IsFirstOf, IsMember, IsNormalAndAligned, IsUsed, first_in, frame_around}
use Rattle.atlas_image.specs.Members.{rank_in, whole_rectangle}
use Rattle.atlas_image.proofs.ImageLemmas.GrownOnce.{RanksFall, before-after, before-first}
use Rattle.atlas_image.proofs.ImageLemmas.OneFirst.{first-once}
use Rattle.atlas_image.proofs.ImageLemmas.PlacedMembers.{IsIn, IsPlaced, first_inside, placed-all, some_total}
use Rattle.atlas_model.specs.declared.geometry.Size.{Size}
use Rattle.atlas_model.specs.declared.options.AllocatorOptions.{AllocatorOptions}
use Rattle.atlas_model.specs.Boxes.{Axis, IsPositive, Sides, other, side}
use Rattle.atlas_model.specs.Boxes.Axis.{Horizontal, Vertical}
use Rattle.atlas_model.specs.Pixels.{rectangle_of, sides_of, size_of}
use Rattle.atlas_search.specs.Numbers.{no_slot}
use Rattle.atlas_store.specs.declared.slots.Node.{Node}
use Rattle.atlas_store.specs.declared.slots.NodeKind.TheVariants as kind
use Rattle.atlas_store.specs.Slots.{axis_of, node_at, use_count}
use Rattle.atlas_store.specs.Slots.Growing.{top_along}
use Rattle.atlas_store.specs.Slots.Numbered.{Numbered, erase, first_slot, tally}
use Rattle.atlas_model.specs.Trees.{total}
use Rattle.atlas_model.proofs.TreeLemmas.TreeBasics.{side_positive}
use Rattle.atlas_store.proofs.SlotLemmas.ReadTrees.{first-axis}
use Rattle.atlas_store.specs.Slots.Standing.{Sequence, member_box}
use Rattle.atlas_store.proofs.SlotLemmas.CalmTrees.{calm-Stands}
use Rattle.atlas_store.proofs.SlotLemmas.JoinWrites.{none-unused}
use Rattle.atlas_store.proofs.SlotLemmas.SlotBoxes.{slot-exact}
use Rattle.atlas_store.proofs.StoreLemmas.Sizes.{size_is}
use Rattle.atlas_store.proofs.WalkLemmas.StoredAtlas.{nonempty-total}
use Rattle.atlas_store.proofs.StoreLemmas.RestoredStores.{link_same}
use Rattle.std.proofs.lemmas.Bool.{eq-eqb}

-- The first members are noted, and ranks rise.
pub record OrderFits {A : Type 0} (ns : List Node) (o : Order A) (first : ℕ) : Type 0 where
  pub top : o.top.number ≡ first
  pub firsts : (k : ℕ) → IsUsed (node_at ns k) → (node_at ns k).previous.number ≡ no_slot
      → IsFirstOf (node_at ns (first_in o (node_at ns k).parent.number).number) (node_at ns k).parent.number
  pub ranks : RanksFall ns (rank_in o)

whole_parts : (s : Sides) (w h : ℕ) → w ≡ s.width → h ≡ s.height
    → whole_rectangle (size_of s)
    ≡ record { min = record { x = pos 0; y = pos 0 }; max = record { x = pos w; y = pos h } }
whole_parts s w h e f = rw (e, f) refl

whole_box_is : (a : Axis) (size : Size) → size ≡ size_of (sides_of size)
    → whole_rectangle size ≡ rectangle_of (member_box (top_along a (side (other a) (sides_of size))) 0 (side a (sides_of size)))
whole_box_is a size e = ap whole_rectangle e ∙ by_axis a (sides_of size)
  where
    by_axis : (a : Axis) (s : Sides)
        → whole_rectangle (size_of s) ≡ rectangle_of (member_box (top_along a (side (other a) s)) 0 (side a s))
    by_axis Horizontal s = whole_parts s (0 + s.width) (0 + s.height) (omega arith) (omega arith)
    by_axis Vertical s = whole_parts s (0 + s.width) (0 + s.height) (omega arith) (omega arith)

module _ (ns : List Node) (size : Size) (options : AllocatorOptions) (begin : ℕ) (n : Numbered)
    (t : IsTreeOfNodes ns (sides_of size) options begin n) (positive : IsPositive (sides_of size)) (short : length ns < no_slot)
  where
    abbrev s : Sequence
    s = top_along t.axis (side (other t.axis) (sides_of size))

    none : (node_at ns no_slot).kind ≡ kind.Unused
    none = none-unused ns short

    no_tally : tally no_slot n ≡ 0
    no_tally = t.stands.numbered no_slot ∙ ap use_count none

    wide : 0 < side (other t.axis) (sides_of size)
    wide = side_positive (other t.axis) (sides_of size) positive

    long : 0 < total (erase n)
    long = omega (arith, t.along, side_positive t.axis (sides_of size) positive)

    -- The first member runs along the tree's axis.
    top_axis : axis_of (node_at ns begin).axis ≡ t.axis
    top_axis = ap (λ v. axis_of (node_at ns v).axis) (sym t.first)
        ∙ first-axis ns s no_slot 0 n t.stands.standing (nonempty-total n long)

    start : IsIn ns size begin s 0 (side t.axis (sides_of size)) no_slot 0 n
    start =
        record {
          frame = λ x q. rw (eq-eqb (node_at ns x).parent.number no_slot q) (whole_box_is t.axis size (size_is size positive));
          ends = omega (arith, t.along);
          begins = λ _. refl;
          used = λ z. absurd (z refl);
          next = λ z. absurd (z refl);
          parent = λ z. absurd (z refl);
          axis = λ z. absurd (z refl);
          high = λ z. absurd (z refl);
          holder = λ z. absurd (z refl);
          nested = λ z. absurd (z refl);
          top_axis = λ _. top_axis;
        }

    -- The first member comes first in the top sequence.
    begins : IsFirstOf (node_at ns (first_slot n)) no_slot
    begins = first_inside ns size begin s 0 n t.stands.standing (some_total ns size begin n no_tally long)

    placed : (i : ℕ) → IsUsed (node_at ns i) → IsPlaced ns size begin i
    placed i u = placed-all ns size begin s 0 (side t.axis (sides_of size)) no_slot 0 n start t.stands.standing t.cut
        wide no_tally i (omega (arith, t.stands.numbered i, u))

    settled : (i : ℕ) → IsUsed (node_at ns i) → IsNormalAndAligned ns options (node_at ns i)
    settled i u =
        let calm = calm-Stands ns s n short refl t.stands t.normal i in
        record {
          free = λ f. record { apart = calm.apart f; nested = calm.nested f };
          granted = t.aligned i;
        }

    module _ {A : Type 0} (o : Order A) (fits : OrderFits ns o begin) (i : ℕ) (u : IsUsed (node_at ns i)) where
      abbrev m : Node
      m = node_at ns i

      at : IsPlaced ns size begin i
      at = placed i u

      -- What comes before a member has a smaller rank.
      first_rank : (p : m.previous.number ≡ no_slot) → m.parent.number ≢ no_slot → rank_in o m.parent.number < rank_in o i
      first_rank p q =
          let e = before-first m p in
          subst (λ v. rank_in o v < rank_in o i) e (fits.ranks i u (λ z. q (sym e ∙ z)))

      after_rank : (p : m.previous.number ≢ no_slot) → rank_in o m.previous.number < rank_in o i
      after_rank p =
          let e = before-after m p in
          subst (λ v. rank_in o v < rank_in o i) e (fits.ranks i u (λ z. p (sym e ∙ z)))

      first : m.previous.number ≡ no_slot → IsFirst o i m (frame_around ns size m)
      first p = record {
        low = at.low p;
        first = first-once ns s n refl t.stands none m.parent.number (first_in o m.parent.number).number i (fits.firsts i u p)
            (record { used = u; parent = refl; previous = p });
        rank = first_rank p;
      }

      after : m.previous.number ≢ no_slot
          → IsAfter (node_at ns m.previous.number) i m (rank_in o m.previous.number) (rank_in o i)
      after p =
          let a = at.after p in
          record {
            used = a.used;
            next = a.next;
            parent = link_same _ _ a.parent;
            axis = a.axis;
            low = a.low;
            rank = after_rank p;
          }

      member : IsMember ns o size i m
      member =
          record {
            solid = slot-exact ns i s n t.stands t.cut wide u;
            across = at.across;
            held = record {
              top = λ z. at.top z ∙ ap (λ v. (node_at ns v).axis) (sym fits.top);
              nested = λ z. record { kind = at.holder z; axis = at.nested z };
            };
            begun = record { first = first; after = after };
            ended = record { last = at.high; before = at.before };
            filled = λ k.
                let c = at.filled k in
                subst (λ v. IsFirstOf (node_at ns (first_in o v).number) v) c.1.parent (fits.firsts c.0 c.1.used c.1.previous);
          }

-- What comes of a tree, in all.
module _ {A : Type 0} (ns : List Node) (o : Order A) (size : Size) (options : AllocatorOptions) (begin : ℕ) (n : Numbered)
    (t : IsTreeOfNodes ns (sides_of size) options begin n) (positive : IsPositive (sides_of size)) (short : length ns < no_slot)
  where
    pub tree-begins : IsFirstOf (node_at ns (first_slot n)) no_slot
    tree-begins = begins ns size options begin n t positive short

    pub tree-placed : (i : ℕ) → IsUsed (node_at ns i) → IsPlaced ns size begin i
    tree-placed = placed ns size options begin n t positive short

    pub members-accepted : OrderFits ns o begin → AreMembers ns o size options
    members-accepted fits = record {
      members = member ns size options begin n t positive short o fits;
      settled = settled ns size options begin n t positive short;
    }
