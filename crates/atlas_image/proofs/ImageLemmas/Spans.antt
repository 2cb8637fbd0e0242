-- Where a node stands, by the spans of its rectangle along both axes.
use Rattle.std.proofs.Common.{ℕ, ◌+◌, ◌-◌, ◌<◌, ◌≡◌, refl, sym, ap, ◌∙◌, arith}
use Rattle.atlas_image.specs.declared.members.Span.{Span}
use Rattle.atlas_image.specs.Members.{span_in, IsAcross}
use Rattle.atlas_model.specs.declared.geometry.Rectangle.{Rectangle}
use Rattle.atlas_model.specs.Boxes.{Box, IsNonempty, box_sides, side}
use Rattle.atlas_model.specs.Pixels.{box_of, natural, rectangle_of}
use Rattle.atlas_search.specs.declared.cut.Orientation.{Orientation}
use Rattle.atlas_search.specs.declared.cut.Orientation.TheVariants as orientation
use Rattle.atlas_search.specs.Rectangles.{IsSolid, flipped}
use Rattle.atlas_store.specs.declared.slots.Node.{Node}
use Rattle.atlas_store.specs.Slots.{axis_of}
use Rattle.atlas_store.specs.Slots.Reading.{extent_of}
use Rattle.atlas_store.specs.Slots.Standing.{Sequence, inside, member_box}
use Rattle.atlas_store.proofs.SlotLemmas.PlannedLeaves.{axis_of-flipped}

abbrev pub begin_of : Span → ℕ
begin_of s = natural s.low

abbrev pub end_of : Span → ℕ
end_of s = natural s.high

-- The sequence that spans so far across.
abbrev pub sequence_in : (parent : ℕ) → Orientation → Span → Sequence
sequence_in parent o s =
    record { parent = parent; axis = axis_of o; start = begin_of s; width = end_of s - begin_of s }

-- The sequence that a member is in, by its own rectangle.
abbrev pub sequence_of : Node → Sequence
sequence_of n = sequence_in n.parent.number n.axis (span_in (flipped n.axis) n.area)

-- Where it begins there.
abbrev pub place_of : Node → ℕ
place_of n = begin_of (span_in n.axis n.area)

regain : (a b : ℕ) → a < b → a + (b - a) ≡ b
regain a b l = omega arith

box_parts : (b : Box) (x y : ℕ) → x ≡ b.max.x → y ≡ b.max.y → b ≡ record { min = b.min; max = record { x = x; y = y } }
box_parts b x y e f = rw (e, f) refl

box_is : (o : Orientation) (parent : ℕ) (r : Rectangle) → IsNonempty (box_of r)
    → box_of r ≡ member_box (sequence_in parent o (span_in (flipped o) r)) (begin_of (span_in o r))
    (side (axis_of o) (box_sides (box_of r)))
box_is orientation.Horizontal parent r h =
    box_parts (box_of r) _ _ (regain (natural r.min.x) (natural r.max.x) h.0) (regain (natural r.min.y) (natural r.max.y) h.1)
box_is orientation.Vertical parent r h =
    box_parts (box_of r) _ _ (regain (natural r.min.x) (natural r.max.x) h.0) (regain (natural r.min.y) (natural r.max.y) h.1)

-- The rectangle of a node is that of its place.
pub area-is : (n : Node) → IsSolid n.area
    → n.area ≡ rectangle_of (member_box (sequence_of n) (place_of n) (extent_of n))
area-is n h = h.unsigned ∙ ap rectangle_of (box_is n.axis n.parent.number n.area h.nonempty)

extent_is : (o : Orientation) (r : Rectangle) → side (axis_of o) (box_sides (box_of r)) ≡ end_of (span_in o r) - begin_of (span_in o r)
extent_is orientation.Horizontal r = refl
extent_is orientation.Vertical r = refl

extent_positive : (o : Orientation) (r : Rectangle) → IsNonempty (box_of r) → begin_of (span_in o r) < end_of (span_in o r)
extent_positive orientation.Horizontal r h = h.0
extent_positive orientation.Vertical r h = h.1

pub extent-some : (n : Node) → IsSolid n.area → 0 < extent_of n
extent-some n h = omega (arith, extent_is n.axis n.area, extent_positive n.axis n.area h.nonempty)

-- Where it ends.
pub place-end : (n : Node) → IsSolid n.area → place_of n + extent_of n ≡ end_of (span_in n.axis n.area)
place-end n h = omega (arith, extent_is n.axis n.area, extent_positive n.axis n.area h.nonempty)

pub across-end : (n : Node) → IsSolid n.area
    → (sequence_of n).start + (sequence_of n).width ≡ end_of (span_in (flipped n.axis) n.area)
across-end n h = omega (arith, extent_positive (flipped n.axis) n.area h.nonempty)

sequence_same : (p q : ℕ) (o u : Orientation) (s t : Span) → p ≡ q → o ≡ u → s ≡ t → sequence_in p o s ≡ sequence_in q u t
sequence_same p q o u s t e f g = rw (e, f, g) refl

-- Members of one sequence agree on it.
pub same-sequence : (n m : Node) (f g : Rectangle) → IsAcross n f → IsAcross m g → g ≡ f → m.axis ≡ n.axis
    → m.parent.number ≡ n.parent.number → sequence_of m ≡ sequence_of n
same-sequence n m f g a b w x p =
    sequence_same m.parent.number n.parent.number m.axis n.axis (span_in (flipped m.axis) m.area)
    (span_in (flipped n.axis) n.area) p x
    (b ∙ ap (λ v. span_in (flipped m.axis) v) w ∙ ap (λ o. span_in (flipped o) f) x ∙ sym a)

twice : (o : Orientation) → flipped (flipped o) ≡ o
twice orientation.Horizontal = refl
twice orientation.Vertical = refl

inside_is : (p i w : ℕ) (o : Orientation) (s t : Span) → end_of t - begin_of t ≡ w
    → sequence_in i (flipped o) t ≡ inside (sequence_in p o s) i (begin_of t) w
inside_is p i w o s t e = rw (← e, axis_of-flipped o) refl

-- A member of a container, of slot i, is in the sequence inside.
pub inner-sequence : (n u : Node) (i : ℕ) (f : Rectangle) → IsAcross u f → f ≡ n.area → u.axis ≡ flipped n.axis
    → u.parent.number ≡ i → sequence_of u ≡ inside (sequence_of n) i (place_of n) (extent_of n)
inner-sequence n u i f a w x p =
    sequence_same u.parent.number i u.axis (flipped n.axis) (span_in (flipped u.axis) u.area) (span_in n.axis n.area) p x
    (a ∙ ap (λ v. span_in (flipped u.axis) v) w ∙ ap (λ o. span_in o n.area) (ap flipped x ∙ twice n.axis))
    ∙ inside_is n.parent.number i (extent_of n) n.axis (span_in (flipped n.axis) n.area) (span_in n.axis n.area)
    (sym (extent_is n.axis n.area))
