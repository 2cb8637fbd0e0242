-- The rectangle that a used slot stores may be measured, and has a square.
use Rattle.std.proofs.Common.{ℕ, ◌+◌, ◌<◌, ◌^◌, List, inl, inr, arith}
use Rattle.std.proofs.lemmas.Bool.{cases_eq}
use Rattle.std.proofs.lemmas.Int.{ints}
use Rattle.atlas_store.specs.declared.slots.Node.{Node}
use Rattle.atlas_model.specs.declared.geometry.Rectangle.{Rectangle}
use Rattle.atlas_model.specs.Boxes.{Axis, Box, IsNonempty, box_at, sized}
use Rattle.atlas_model.specs.Boxes.Axis.{Horizontal, Vertical}
use Rattle.atlas_model.specs.Pixels.{rectangle_of, box_of, IsMeasurable}
use Rattle.atlas_store.specs.Slots.{nodes, node_at, use_count}
use Rattle.atlas_search.specs.Numbers.{no_slot}
use Rattle.atlas_model.specs.Trees.{IsCut, total}
use Rattle.atlas_store.specs.Slots.Numbered.{Numbered, erase, tally, End, Free, Alloc, Seq}
use Rattle.atlas_store.specs.Slots.Standing.{Sequence, Standing, inside, spot, member_box}
use Rattle.atlas_store.specs.Stored.{Shelf, Holding, Holds}
use Rattle.atlas_store.proofs.SlotLemmas.Frames.{same-ne, split_pos}

-- A rectangle may be measured, and has a square.
pub record IsSpan (r : Rectangle) : Type 0 where
  pub measurable : IsMeasurable r
  pub nonempty : IsNonempty (box_of r)

box-span : (b : Box) → b.max.x < 2 ^ 31 → b.max.y < 2 ^ 31 → IsNonempty b → IsSpan (rectangle_of b)
box-span b m n full = record { measurable = (omega (arith, ints, full.0, full.1), omega (arith, ints, full.0, full.1)); nonempty = full }

spot-span : (a : Axis) (start width p e : ℕ) → p + e < 2 ^ 31 → start + width < 2 ^ 31 → 0 < width → 0 < e
    → IsSpan (rectangle_of (box_at (spot a p start) (sized a e width)))
spot-span Horizontal start width p e h k w l = box-span _ h k (omega arith, omega arith)
spot-span Vertical start width p e h k w l = box-span _ k h (omega arith, omega arith)

member-span : (s : Sequence) (p e : ℕ) → p + e < 2 ^ 31 → s.start + s.width < 2 ^ 31 → 0 < s.width → 0 < e
    → IsSpan (rectangle_of (member_box s p e))
member-span s p e h k w l = spot-span s.axis s.start s.width p e h k w l

area-span : (ns : List Node) (i : ℕ) (s : Sequence) (before p : ℕ) (n : Numbered) → Standing ns s before p n
    → IsCut s.width (erase n)
    → p + total (erase n) < 2 ^ 31 → s.start + s.width < 2 ^ 31 → 0 < s.width → 0 < tally i n
    → IsSpan (node_at ns i).area
area-span ns i s before p End h cut along across wide l = absurd (omega arith)
area-span ns i s before p (Free j e rest) h cut along across wide l =
    grind (
      arith,
      member-span s p e (omega arith) across wide cut.0,
      area-span ns i s j (p + e) rest h.2 cut.1 (omega arith) across wide,
      same-ne i j,
    )
area-span ns i s before p (Alloc j g e rest) h cut along across wide l =
    grind (
      arith,
      member-span s p e (omega arith) across wide cut.0,
      area-span ns i s j (p + e) rest h.3 cut.1 (omega arith) across wide,
      same-ne i j,
    )
area-span ns i s before p (Seq j e inner rest) h cut along across wide l =
    elim (cases_eq i j) [
      | inl q ↦ rw (q, h.1) (member-span s p e (omega arith) across wide cut.0)
      | inr ne ↦ elim (split_pos (tally i inner) (tally i rest) (omega (arith, same-ne i j ne))) [
        | inl a ↦ area-span ns i (inside s j p e) no_slot s.start inner h.2 cut.2 (omega (arith, cut.1)) (omega arith) cut.0 a
        | inr b ↦ area-span ns i s j (p + e) rest h.3 cut.3 (omega arith) across wide b
      ]
    ]

-- Each used slot stores such a rectangle.
pub Holds-span : (v : Shelf) (h : Holding) (i : ℕ) → Holds v h → 0 < use_count (node_at (nodes v.slots) i).kind
    → IsSpan (node_at (nodes v.slots) i).area
Holds-span v h i w l =
    area-span (nodes v.slots) i h.sequence no_slot 0 h.tree w.stands.standing w.cut (omega (arith, w.along)) w.across w.wide
    (rw (w.stands.numbered i) l)
