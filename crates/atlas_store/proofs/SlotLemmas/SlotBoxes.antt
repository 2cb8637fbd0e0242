-- The rectangle of each used slot is that of a nonempty box.
use Rattle.std.proofs.Common.{ℕ, ◌+◌, ◌<◌, ◌≡◌, List, arith, inl, inr}
use Rattle.std.proofs.lemmas.Bool.{cases_lt}
use Rattle.atlas_store.specs.declared.slots.Node.{Node}
use Rattle.atlas_model.specs.declared.geometry.Rectangle.{Rectangle}
use Rattle.atlas_model.specs.Boxes.{Axis, IsNonempty, sized, box_at}
use Rattle.atlas_model.specs.Pixels.{rectangle_of}
use Rattle.atlas_model.specs.Trees.{IsCut}
use Rattle.atlas_store.specs.Slots.{node_at, use_count}
use Rattle.atlas_store.specs.Slots.Numbered.{Numbered, erase, tally, End, Free, Alloc, Seq}
use Rattle.atlas_search.specs.Numbers.{same}
use Rattle.atlas_store.specs.Slots.Standing.{Sequence, Standing, Stands, inside, member_box, spot}
use Rattle.atlas_search.specs.Rectangles.{IsSolid}
use Rattle.atlas_store.proofs.SlotLemmas.Frames.{same-ne}

nonempty-at : (a : Axis) (p q e w : ℕ) → 0 < e → 0 < w → IsNonempty (box_at (spot a p q) (sized a e w))
nonempty-at a p q e w h k = grind arith

exact-member : (r : Rectangle) (s : Sequence) (p e : ℕ) → r ≡ rectangle_of (member_box s p e) → 0 < e → 0 < s.width
    → IsSolid r
exact-member r s p e is h k = grind (arith, nonempty-at)

-- Of a member and what comes after it.
either : (P : ℕ → Type 0) (i j t : ℕ) → P j → (0 < t → P i) → 0 < same i j + t → P i
either P i j t here later h = grind (arith, same-ne)

pub member-exact : (ns : List Node) (i : ℕ) (s : Sequence) (b p : ℕ) (n : Numbered) → Standing ns s b p n
    → IsCut s.width (erase n) → 0 < s.width → 0 < tally i n → IsSolid (node_at ns i).area
member-exact ns i s b p End st c w h = absurd (omega arith)
member-exact ns i s b p (Free j e rest) st c w h =
    grind (arith, either, exact-member, member-exact ns i s j (p + e) rest st.2 c.1 w)
member-exact ns i s b p (Alloc j g e rest) st c w h =
    grind (arith, either, exact-member, member-exact ns i s j (p + e) rest st.3 c.1 w)
member-exact ns i s b p (Seq j e inner rest) st c w h =
    either (λ x. IsSolid (node_at ns x).area) i j (tally i inner + tally i rest) (exact-member (node_at ns j).area s p e st.1 c.0 w)
    (λ k. elim (cases_lt 0 (tally i inner)) [
      | inl l ↦ member-exact ns i (inside s j p e) _ s.start inner st.2 c.2 c.0 l
      | inr l ↦ member-exact ns i s j (p + e) rest st.3 c.3 w (omega (arith, l, k))
    ]) (omega arith)

pub slot-exact : (ns : List Node) (i : ℕ) (s : Sequence) (n : Numbered) → Stands ns s n → IsCut s.width (erase n)
    → 0 < s.width → 0 < use_count (node_at ns i).kind → IsSolid (node_at ns i).area
slot-exact ns i s n stands c w h = member-exact ns i s _ 0 n stands.standing c w (omega (arith, stands.numbered i))
