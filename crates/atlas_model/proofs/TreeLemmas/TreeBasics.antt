-- Small facts of axes, boxes and leaves that several files of lemmas need.
use Rattle.std.proofs.Common.{◌≡◌, ℕ, ◌+◌, ◌<◌, ◌≤◌, Bool, true, cond, List, ◌++◌, refl, arith}
use Rattle.std.proofs.lemmas.List.Elements.{filter_map-append}
use Rattle.atlas_model.specs.Boxes.{Axis, Position, Sides, Box, other, side, sized, moved, box_at, whole_box, origin}
use Rattle.atlas_model.specs.Boxes.{same_box, Fits, IsPositive}
use Rattle.atlas_model.specs.Boxes.Axis.{Horizontal, Vertical}
use Rattle.atlas_model.specs.Trees.{Grant, Members, leaves, granted, ungranted}
use Rattle.atlas_model.specs.Trees.Members.{Seq}

abbrev pub one_if : Bool → ℕ
one_if b = cond b 1 0

pub other_twice : (axis : Axis) → other (other axis) ≡ axis
other_twice Horizontal = refl
other_twice Vertical = refl

pub side_positive : (axis : Axis) (size : Sides) → IsPositive size → 0 < side axis size
side_positive Horizontal size h = h.0
side_positive Vertical size h = h.1

pub longer_side : (axis : Axis) (old new : Sides) → Fits old new → side axis old ≤ side axis new
longer_side Horizontal old new h = h.0
longer_side Vertical old new h = h.1

pub moved-twice : (axis : Axis) (o : Position) (a b : ℕ) → moved axis (moved axis o a) b ≡ moved axis o (a + b)
moved-twice Horizontal o a b = let e : o.x + a + b ≡ o.x + (a + b) = omega arith in λ i. record { x = e i; y = o.y }
moved-twice Vertical o a b = let e : o.y + a + b ≡ o.y + (a + b) = omega arith in λ i. record { x = o.x; y = e i }

-- A member spans the same box, whichever axis it is measured along.
pub turned : (axis : Axis) (o : Position) (e across : ℕ)
    → box_at o (sized (other axis) across e) ≡ box_at o (sized axis e across)
turned Horizontal o e across = refl
turned Vertical o e across = refl

pub whole_box-sized : (axis : Axis) (size : Sides)
    → box_at origin (sized axis (side axis size) (side (other axis) size)) ≡ whole_box size
whole_box-sized Horizontal size = refl
whole_box-sized Vertical size = refl

-- Boxes that pass the test are equal.
pub same_box-true : (b c : Box) → same_box b c ≡ true → b ≡ c
same_box-true b c h = grind arith

pub same_box-itself : (b : Box) → same_box b b ≡ true
same_box-itself b = grind arith

-- What is live in members, and what is free in them.
abbrev pub live_among : Axis → Position → ℕ → Members → List Grant
live_among axis o across m = granted (leaves axis o across m)

abbrev pub free_among : Axis → Position → ℕ → Members → List Box
free_among axis o across m = ungranted (leaves axis o across m)

pub live_among-seq : (axis : Axis) (o : Position) (across e : ℕ) (inner rest : Members)
    → live_among axis o across (Seq e inner rest)
    ≡ live_among (other axis) o e inner ++ live_among axis (moved axis o e) across rest
live_among-seq axis o across e inner rest = grind (arith, filter_map-append)

pub free_among-seq : (axis : Axis) (o : Position) (across e : ℕ) (inner rest : Members)
    → free_among axis o across (Seq e inner rest)
    ≡ free_among (other axis) o e inner ++ free_among axis (moved axis o e) across rest
free_among-seq axis o across e inner rest = grind (arith, filter_map-append)
