-- The leaves of members tile the box of the members.
use Rattle.std.proofs.Common.{rules, ◌≡◌, ℕ, ◌+◌, ◌-◌, ◌*◌, ◌<◌, Bool, ◌&&◌, ltb, leb, Option, None, Some, List, ◌∷◌, ap, ap₂, subst, sym}
use Rattle.std.proofs.Common.{◌∙◌, arith}
use Rattle.std.proofs.Math.Nat.{mul_comm}
use Rattle.std.proofs.lemmas.List.Elements.{All-nil, All-cons, All-append}
use Rattle.std.proofs.lemmas.List.Sums.{sum_by-cons, sum_by-append}
use Rattle.std.specs.List.{sum_by, count_by}
use Rattle.atlas_model.specs.Boxes.{Axis, Position, Sides, other, side, sized, moved, box_at, origin, area, covers}
use Rattle.atlas_model.specs.Boxes.{IsNonempty, IsWithin}
use Rattle.atlas_model.specs.Boxes.Axis.{Horizontal, Vertical}
use Rattle.atlas_model.specs.Trees.{Members, Tree, Leaf, leaf, leaves, tree_leaves, total, IsCut, IsWellFormed}
use Rattle.atlas_model.specs.Trees.Members.{End, Free, Alloc, Seq}
use Rattle.std.specs.List.{All}
use Rattle.atlas_model.proofs.TreeLemmas.TreeBasics.{one_if, side_positive, turned, whole_box-sized}
use Rattle.atlas_model.specs.Laws.TreeLaws.{LeavesTile}

-- The areas.

area-at : (x y w h : ℕ) → (x + w - x) * (y + h - y) ≡ w * h
area-at x y w h = grind arith

pub area-sized : (axis : Axis) (o : Position) (e across : ℕ) → area (box_at o (sized axis e across)) ≡ e * across
area-sized Horizontal o e across = area-at o.x o.y e across
area-sized Vertical o e across = area-at o.x o.y across e ∙ omega arith

pub add_rows : (e t c a b : ℕ) → a ≡ e * c → b ≡ t * c → a + b ≡ (e + t) * c
add_rows e t c a b p q = omega arith

pub areas_of_leaves : (axis : Axis) (o : Position) (across : ℕ) (m : Members) → IsCut across m
    → sum_by (λ (l : Leaf). area l.box) (leaves axis o across m) ≡ total m * across
areas_of_leaves axis o across End cut = omega arith
areas_of_leaves axis o across (Free e rest) cut =
    search (rules, sum_by-cons, add_rows, area-sized, areas_of_leaves axis (moved axis o e) across rest cut.1)
areas_of_leaves axis o across (Alloc id e rest) cut =
    search (rules, sum_by-cons, add_rows, area-sized, areas_of_leaves axis (moved axis o e) across rest cut.1)
areas_of_leaves axis o across (Seq e inner rest) cut =
    sum_by-append (λ (l : Leaf). area l.box) (leaves (other axis) o e inner) (leaves axis (moved axis o e) across rest)
    ∙ add_rows e (total rest) across _ _
    (areas_of_leaves (other axis) o e inner cut.2 ∙ ap (λ k. k * e) cut.1 ∙ mul_comm across e)
    (areas_of_leaves axis (moved axis o e) across rest cut.3)

-- The areas of the leaves add up to that of the size.
pub areas_add_up : (size : Sides) (t : Tree) → IsWellFormed size t
    → sum_by (λ (l : Leaf). area l.box) (tree_leaves size t) ≡ size.width * size.height
areas_add_up size t well = grind (arith, areas_of_leaves)

-- Each unit square once.

split_x : (lo e t k : ℕ) (b : Bool)
    → one_if ((leb lo k && ltb k (lo + e)) && b) + one_if ((leb (lo + e) k && ltb k (lo + e + t)) && b)
    ≡ one_if ((leb lo k && ltb k (lo + (e + t))) && b)
split_x lo e t k b = grind arith

split_y : (lo e t k : ℕ) (b : Bool)
    → one_if (b && (leb lo k && ltb k (lo + e))) + one_if (b && (leb (lo + e) k && ltb k (lo + e + t)))
    ≡ one_if (b && (leb lo k && ltb k (lo + (e + t))))
split_y lo e t k b = grind arith

split : (axis : Axis) (o : Position) (e t across x y : ℕ)
    → one_if (covers x y (box_at o (sized axis e across))) + one_if (covers x y (box_at (moved axis o e) (sized axis t across)))
    ≡ one_if (covers x y (box_at o (sized axis (e + t) across)))
split Horizontal o e t across x y = split_x o.x e t x (leb o.y y && ltb y (o.y + across))
split Vertical o e t across x y = split_y o.y e t y (leb o.x x && ltb x (o.x + across))

nothing : (axis : Axis) (o : Position) (across x y : ℕ) → one_if (covers x y (box_at o (sized axis 0 across))) ≡ 0
nothing Horizontal o across x y = grind arith
nothing Vertical o across x y = grind arith

squares_before : (x y : ℕ) (axis : Axis) (o : Position) (across e t : ℕ) (owner : Option ℕ) (rest : List Leaf)
    → count_by (λ (l : Leaf). covers x y l.box) rest ≡ one_if (covers x y (box_at (moved axis o e) (sized axis t across)))
    → count_by (λ (l : Leaf). covers x y l.box) (leaf owner (box_at o (sized axis e across)) ∷ rest)
    ≡ one_if (covers x y (box_at o (sized axis (e + t) across)))
squares_before x y axis o across e t owner rest same =
    sum_by-cons (λ (l : Leaf). one_if (covers x y l.box)) (leaf owner (box_at o (sized axis e across))) rest
    ∙ ap (λ k. one_if (covers x y (box_at o (sized axis e across))) + k) same ∙ split axis o e t across x y

pub squares_of_leaves : (x y : ℕ) (axis : Axis) (o : Position) (across : ℕ) (m : Members) → IsCut across m
    → count_by (λ (l : Leaf). covers x y l.box) (leaves axis o across m)
    ≡ one_if (covers x y (box_at o (sized axis (total m) across)))
squares_of_leaves x y axis o across End cut = sym (nothing axis o across x y)
squares_of_leaves x y axis o across (Free e rest) cut =
    squares_before x y axis o across e (total rest) None (leaves axis (moved axis o e) across rest)
    (squares_of_leaves x y axis (moved axis o e) across rest cut.1)
squares_of_leaves x y axis o across (Alloc id e rest) cut =
    squares_before x y axis o across e (total rest) (Some id) (leaves axis (moved axis o e) across rest)
    (squares_of_leaves x y axis (moved axis o e) across rest cut.1)
squares_of_leaves x y axis o across (Seq e inner rest) cut =
    sum_by-append (λ (l : Leaf). one_if (covers x y l.box)) (leaves (other axis) o e inner)
    (leaves axis (moved axis o e) across rest)
    ∙ ap₂ ◌+◌
    (squares_of_leaves x y (other axis) o e inner cut.2 ∙ ap (λ b. one_if (covers x y b))
    (ap (λ k. box_at o (sized (other axis) k e)) cut.1 ∙ turned axis o e across))
    (squares_of_leaves x y axis (moved axis o e) across rest cut.3)
    ∙ split axis o e (total rest) across x y

inside : (x y w h : ℕ) → x < w → y < h → one_if (covers x y (box_at origin (record { width = w; height = h }))) ≡ 1
inside x y w h in_x in_y = grind arith

-- Each unit square of the size lies in one leaf's box.
pub squares_once : (size : Sides) (t : Tree) → IsWellFormed size t → (x y : ℕ) → x < size.width → y < size.height
    → count_by (λ (l : Leaf). covers x y l.box) (tree_leaves size t) ≡ 1
squares_once size t well x y in_x in_y =
    squares_of_leaves x y t.axis origin (side (other t.axis) size) t.members well.cut
    ∙ ap (λ b. one_if (covers x y b))
    (ap (λ k. box_at origin (sized t.axis k (side (other t.axis) size))) well.along ∙ whole_box-sized t.axis size)
    ∙ inside x y size.width size.height in_x in_y

-- No box is empty or passes the size.

first_within : (limit : Sides) (axis : Axis) (o : Position) (e t across : ℕ)
    → IsWithin limit (box_at o (sized axis (e + t) across)) → IsWithin limit (box_at o (sized axis e across))
first_within limit Horizontal o e t across h = (omega arith, h.1)
first_within limit Vertical o e t across h = (h.0, omega arith)

rest_within : (limit : Sides) (axis : Axis) (o : Position) (e t across : ℕ)
    → IsWithin limit (box_at o (sized axis (e + t) across))
    → IsWithin limit (box_at (moved axis o e) (sized axis t across))
rest_within limit Horizontal o e t across h = (omega arith, h.1)
rest_within limit Vertical o e t across h = (h.0, omega arith)

not_empty : (axis : Axis) (o : Position) (e across : ℕ) → 0 < e → 0 < across
    → IsNonempty (box_at o (sized axis e across))
not_empty Horizontal o e across p q = (omega arith, omega arith)
not_empty Vertical o e across p q = (omega arith, omega arith)

abbrev pub IsInPlace : Sides → Leaf → Type 0
IsInPlace limit l = IsNonempty l.box × IsWithin limit l.box

sound_leaves : (limit : Sides) (axis : Axis) (o : Position) (across : ℕ) (m : Members) → IsCut across m → 0 < across
    → IsWithin limit (box_at o (sized axis (total m) across))
    → All (λ (l : Leaf). IsInPlace limit l) (leaves axis o across m)
sound_leaves limit axis o across End cut pos fit = All-nil (IsInPlace limit)
sound_leaves limit axis o across (Free e rest) cut pos fit =
    All-cons (IsInPlace limit) _ _ (not_empty axis o e across cut.0 pos, first_within limit axis o e (total rest) across fit)
    (sound_leaves limit axis (moved axis o e) across rest cut.1 pos (rest_within limit axis o e (total rest) across fit))
sound_leaves limit axis o across (Alloc id e rest) cut pos fit =
    All-cons (IsInPlace limit) _ _ (not_empty axis o e across cut.0 pos, first_within limit axis o e (total rest) across fit)
    (sound_leaves limit axis (moved axis o e) across rest cut.1 pos (rest_within limit axis o e (total rest) across fit))
sound_leaves limit axis o across (Seq e inner rest) cut pos fit =
    All-append (IsInPlace limit) _ _
    (sound_leaves limit (other axis) o e inner cut.2 cut.0
    (subst (IsWithin limit) (sym (ap (λ k. box_at o (sized (other axis) k e)) cut.1 ∙ turned axis o e across))
    (first_within limit axis o e (total rest) across fit)))
    (sound_leaves limit axis (moved axis o e) across rest cut.3 pos (rest_within limit axis o e (total rest) across fit))

pub boxes_within : (size : Sides) (t : Tree) → IsWellFormed size t
    → All (λ (l : Leaf). IsNonempty l.box × IsWithin size l.box) (tree_leaves size t)
boxes_within size t well =
    sound_leaves size t.axis origin (side (other t.axis) size) t.members well.cut
    (side_positive (other t.axis) size well.nonempty)
    (subst (IsWithin size) (sym (ap (λ k. box_at origin (sized t.axis k (side (other t.axis) size))) well.along ∙
    whole_box-sized t.axis size)) (omega arith, omega arith))

pub leaves_tile : LeavesTile
leaves_tile size t well = record { squares = squares_once size t well; boxes = boxes_within size t well }
