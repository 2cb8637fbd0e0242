-- What a placing keeps, and what it adds.
use Rattle.std.proofs.Common.{rules, ◌≡◌, ℕ, ◌+◌, ◌*◌, ◌%◌, ◌^◌, ◌≤◌, ◌==◌, Bool, true, false, cond, eqb, Option, Some}
use Rattle.std.proofs.Common.{None, List, [], ◌∷◌, refl, ap, subst, sym, ◌∙◌, arith}
use Rattle.std.proofs.lemmas.Bool.{eqb-true, true≢false}
use Rattle.std.proofs.lemmas.List.Sums.{sum_by-cons, sum_by-append, get_or-le-sum_by}
use Rattle.std.specs.List.{count_by}
use Rattle.atlas_model.specs.Boxes.{Axis, Position, Sides, Box, other, side, sized, moved, box_at, origin, box_sides}
use Rattle.atlas_model.specs.Boxes.{same_box, covers, Fits, IsPositive, IsNonempty, IsInside}
use Rattle.atlas_model.specs.Boxes.Axis.{Horizontal, Vertical}
use Rattle.atlas_model.specs.Changes.{put, placed, place}
use Rattle.atlas_model.specs.Cuts.{cut}
use Rattle.atlas_model.specs.Trees.{Grant, grant, slot_count, Members, Tree, Leaf, tree_leaves, ids, ungranted}
use Rattle.atlas_model.specs.Trees.{free_boxes, live, total, IsCut, IsWellFormed, begins_free, is_idle, IsNormal}
use Rattle.atlas_model.specs.Trees.Members.{End, Free, Alloc, Seq}
use Rattle.std.specs.List.{Contains}
use Rattle.atlas_model.proofs.TreeLemmas.TreeBasics.{one_if, same_box-true, same_box-itself, live_among, free_among, live_among-seq}
use Rattle.atlas_model.proofs.TreeLemmas.TreeBasics.{free_among-seq}
use Rattle.atlas_model.proofs.TreeLemmas.TreeTiles.{squares_of_leaves}
use Rattle.atlas_model.proofs.TreeLemmas.TreePuts.{CutSays, cut_says, sized_back, ids-put, normal-put, cut-put, live-put}

-- How many free leaves have the box.
abbrev pub hits : Box → List Box → ℕ
hits f bs = count_by (λ b. same_box b f) bs

pub hits-seq : (f : Box) (axis : Axis) (o : Position) (across e : ℕ) (inner rest : Members)
    → hits f (free_among axis o across (Seq e inner rest))
    ≡ hits f (free_among (other axis) o e inner) + hits f (free_among axis (moved axis o e) across rest)
hits-seq f axis o across e inner rest = grind (arith, free_among-seq, sum_by-append, one_if, free_among)

pub hits-free : (f : Box) (axis : Axis) (o : Position) (across e : ℕ) (rest : Members)
    → hits f (free_among axis o across (Free e rest))
    ≡ one_if (same_box (box_at o (sized axis e across)) f) + hits f (free_among axis (moved axis o e) across rest)
hits-free f axis o across e rest =
    sum_by-cons (λ b. one_if (same_box b f)) (box_at o (sized axis e across)) (free_among axis (moved axis o e) across rest)

-- What fits a box that is that of a member.
fits_member : (axis : Axis) (o : Position) (e across : ℕ) (f : Box) (r : Sides)
    → same_box (box_at o (sized axis e across)) f ≡ true → Fits r (box_sides f) → Fits r (sized axis e across)
fits_member axis o e across f r is fit = grind arith

along_fits : (axis : Axis) (e across : ℕ) (r : Sides) → Fits r (sized axis e across) → side axis r ≤ e
along_fits Horizontal e across r fit = fit.0
along_fits Vertical e across r fit = fit.1

-- The cut of the box is that of the member.
says_member : (axis : Axis) (o : Position) (e across : ℕ) (f : Box) (r : Sides)
    → same_box (box_at o (sized axis e across)) f ≡ true → IsPositive r → Fits r (box_sides f)
    → CutSays (cut (box_sides f) r) (sized axis e across) r
says_member axis o e across f r is pos fit = grind (arith, same_box-true, sized_back, cut_says)

-- The totals.
total-placed : (f : Box) (r : Sides) (id : ℕ) → Fits r (box_sides f)
    → (axis : Axis) (o : Position) (across : ℕ) (m : Members) → total (placed f r id axis o across m) ≡ total m
total-placed f r id fit axis o across End = refl
total-placed f r id fit axis o across (Free e rest) =
    search (rules, total-placed f r id fit axis (moved axis o e) across rest)
total-placed f r id fit axis o across (Alloc i e rest) =
    ap (λ k. e + k) (total-placed f r id fit axis (moved axis o e) across rest)
total-placed f r id fit axis o across (Seq e inner rest) =
    ap (λ k. e + k) (total-placed f r id fit axis (moved axis o e) across rest)

cut-placed : (f : Box) (r : Sides) (id : ℕ) → IsPositive r → Fits r (box_sides f)
    → (axis : Axis) (o : Position) (across : ℕ) (m : Members) → IsCut across m
    → IsCut across (placed f r id axis o across m)
cut-placed f r id pos fit axis o across End well = tt
cut-placed f r id pos fit axis o across (Free e rest) well =
    grind (arith, cut-placed f r id pos fit axis (moved axis o e) across rest well.1, cut-put, says_member)
cut-placed f r id pos fit axis o across (Alloc i e rest) well =
    (well.0, cut-placed f r id pos fit axis (moved axis o e) across rest well.1)
cut-placed f r id pos fit axis o across (Seq e inner rest) well = (
  well.0,
  total-placed f r id fit (other axis) o e inner ∙ well.1,
  cut-placed f r id pos fit (other axis) o e inner well.2,
  cut-placed f r id pos fit axis (moved axis o e) across rest well.3,
)

-- Normality
begins-placed : (f : Box) (r : Sides) (id : ℕ) (axis : Axis) (o : Position) (across : ℕ) (m : Members)
    → begins_free m ≡ false → begins_free (placed f r id axis o across m) ≡ false
begins-placed f r id axis o across (Free e rest) h = absurd (true≢false h)
begins-placed f r id axis o across m h = refl

busy-placed : (f : Box) (r : Sides) (id : ℕ) (axis : Axis) (o : Position) (across : ℕ) (m : Members) → IsNormal m
    → is_idle m ≡ false → is_idle (placed f r id axis o across m) ≡ false
busy-placed f r id axis o across End n h = h
busy-placed f r id axis o across (Free e End) n h = absurd (true≢false h)
busy-placed f r id axis o across (Free e (Free k rest)) n h = absurd (true≢false n.0)
busy-placed f r id axis o across (Alloc i e rest) n h = refl
busy-placed f r id axis o across (Seq e inner rest) n h = refl
busy-placed f r id axis o across m n h = grind arith

pub normal-placed : (f : Box) (r : Sides) (id : ℕ) (axis : Axis) (o : Position) (across : ℕ) (m : Members) → IsNormal m
    → IsNormal (placed f r id axis o across m)
normal-placed f r id axis o across End n = tt
normal-placed f r id axis o across (Free e rest) n =
    grind (arith, begins-placed, normal-placed f r id axis (moved axis o e) across rest n.1, normal-put)
normal-placed f r id axis o across (Alloc i e rest) n = normal-placed f r id axis (moved axis o e) across rest n
normal-placed f r id axis o across (Seq e inner rest) n = (
  busy-placed f r id (other axis) o e inner n.1 n.0,
  normal-placed f r id (other axis) o e inner n.1,
  normal-placed f r id axis (moved axis o e) across rest n.2,
)

one_more : (a c n k h : ℕ) → h ≡ 1 + n → a ≡ c + n * k → k + a ≡ c + h * k
one_more a c n k h p q = rw p (omega arith)

regroup : (a b c : ℕ) → a + (b + c) ≡ a + b + c
regroup a b c = omega arith

both_more : (c d m n k : ℕ) {a b s h : ℕ} → a ≡ c + m * k → b ≡ d + n * k → s ≡ c + d → h ≡ m + n → a + b ≡ s + h * k
both_more c d m n k p q r t = rw (r, t) (omega arith)

-- Ids: the new one once for each free leaf of the box.
ids-placed : (p : ℕ → Bool) (f : Box) (r : Sides) (id : ℕ) (axis : Axis) (o : Position) (across : ℕ) (m : Members)
    → count_by p (ids (placed f r id axis o across m)) ≡ count_by p (ids m) + hits f (free_among axis o across m) * one_if (p id)
ids-placed p f r id axis o across End = omega arith
ids-placed p f r id axis o across (Free e rest) =
    by_test (same_box (box_at o (sized axis e across)) f) (hits-free f axis o across e rest)
    (ids-placed p f r id axis (moved axis o e) across rest)
  where
    after : Members
    after = placed f r id axis (moved axis o e) across rest

    n : ℕ
    n = hits f (free_among axis (moved axis o e) across rest)

    by_test : (b : Bool) → hits f (free_among axis o across (Free e rest)) ≡ one_if b + n
        → count_by p (ids after) ≡ count_by p (ids rest) + n * one_if (p id)
        → count_by p (ids (cond b (put (cut (box_sides f) r) axis e across (side axis r) (side (other axis) r) id after) (Free e after)))
        ≡ count_by p (ids rest) + hits f (free_among axis o across (Free e rest)) * one_if (p id)
    by_test true is h =
        ap (count_by p) (ids-put (cut (box_sides f) r) axis e across (side axis r) (side (other axis) r) id after)
        ∙ sum_by-cons (λ k. one_if (p k)) id (ids after)
        ∙ one_more (count_by p (ids after)) (count_by p (ids rest)) n (one_if (p id))
        (hits f (free_among axis o across (Free e rest))) is h
    by_test false is h = grind arith
ids-placed p f r id axis o across (Alloc i e rest) =
    search (rules, sum_by-cons, one_if, ids-placed p f r id axis (moved axis o e) across rest, regroup, free_among)
ids-placed p f r id axis o across (Seq e inner rest) =
    sum_by-append (λ k. one_if (p k)) (ids (placed f r id (other axis) o e inner))
    (ids (placed f r id axis (moved axis o e) across rest))
    ∙ both_more (count_by p (ids inner)) (count_by p (ids rest)) (hits f (free_among (other axis) o e inner))
    (hits f (free_among axis (moved axis o e) across rest)) (one_if (p id))
    (ids-placed p f r id (other axis) o e inner) (ids-placed p f r id axis (moved axis o e) across rest)
    (sum_by-append (λ k. one_if (p k)) (ids inner) (ids rest)) (hits-seq f axis o across e inner rest)

pub live-placed : (p : Grant → Bool) (f : Box) (r : Sides) (id : ℕ) → IsPositive r → Fits r (box_sides f)
    → (axis : Axis) (o : Position) (across : ℕ) (m : Members)
    → count_by p (live_among axis o across (placed f r id axis o across m))
    ≡ count_by p (live_among axis o across m) + hits f (free_among axis o across m) * one_if (p (grant id (box_at f.min r)))
live-placed p f r id pos fit axis o across End = omega arith
live-placed p f r id pos fit axis o across (Free e rest) =
    by_test (same_box (box_at o (sized axis e across)) f) refl (hits-free f axis o across e rest)
    (live-placed p f r id pos fit axis (moved axis o e) across rest)
  where
    after : Members
    after = placed f r id axis (moved axis o e) across rest

    n : ℕ
    n = hits f (free_among axis (moved axis o e) across rest)

    a : ℕ
    a = count_by p (live_among axis (moved axis o e) across after)

    c : ℕ
    c = count_by p (live_among axis (moved axis o e) across rest)

    by_test : (b : Bool) → same_box (box_at o (sized axis e across)) f ≡ b
        → hits f (free_among axis o across (Free e rest)) ≡ one_if b + n
        → a ≡ c + n * one_if (p (grant id (box_at f.min r)))
        → count_by p (live_among axis o across (cond b (put (cut (box_sides f) r) axis e across (side axis r) (side (other axis) r) id
        after) (Free e after)))
        ≡ c + hits f (free_among axis o across (Free e rest)) * one_if (p (grant id (box_at f.min r)))
    by_test true same is h =
        ap (count_by p)
        (live-put (cut (box_sides f) r) axis o e across id r after (says_member axis o e across f r same pos fit)
        (along_fits axis e across r (fits_member axis o e across f r same fit)))
        ∙ ap (λ k. count_by p ((grant id (box_at k r)) ∷ live_among axis (moved axis o e) across after))
        (ap (λ k. k.min) (same_box-true (box_at o (sized axis e across)) f same))
        ∙ sum_by-cons (λ k. one_if (p k)) (grant id (box_at f.min r)) (live_among axis (moved axis o e) across after)
        ∙ one_more a c n (one_if (p (grant id (box_at f.min r)))) (hits f (free_among axis o across (Free e rest))) is h
    by_test false same is h = grind arith
live-placed p f r id pos fit axis o across (Alloc i e rest) =
    sum_by-cons (λ k. one_if (p k)) (grant i (box_at o (sized axis e across)))
    (live_among axis (moved axis o e) across (placed f r id axis (moved axis o e) across rest))
    ∙ ap (λ k. one_if (p (grant i (box_at o (sized axis e across)))) + k)
    (live-placed p f r id pos fit axis (moved axis o e) across rest)
    ∙ regroup (one_if (p (grant i (box_at o (sized axis e across)))))
    (count_by p (live_among axis (moved axis o e) across rest))
    (hits f (free_among axis (moved axis o e) across rest) * one_if (p (grant id (box_at f.min r))))
    ∙ ap (λ k. k + hits f (free_among axis (moved axis o e) across rest) * one_if (p (grant id (box_at f.min r))))
    (sym (sum_by-cons (λ k. one_if (p k)) (grant i (box_at o (sized axis e across))) (live_among axis (moved axis o e) across rest)))
live-placed p f r id pos fit axis o across (Seq e inner rest) =
    ap (count_by p)
    (live_among-seq axis o across e (placed f r id (other axis) o e inner) (placed f r id axis (moved axis o e) across rest))
    ∙ sum_by-append (λ k. one_if (p k)) (live_among (other axis) o e (placed f r id (other axis) o e inner))
    (live_among axis (moved axis o e) across (placed f r id axis (moved axis o e) across rest))
    ∙ both_more (count_by p (live_among (other axis) o e inner)) (count_by p (live_among axis (moved axis o e) across rest))
    (hits f (free_among (other axis) o e inner)) (hits f (free_among axis (moved axis o e) across rest))
    (one_if (p (grant id (box_at f.min r))))
    (live-placed p f r id pos fit (other axis) o e inner) (live-placed p f r id pos fit axis (moved axis o e) across rest)
    (ap (count_by p) (live_among-seq axis o across e inner rest) ∙ sum_by-append (λ k. one_if (p k)) (live_among (other axis) o e inner)
    (live_among axis (moved axis o e) across rest))
    (hits-seq f axis o across e inner rest)

-- A well formed tree has one leaf at most of a box that is not empty.

nonempty_from : (f : Box) (r : Sides) → IsPositive r → Fits r (box_sides f) → IsNonempty f
nonempty_from f r pos fit = (omega (arith, pos.0, fit.0), omega (arith, pos.1, fit.1))

pub covers_corner : (f : Box) → IsNonempty f → covers f.min.x f.min.y f ≡ true
covers_corner f h = grind arith

same_covers : (f b : Box) → IsNonempty f → one_if (same_box b f) ≤ one_if (covers f.min.x f.min.y b)
same_covers f b h = grind arith

hits_few : (f : Box) → IsNonempty f → (ls : List Leaf)
    → hits f (ungranted ls) ≤ count_by (λ (l : Leaf). covers f.min.x f.min.y l.box) ls
hits_few f h [] = omega arith
hits_few f h (l ∷ ls) =
    subst (λ k. hits f (ungranted (l ∷ ls)) ≤ k)
    (sym (sum_by-cons (λ (l : Leaf). one_if (covers f.min.x f.min.y l.box)) l ls))
    (by_owner l.owner l.box (hits_few f h ls))
  where
    by_owner : (w : Option ℕ) (b : Box)
        → hits f (ungranted ls) ≤ count_by (λ (l : Leaf). covers f.min.x f.min.y l.box) ls
        → hits f (ungranted (record { owner = w; box = b } ∷ ls))
        ≤ one_if (covers f.min.x f.min.y b) + count_by (λ (l : Leaf). covers f.min.x f.min.y l.box) ls
    by_owner None b k =
        subst (λ j. j ≤ one_if (covers f.min.x f.min.y b) + count_by (λ (l : Leaf). covers f.min.x f.min.y l.box) ls)
        (sym (sum_by-cons (λ b. one_if (same_box b f)) b (ungranted ls)))
        (let one : one_if (same_box b f) ≤ one_if (covers f.min.x f.min.y b) = same_covers f b h in omega arith)
    by_owner (Some id) b k = omega arith

min_inside : (size : Sides) (t : Tree) → IsWellFormed size t → (x y : ℕ)
    → count_by (λ (l : Leaf). covers x y l.box) (tree_leaves size t) ≤ 1
min_inside size t well x y =
    rw (squares_of_leaves x y t.axis origin (side (other t.axis) size) t.members well.cut)
    (at_most_one (covers x y (box_at origin (sized t.axis (total t.members) (side (other t.axis) size)))))
  where
    at_most_one : (b : Bool) → one_if b ≤ 1
    at_most_one true = omega arith
    at_most_one false = omega arith

pub hits_once : (size : Sides) (t : Tree) (f : Box) (r : Sides) → IsWellFormed size t → IsPositive r
    → Fits r (box_sides f)
    → hits f (free_boxes size t) ≤ 1
hits_once size t f r well pos fit =
    let few : hits f (free_boxes size t) ≤ count_by (λ (l : Leaf). covers f.min.x f.min.y l.box) (tree_leaves size t) =
    hits_few f (nonempty_from f r pos fit) (tree_leaves size t) in
    let one : count_by (λ (l : Leaf). covers f.min.x f.min.y l.box) (tree_leaves size t) ≤ 1 =
    min_inside size t well f.min.x f.min.y in
    omega arith

hits_some : (f : Box) (bs : List Box) → Contains bs f → 1 ≤ hits f bs
hits_some f bs at = grind (arith, one_if, get_or-le-sum_by, same_box-itself)

-- A placing keeps the tree well formed.
pub place_well_formed : (size : Sides) (t : Tree) (f : Box) (r : Sides) (id : ℕ) → IsWellFormed size t → IsPositive r
    → Fits r (box_sides f)
    → slot_count id (ids t.members) ≡ 0 → IsWellFormed size (place size f r id t)
place_well_formed size t f r id well pos fit unused = record {
  nonempty = well.nonempty;
  along = total-placed f r id fit t.axis origin (side (other t.axis) size) t.members ∙ well.along;
  cut = cut-placed f r id pos fit t.axis origin (side (other t.axis) size) t.members well.cut;
  apart =
      λ j. apart_at (j % 2 ^ 24) (well.apart j) (eqb (id % 2 ^ 24) (j % 2 ^ 24)) refl
      (ids-placed (λ k. k % 2 ^ 24 == j % 2 ^ 24) f r id t.axis origin (side (other t.axis) size) t.members);
}
  where
    n : ℕ
    n = hits f (free_boxes size t)

    few : n ≤ 1
    few = hits_once size t f r well pos fit

    apart_at : (slot : ℕ) → count_by (λ k. k % 2 ^ 24 == slot) (ids t.members) ≤ 1 → (b : Bool) → eqb (id % 2 ^ 24) slot ≡ b
        → count_by (λ k. k % 2 ^ 24 == slot) (ids (place size f r id t).members)
        ≡ count_by (λ k. k % 2 ^ 24 == slot) (ids t.members) + n * one_if (eqb (id % 2 ^ 24) slot)
        → count_by (λ k. k % 2 ^ 24 == slot) (ids (place size f r id t).members) ≤ 1
    apart_at slot one true is e = grind (arith, eqb-true, one_if, few)
    apart_at slot one false is e = grind arith

pub place_normal : (size : Sides) (t : Tree) (f : Box) (r : Sides) (id : ℕ) → IsNormal t.members
    → IsNormal (place size f r id t).members
place_normal size t f r id n = normal-placed f r id t.axis origin (side (other t.axis) size) t.members n

-- What is live then is what was live, and the grant.
pub place_live : (size : Sides) (t : Tree) (f : Box) (r : Sides) (id : ℕ) (p : Grant → Bool) → IsWellFormed size t
    → Contains (free_boxes size t) f → IsPositive r → Fits r (box_sides f)
    → count_by p (live size (place size f r id t)) ≡ count_by p (live size t) + one_if (p (grant id (box_at f.min r)))
place_live size t f r id p well at pos fit =
    let once : hits f (free_boxes size t) ≤ 1 = hits_once size t f r well pos fit in
    let some : 1 ≤ hits f (free_boxes size t) = hits_some f (free_boxes size t) at in
    let one : hits f (free_boxes size t) ≡ 1 = omega arith in
    live-placed p f r id pos fit t.axis origin (side (other t.axis) size) t.members
    ∙ ap (λ k. count_by p (live size t) + k * one_if (p (grant id (box_at f.min r)))) one
    ∙ ap (λ k. count_by p (live size t) + k) (omega arith)

-- A request that fits a box lies inside it.
pub request_inside : (f : Box) (r : Sides) → IsPositive r → Fits r (box_sides f) → IsInside (box_at f.min r) f
request_inside f r pos fit = (omega arith, omega arith, omega (arith, pos.0, fit.0), omega (arith, pos.1, fit.1))
