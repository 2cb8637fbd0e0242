-- How many members a placing, a growth and a freeing add.
use Rattle.std.proofs.Common.{rules, ◌≡◌, ℕ, ◌+◌, ◌*◌, ◌≤◌, Bool, refl, ap, subst, ◌∙◌, arith, ap₂}
use Rattle.atlas_model.specs.Boxes.{Axis, Position, Sides, Box, other, side, moved, origin, box_sides, Fits, IsPositive}
use Rattle.atlas_model.specs.Changes.{placed, place, need, needed, place_need, nf, mark, release, lengthened}
use Rattle.atlas_model.specs.Changes.{lengthened_to, widened, grown_members, grown, grow_need}
use Rattle.atlas_model.specs.Cuts.{Cut}
use Rattle.atlas_model.specs.Cuts.Cut.{Whole}
use Rattle.atlas_model.specs.Trees.{Members, Tree, free_boxes, node_count, IsWellFormed}
use Rattle.atlas_model.specs.Trees.Members.{End, Free, Alloc, Seq}
use Rattle.atlas_model.proofs.TreeLemmas.TreeBasics.{one_if, free_among}
use Rattle.atlas_model.proofs.TreeLemmas.TreePlacements.{hits, hits-free, hits-seq, hits_once}
use Rattle.atlas_model.specs.Laws.TreeLaws.{MembersAreCounted}

-- Placings

nodes-placed : (f : Box) (r : Sides) (id : ℕ) (axis : Axis) (o : Position) (across : ℕ) (m : Members)
    → node_count (placed f r id axis o across m) ≡ node_count m + needed f r axis o across m
nodes-placed f r id axis o across End = omega arith
nodes-placed f r id axis o across (Free e rest) = grind (arith, nodes-placed f r id axis (moved axis o e) across rest)
nodes-placed f r id axis o across (Alloc i e rest) =
    ap (λ k. 1 + k) (nodes-placed f r id axis (moved axis o e) across rest) ∙ omega arith
nodes-placed f r id axis o across (Seq e inner rest) =
    grind (arith, nodes-placed f r id (other axis) o e inner, nodes-placed f r id axis (moved axis o e) across rest)

pub place_nodes : (size : Sides) (t : Tree) (f : Box) (r : Sides) (id : ℕ)
    → node_count (place size f r id t).members ≡ node_count t.members + place_need size f r t
place_nodes size t f r id = nodes-placed f r id t.axis origin (side (other t.axis) size) t.members

-- A placing adds at most four node_count.

need-most : (c : Cut) (axis : Axis) → need c axis ≤ 4
need-most Whole axis = omega arith
need-most c axis = grind arith

needed-most : (f : Box) (r : Sides) (axis : Axis) (o : Position) (across : ℕ) (m : Members)
    → needed f r axis o across m ≤ 4 * hits f (free_among axis o across m)
needed-most f r axis o across End = omega arith
needed-most f r axis o across (Free e rest) =
    grind (arith, hits-free, needed-most f r axis (moved axis o e) across rest, need-most, hits, free_among, one_if)
needed-most f r axis o across (Alloc i e rest) = needed-most f r axis (moved axis o e) across rest
needed-most f r axis o across (Seq e inner rest) =
    let sum : hits f (free_among axis o across (Seq e inner rest))
    ≡ hits f (free_among (other axis) o e inner) + hits f (free_among axis (moved axis o e) across rest) =
    hits-seq f axis o across e inner rest in
    let a : needed f r (other axis) o e inner ≤ 4 * hits f (free_among (other axis) o e inner) =
    needed-most f r (other axis) o e inner in
    let b : needed f r axis (moved axis o e) across rest ≤ 4 * hits f (free_among axis (moved axis o e) across rest) =
    needed-most f r axis (moved axis o e) across rest in
    omega arith

pub place_most : (size : Sides) (t : Tree) (f : Box) (r : Sides) → IsWellFormed size t → IsPositive r
    → Fits r (box_sides f)
    → place_need size f r t ≤ 4
place_most size t f r well pos fit =
    let all : place_need size f r t ≤ 4 * hits f (free_boxes size t) =
    needed-most f r t.axis origin (side (other t.axis) size) t.members in
    let once : hits f (free_boxes size t) ≤ 1 = hits_once size t f r well pos fit in
    omega arith

-- Growths

one_longer : {a b : ℕ} (k : ℕ) → (a ≤ b) × (b ≤ a + 1) → (1 + k + a ≤ 1 + k + b) × (1 + k + b ≤ 1 + k + a + 1)
one_longer k h = (omega (arith, h.0), omega (arith, h.1))

nodes-lengthened : (d : ℕ) (m : Members)
    → (node_count m ≤ node_count (lengthened d m)) × (node_count (lengthened d m) ≤ node_count m + 1)
nodes-lengthened d (Free e (Free k rest)) = one_longer 0 (nodes-lengthened d (Free k rest))
nodes-lengthened d (Free e (Alloc id k rest)) = one_longer 0 (nodes-lengthened d (Alloc id k rest))
nodes-lengthened d (Free e (Seq k inner rest)) = one_longer 0 (nodes-lengthened d (Seq k inner rest))
nodes-lengthened d (Alloc id e rest) = one_longer 0 (nodes-lengthened d rest)
nodes-lengthened d (Seq e inner rest) = one_longer (node_count inner) (nodes-lengthened d rest)
nodes-lengthened d m = (omega arith, omega arith)

nodes-lengthened_to : (a b : ℕ) (m : Members)
    → (node_count m ≤ node_count (lengthened_to a b m)) × (node_count (lengthened_to a b m) ≤ node_count m + 1)
nodes-lengthened_to a b m = grind (arith, nodes-lengthened)

nodes-widened : (u n : ℕ) (axis : Axis) (m : Members)
    → (node_count m ≤ node_count (widened u n axis m).members)
    × (node_count (widened u n axis m).members ≤ node_count m + 2)
nodes-widened u n axis m = grind arith

nodes-grown : (old new : Sides) (axis : Axis) (m : Members)
    → (node_count m ≤ node_count (grown_members old new axis m).members)
    × (node_count (grown_members old new axis m).members ≤ node_count m + 3)
nodes-grown old new axis (Free e End) = (omega arith, omega arith)
nodes-grown old new axis m = search (rules, nodes-widened, nodes-lengthened_to)

pub grow_nodes : (old new : Sides) (t : Tree)
    → node_count (grown old new t).members ≡ node_count t.members + grow_need old new t
grow_nodes old new t = grind (arith, nodes-grown)

-- A growth adds at most three members.
pub grow_most : (old new : Sides) (t : Tree) → grow_need old new t ≤ 3
grow_most old new t = grind (arith, nodes-grown)

-- Freeings

nodes-nf : (m : Members) → node_count (nf m) ≤ node_count m
nodes-nf End = omega arith
nodes-nf (Free e rest) = grind (arith, nodes-nf rest)
nodes-nf (Alloc id e rest) = let k : node_count (nf rest) ≤ node_count rest = nodes-nf rest in omega arith
nodes-nf (Seq e inner rest) = grind (arith, nodes-nf inner, nodes-nf rest)

nodes-mark : (s : ℕ → Bool) (m : Members) → node_count (mark s m) ≡ node_count m
nodes-mark s End = refl
nodes-mark s (Free e rest) = ap (λ k. 1 + k) (nodes-mark s rest)
nodes-mark s (Alloc id e rest) = grind (arith, nodes-mark s rest)
nodes-mark s (Seq e inner rest) = ap₂ (λ i k. 1 + i + k) (nodes-mark s inner) (nodes-mark s rest)

-- A freeing adds no node.
pub release_nodes : (s : ℕ → Bool) (t : Tree) → node_count (release s t).members ≤ node_count t.members
release_nodes s t = subst (λ k. node_count (nf (mark s t.members)) ≤ k) (nodes-mark s t.members) (nodes-nf (mark s t.members))

pub members_are_counted : MembersAreCounted
members_are_counted = grind (arith, place_nodes, place_most, grow_nodes, grow_most, release_nodes)
