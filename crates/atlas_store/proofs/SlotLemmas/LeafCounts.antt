-- What is live and what is free, counted over the slots that hold a tree.
use Rattle.std.proofs.Common.{ℕ, ◌+◌, ◌*◌, ◌≡◌, Bool, true, false, cond, List, [], ◌∷◌, map, refl, sym, ap, ◌∙◌, arith}
use Rattle.std.specs.List.{count_by}
use Rattle.atlas_store.specs.declared.slots.Node.{Node}
use Rattle.atlas_store.specs.declared.slots.NodeKind.{NodeKind}
use Rattle.atlas_model.specs.Boxes.{Box, other}
use Rattle.atlas_model.specs.Pixels.{box_of}
use Rattle.atlas_model.specs.Trees.{Grant, grant}
use Rattle.atlas_store.specs.Slots.{node_at, use_count}
use Rattle.atlas_search.specs.Numbers.{no_slot}
use Rattle.atlas_store.specs.Slots.Lists.{is_free}
use Rattle.atlas_store.specs.Slots.Numbered.{Numbered, weigh, id_of, erase, End, Free, Alloc, Seq}
use Rattle.atlas_store.specs.Slots.Standing.{Sequence, Standing, Stands, inside, member_box, spot}
use Rattle.atlas_model.specs.Replies.{grant_of}
use Rattle.atlas_store.specs.Visits.{is_alloc, allocation_at, allocated_from, free_areas}
use Rattle.atlas_model.proofs.TreeLemmas.TreeBasics.{one_if, live_among, free_among, live_among-seq, free_among-seq}
use Rattle.atlas_model.proofs.ListLemmas.ListCounts.{count_by-cons, count_by-append}
use Rattle.atlas_store.proofs.SlotLemmas.SlotSums.{slot_sum, weigh-Stands}
use Rattle.atlas_store.proofs.SlotLemmas.Spots.{moved-spot, spot-other}

-- 1 if a slot is allocated and its grant passes.
abbrev pub alloc_weight : (Grant → Bool) → ℕ → Node → ℕ
alloc_weight p i n = cond (is_alloc n.kind) (one_if (p (grant (id_of i n.generation) (box_of n.area)))) 0

-- 1 if a slot is free and its box passes.
abbrev pub free_weight : (Box → Bool) → ℕ → Node → ℕ
free_weight p i n = cond (is_free n.kind) (one_if (p (box_of n.area))) 0

alloc-light : (k : NodeKind) (v : ℕ) → use_count k * cond (is_alloc k) v 0 ≡ cond (is_alloc k) v 0
alloc-light k v = grind arith

free-light : (k : NodeKind) (v : ℕ) → use_count k * cond (is_free k) v 0 ≡ cond (is_free k) v 0
free-light k v = grind arith

-- A slot that is listed or not counts as it passes or not.
count-if : {X Y : Type 0} (p : X → Bool) (f : Y → X) (b : Bool) (y : Y) (ys : List Y)
    → count_by p (map f (cond b (y ∷ ys) ys)) ≡ cond b (one_if (p (f y))) 0 + count_by p (map f ys)
count-if p f true y ys = count_by-cons p (f y) (map f ys)
count-if p f false y ys = omega arith

-- The list of the allocated slots counts them.
pub count-allocated : (p : Grant → Bool) (i : ℕ) (ns : List Node)
    → count_by p (map grant_of (allocated_from i ns)) ≡ slot_sum (alloc_weight p) i ns
count-allocated p i [] = refl
count-allocated p i (n ∷ ns) =
    count-if p grant_of (is_alloc n.kind) (allocation_at i n) (allocated_from (i + 1) ns)
    ∙ ap (λ v. alloc_weight p i n + v) (count-allocated p (i + 1) ns)

-- The list of the free slots counts them.
pub count-free_areas : (p : Box → Bool) (i : ℕ) (ns : List Node)
    → count_by p (map box_of (free_areas ns)) ≡ slot_sum (free_weight p) i ns
count-free_areas p i [] = refl
count-free_areas p i (n ∷ ns) =
    count-if p box_of (is_free n.kind) n.area (free_areas ns) ∙ ap (λ v. free_weight p i n + v) (count-free_areas p (i + 1) ns)

-- What is live among standing members.
pub live-Standing : (p : Grant → Bool) (ns : List Node) (s : Sequence) (b q : ℕ) (n : Numbered) → Standing ns s b q n
    → count_by p (live_among s.axis (spot s.axis q s.start) s.width (erase n)) ≡ weigh (λ k. alloc_weight p k (node_at ns k)) n
live-Standing p ns s b q End h = refl
live-Standing p ns s b q (Free j e rest) h =
    let none : alloc_weight p j (node_at ns j) ≡ 0 = rw h.0.kind refl in
    let on = ap (λ o. count_by p (live_among s.axis o s.width (erase rest))) (moved-spot s.axis q s.start e) in
    omega (arith, none, on, live-Standing p ns s j (q + e) rest h.2)
live-Standing p ns s b q (Alloc j g e rest) h =
    let one : alloc_weight p j (node_at ns j) ≡ one_if (p (grant (id_of j g) (member_box s q e))) = rw (h.0.kind, h.1, h.2) refl in
    let on = ap (λ o. count_by p (live_among s.axis o s.width (erase rest))) (moved-spot s.axis q s.start e) in
    omega (arith, one, on, count_by-cons p (grant (id_of j g) (member_box s q e)), live-Standing p ns s j (q + e) rest h.3)
live-Standing p ns s b q (Seq j e inner rest) h =
    let none : alloc_weight p j (node_at ns j) ≡ 0 = rw h.0.kind refl in
    let in_it = ap (λ o. count_by p (live_among (other s.axis) o e (erase inner))) (spot-other s.axis q s.start) in
    let on = ap (λ o. count_by p (live_among s.axis o s.width (erase rest))) (moved-spot s.axis q s.start e) in
    let both = ap (count_by p) (live_among-seq s.axis (spot s.axis q s.start) s.width e (erase inner) (erase rest)) in
    omega (
      arith,
      none,
      both,
      count_by-append p,
      in_it,
      on,
      live-Standing p ns (inside s j q e) no_slot s.start inner h.2,
      live-Standing p ns s j (q + e) rest h.3,
    )

-- What is free among standing members.
pub free-Standing : (p : Box → Bool) (ns : List Node) (s : Sequence) (b q : ℕ) (n : Numbered) → Standing ns s b q n
    → count_by p (free_among s.axis (spot s.axis q s.start) s.width (erase n)) ≡ weigh (λ k. free_weight p k (node_at ns k)) n
free-Standing p ns s b q End h = refl
free-Standing p ns s b q (Free j e rest) h =
    let one : free_weight p j (node_at ns j) ≡ one_if (p (member_box s q e)) = rw (h.0.kind, h.1) refl in
    let on = ap (λ o. count_by p (free_among s.axis o s.width (erase rest))) (moved-spot s.axis q s.start e) in
    omega (arith, one, on, count_by-cons p (member_box s q e), free-Standing p ns s j (q + e) rest h.2)
free-Standing p ns s b q (Alloc j g e rest) h =
    let none : free_weight p j (node_at ns j) ≡ 0 = rw h.0.kind refl in
    let on = ap (λ o. count_by p (free_among s.axis o s.width (erase rest))) (moved-spot s.axis q s.start e) in
    omega (arith, none, on, free-Standing p ns s j (q + e) rest h.3)
free-Standing p ns s b q (Seq j e inner rest) h =
    let none : free_weight p j (node_at ns j) ≡ 0 = rw h.0.kind refl in
    let in_it = ap (λ o. count_by p (free_among (other s.axis) o e (erase inner))) (spot-other s.axis q s.start) in
    let on = ap (λ o. count_by p (free_among s.axis o s.width (erase rest))) (moved-spot s.axis q s.start e) in
    let both = ap (count_by p) (free_among-seq s.axis (spot s.axis q s.start) s.width e (erase inner) (erase rest)) in
    omega (
      arith,
      none,
      both,
      count_by-append p,
      in_it,
      on,
      free-Standing p ns (inside s j q e) no_slot s.start inner h.2,
      free-Standing p ns s j (q + e) rest h.3,
    )

-- The live grants are those of the allocated slots.
pub live-Stands : (p : Grant → Bool) (ns : List Node) (s : Sequence) (n : Numbered) → Stands ns s n
    → count_by p (live_among s.axis (spot s.axis 0 s.start) s.width (erase n)) ≡ count_by p (map grant_of (allocated_from 0 ns))
live-Stands p ns s n h =
    live-Standing p ns s no_slot 0 n h.standing
    ∙ weigh-Stands (alloc_weight p) ns s n h (λ k x. alloc-light x.kind (one_if (p (grant (id_of k x.generation) (box_of x.area)))))
    ∙ sym (count-allocated p 0 ns)

-- The free boxes are those of the free slots.
pub free-Stands : (p : Box → Bool) (ns : List Node) (s : Sequence) (n : Numbered) → Stands ns s n
    → count_by p (free_among s.axis (spot s.axis 0 s.start) s.width (erase n)) ≡ count_by p (map box_of (free_areas ns))
free-Stands p ns s n h =
    free-Standing p ns s no_slot 0 n h.standing
    ∙ weigh-Stands (free_weight p) ns s n h (λ k x. free-light x.kind (one_if (p (box_of x.area))))
    ∙ sym (count-free_areas p 0 ns)
