-- The areas of the leaves that slots hold, added up.
use Rattle.std.proofs.Common.{rules, ℕ, ◌+◌, ◌*◌, ◌<◌, ◌^◌, ◌≡◌, Bool, true, false, cond, List, [], ◌∷◌, map, All}
use Rattle.std.proofs.Common.{get_or, drop, length, refl, sym, ap, subst, ◌∙◌, arith}
use Rattle.std.proofs.lemmas.List.{at_drop_more}
use Rattle.std.proofs.lemmas.List.Elements.{All-nil, All-cons, All-head, All-rest}
use Rattle.std.proofs.lemmas.List.Sums.{sum_by-cons, sum_by-append}
use Rattle.std.proofs.lemmas.Nat.{mul-lt}
use Rattle.std.specs.List.{sum_by}
use Rattle.atlas_model.specs.Boxes.{Axis, Sides, area, other, side}
use Rattle.atlas_model.specs.Boxes.Axis.{Horizontal, Vertical}
use Rattle.atlas_model.specs.Pixels.{box_of, sides_of}
use Rattle.atlas_model.specs.Replies.{grant_of}
use Rattle.atlas_store.specs.Slots.{nodes, node_of}
use Rattle.atlas_store.specs.Slots.Areas.{live_areas, area_sum}
use Rattle.atlas_store.specs.Slots.Reading.{tree_of}
use Rattle.atlas_model.specs.States.{live_in, free_in}
use Rattle.atlas_store.specs.Stored.{Stored, IsAtlas, state_of}
use Rattle.atlas_model.specs.Trees.{Grant, live, free_boxes}
use Rattle.atlas_store.specs.Visits.{is_alloc, allocation_at, allocated_from, free_areas}
use Rattle.atlas_store.specs.Walks.{IsShownArea}
use Rattle.atlas_store.specs.contracts.slots.NodeKind.{the_type}
use Rattle.atlas_model.specs.declared.allocation.Allocation.{Allocation}
use Rattle.atlas_model.specs.declared.geometry.Rectangle.{Rectangle}
use Rattle.atlas_store.specs.declared.slots.Node.{Node}
use Rattle.atlas_store.specs.declared.slots.Slot.{Slot}
use denote.Enum.Bare.{sameb}
use Rattle.atlas_store.specs.declared.slots.NodeKind.TheVariants as kind
use Rattle.atlas_model.proofs.TreeLemmas.BoxLists.{areas_of_boxes}
use Rattle.atlas_model.proofs.ListLemmas.CountSums.{sum_by-counts, sum_by-map}
use Rattle.atlas_store.proofs.WalkLemmas.StoredAtlas.{live-IsAtlas, free-IsAtlas, tree_of-IsAtlas}
use Rattle.atlas_store.proofs.WalkLemmas.WalkSteps.{not_alloc, free-next, free-pass}

-- One slot more.

pub record IsMoreArea (L : List Node → List Rectangle) (xs : List Slot) (i : ℕ) (d : Slot) : Type 0 where
  pub list : L (nodes (drop i xs)) ≡ (node_of (get_or xs i d)).area ∷ L (nodes (drop (i + 1) xs))

pub record IsPastArea (L : List Node → List Rectangle) (xs : List Slot) (i : ℕ) : Type 0 where
  pub list : L (nodes (drop i xs)) ≡ L (nodes (drop (i + 1) xs))

module _ (xs : List Slot) (i : ℕ) (d : Slot) (low : i < length xs) where
  pub free-more : (node_of (get_or xs i d)).kind ≡ kind.Free → IsMoreArea free_areas xs i d
  free-more is = record { list = free-next xs i d low is }

  pub free-past : (b : Bool) → b ≡ sameb the_type (node_of (get_or xs i d)).kind kind.Free → b ≡ false
      → IsPastArea free_areas xs i
  free-past b test is = record { list = free-pass xs i d b low test is }

  pub live-more : (node_of (get_or xs i d)).kind ≡ kind.Alloc → IsMoreArea live_areas xs i d
  live-more is =
      record {
        list =
            at_drop_more (λ ys. live_areas (nodes ys)) xs i d low
            ∙ ap (λ k. cond (is_alloc k) ((node_of (get_or xs i d)).area ∷ live_areas (nodes (drop (i + 1) xs)))
            (live_areas (nodes (drop (i + 1) xs)))) is;
      }

  pub live-past : (b : Bool) → b ≡ sameb the_type (node_of (get_or xs i d)).kind kind.Alloc → b ≡ false
      → IsPastArea live_areas xs i
  live-past b test is =
      record {
        list =
            at_drop_more (λ ys. live_areas (nodes ys)) xs i d low
            ∙ ap (λ b. cond b ((node_of (get_or xs i d)).area ∷ live_areas (nodes (drop (i + 1) xs)))
            (live_areas (nodes (drop (i + 1) xs)))) (not_alloc _ b test is);
      }

module _ (L : List Node → List Rectangle) (xs : List Slot) (i : ℕ) (d : Slot) where
  module _ (more : IsMoreArea L xs i d) where
    pub more-shown : All IsShownArea (L (nodes (drop i xs))) → IsShownArea (node_of (get_or xs i d)).area
    more-shown all = All-head IsShownArea _ _ (subst (All IsShownArea) more.list all)

    pub more-rest : All IsShownArea (L (nodes (drop i xs))) → All IsShownArea (L (nodes (drop (i + 1) xs)))
    more-rest all = All-rest IsShownArea _ _ _ more.list all

    pub more-sum : (sum next part all : ℕ) → sum + area_sum (L (nodes (drop i xs))) ≡ all
        → part ≡ area (box_of (node_of (get_or xs i d)).area) → next ≡ sum + part
        → next + area_sum (L (nodes (drop (i + 1) xs))) ≡ all
    more-sum sum next part all so_far this is =
        omega (
          arith,
          ap area_sum more.list,
          sum_by-cons (λ (r : Rectangle). area (box_of r)) (node_of (get_or xs i d)).area (L (nodes (drop (i + 1) xs))),
        )

module _ (L : List Node → List Rectangle) (xs : List Slot) (i : ℕ) (past : IsPastArea L xs i) where
  pub past-rest : All IsShownArea (L (nodes (drop i xs))) → All IsShownArea (L (nodes (drop (i + 1) xs)))
  past-rest all = subst (All IsShownArea) past.list all

  pub past-sum : (sum next all : ℕ) → sum + area_sum (L (nodes (drop i xs))) ≡ all → next ≡ sum
      → next + area_sum (L (nodes (drop (i + 1) xs))) ≡ all
  past-sum sum next all so_far is = omega (arith, ap area_sum past.list)

-- All slots.

abbrev grant_area : Grant → ℕ
grant_area g = area g.box

live_sum-list : (k : ℕ) (ns : List Node)
    → area_sum (live_areas ns) ≡ sum_by grant_area (map grant_of (allocated_from k ns))
live_sum-list k [] = refl
live_sum-list k (n ∷ ns) = by_test (is_alloc n.kind) (live_sum-list (k + 1) ns)
  where
    by_test : (b : Bool) → area_sum (live_areas ns) ≡ sum_by grant_area (map grant_of (allocated_from (k + 1) ns))
        → area_sum (cond b (n.area ∷ live_areas ns) (live_areas ns))
        ≡ sum_by grant_area (map grant_of (cond b (allocation_at k n ∷ allocated_from (k + 1) ns) (allocated_from (k + 1) ns)))
    by_test true h =
        omega (
          arith,
          h,
          sum_by-cons (λ (r : Rectangle). area (box_of r)) n.area (live_areas ns),
          sum_by-cons grant_area (grant_of (allocation_at k n)) (map grant_of (allocated_from (k + 1) ns)),
        )
    by_test false h = h

-- What holds of each allocated grant's rectangle holds of the rectangles.
pub live_areas-shown : (P : Rectangle → Type 0) (k : ℕ) (ns : List Node)
    → All (λ (a : Allocation). P a.rectangle) (allocated_from k ns) → All P (live_areas ns)
live_areas-shown P k [] h = All-nil P
live_areas-shown P k (n ∷ ns) h = by_test (is_alloc n.kind) (live_areas-shown P (k + 1) ns) h
  where
    by_test : (b : Bool) → (All (λ (a : Allocation). P a.rectangle) (allocated_from (k + 1) ns) → All P (live_areas ns))
        → All (λ (a : Allocation). P a.rectangle) (cond b (allocation_at k n ∷ allocated_from (k + 1) ns) (allocated_from (k + 1) ns))
        → All P (cond b (n.area ∷ live_areas ns) (live_areas ns))
    by_test true rest all =
        All-cons P n.area (live_areas ns) (All-head (λ (a : Allocation). P a.rectangle) _ _ all)
        (rest (All-rest (λ (a : Allocation). P a.rectangle) (allocation_at k n) _ _ refl all))
    by_test false rest all = rest all

sides_small : (x : Axis) (s : Sides) → side x s < 2 ^ 31 → side (other x) s < 2 ^ 31
    → (s.width < 2 ^ 31) × (s.height < 2 ^ 31)
sides_small Horizontal s h k = (h, k)
sides_small Vertical s h k = (k, h)

-- Of an atlas.
module _ (v : Stored) (a : IsAtlas v) (turns : ℕ) where
  pub live_sum-IsAtlas : area_sum (live_areas (nodes v.shelf.slots)) ≡ sum_by (λ (g : Grant). area g.box)
      (live_in (state_of (record { stored = v; turns = turns; capacity = 0 })))
  live_sum-IsAtlas = live_sum-list 0 (nodes v.shelf.slots) ∙ sum_by-counts grant_area
      (map grant_of (allocated_from 0 (nodes v.shelf.slots))) (live (sides_of v.size) (tree_of (nodes v.shelf.slots))) (live-IsAtlas v a)

  pub free_sum-IsAtlas : area_sum
      (free_areas (nodes v.shelf.slots)) ≡ sum_by area (free_in (state_of (record { stored = v; turns = turns; capacity = 0 })))
  free_sum-IsAtlas = sym (sum_by-map area box_of (free_areas (nodes v.shelf.slots))) ∙
      sum_by-counts area (map box_of (free_areas (nodes v.shelf.slots))) (free_boxes (sides_of v.size) (tree_of (nodes v.shelf.slots)))
      (free-IsAtlas v a)

  pub areas-IsAtlas : sum_by (λ (g : Grant). area g.box) (live_in (state_of (record { stored = v; turns = turns; capacity = 0 }))) + sum_by
      area (free_in (state_of (record { stored = v; turns = turns; capacity = 0 })))
      ≡ (sides_of v.size).width * (sides_of v.size).height
  areas-IsAtlas = search (rules, areas_of_boxes, sum_by-append, sum_by-map)

  -- Both sides are below 2 ^ 31.
  pub small-IsAtlas : ((sides_of v.size).width < 2 ^ 31) × ((sides_of v.size).height < 2 ^ 31)
  small-IsAtlas = grind (arith, tree_of-IsAtlas, sides_small)

  area_fits : (sides_of v.size).width * (sides_of v.size).height < 2 ^ 31 * 2 ^ 31
  area_fits = mul-lt _ _ _ _ small-IsAtlas.0 small-IsAtlas.1

  pub live_sum-fits : area_sum (live_areas (nodes v.shelf.slots)) < 2 ^ 64
  live_sum-fits = omega (arith, area_fits, live_sum-IsAtlas, areas-IsAtlas)

  pub free_sum-fits : area_sum (free_areas (nodes v.shelf.slots)) < 2 ^ 64
  free_sum-fits = omega (arith, area_fits, free_sum-IsAtlas, areas-IsAtlas)
