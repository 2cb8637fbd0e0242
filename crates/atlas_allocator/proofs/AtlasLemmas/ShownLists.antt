-- The lists of leaves that an atlas shows.
use Rattle.std.proofs.Common.{ℕ, suc, ◌+◌, ◌%◌, ◌^◌, ◌<◌, ◌≤◌, ◌≡◌, Bool, true, false, cond, List, [], ◌∷◌, map, length}
use Rattle.std.proofs.Common.{All, IfOk, Result, Ok, refl, sym, subst, arith}
use Rattle.std.proofs.lemmas.List.Elements.{All-nil, All-cons}
use Rattle.atlas_model.specs.Replies.{grant_of, AreRising, IsExact}
use Rattle.atlas_store.specs.Slots.{nodes, node_at, use_count}
use Rattle.atlas_store.specs.Slots.Lists.{is_free}
use Rattle.atlas_store.specs.Stored.{Stored, IsAtlas, state_of}
use Rattle.atlas_model.specs.Trees.{Grant}
use Rattle.atlas_store.specs.Visits.{AreGrants, AreFreeAreas, is_alloc, allocation_at, allocated_from, free_areas}
use Rattle.atlas_model.specs.declared.allocation.Allocation.{Allocation}
use Rattle.atlas_store.specs.declared.slots.Node.{Node}
use Rattle.atlas_store.specs.declared.slots.NodeKind.{NodeKind}
use Rattle.atlas_store.specs.declared.slots.Slot.{Slot}
use Rattle.std.proofs.Common.{Err}
use Rattle.atlas_store.specs.declared.slots.NodeKind.TheVariants as kind
use Rattle.atlas_store.proofs.SlotLemmas.SlotAreas.{Stands-exact}
use Rattle.atlas_store.proofs.WalkLemmas.StoredAtlas.{live-IsAtlas, free-IsAtlas, nodes-short}

-- What is equal to what a list shows shows it too.
pub listed : {X E L : Type 0} (items : X → L) (P : L → Type 0) (l : L) (r : Result X E) → IfOk r (λ x. items x ≡ l)
    → P l → IfOk r (λ x. P (items x))
listed items P l (Ok x) e h = subst P (sym e) h
listed items P l (Err x) e h = tt

abbrev HasExact : Allocation → Type 0
HasExact a = IsExact a.rectangle

-- Each used slot stores an exact rectangle.
abbrev AreExact : List Node → Type 0
AreExact ns = (i : ℕ) → 0 < use_count (node_at ns i).kind → IsExact (node_at ns i).area

exact-allocated : (k : ℕ) (ns : List Node) → AreExact ns → All HasExact (allocated_from k ns)
exact-allocated k [] exact = All-nil HasExact
exact-allocated k (n ∷ ns) exact = by_kind n.kind refl (exact-allocated (k + 1) ns (λ i used. exact (suc i) used))
  where
    by_kind : (d : NodeKind) → n.kind ≡ d → All HasExact (allocated_from (k + 1) ns)
        → All HasExact (cond (is_alloc d) (allocation_at k n ∷ allocated_from (k + 1) ns) (allocated_from (k + 1) ns))
    by_kind kind.Alloc e rest =
        All-cons HasExact (allocation_at k n) (allocated_from (k + 1) ns) (exact 0 (subst (λ d. 0 < use_count d) (sym e) (omega arith)))
        rest
    by_kind kind.Container e rest = rest
    by_kind kind.Free e rest = rest
    by_kind kind.Unused e rest = rest

exact-free : (ns : List Node) → AreExact ns → All IsExact (free_areas ns)
exact-free [] exact = All-nil IsExact
exact-free (n ∷ ns) exact = by_kind n.kind refl (exact-free ns (λ i used. exact (suc i) used))
  where
    by_kind : (d : NodeKind) → n.kind ≡ d → All IsExact (free_areas ns)
        → All IsExact (cond (is_free d) (n.area ∷ free_areas ns) (free_areas ns))
    by_kind kind.Free e rest = All-cons IsExact n.area (free_areas ns) (exact 0 (subst (λ d. 0 < use_count d) (sym e) (omega arith))) rest
    by_kind kind.Container e rest = rest
    by_kind kind.Alloc e rest = rest
    by_kind kind.Unused e rest = rest

abbrev IsAbove : ℕ → Grant → Type 0
IsAbove b g = b < g.id % 2 ^ 24

-- Slots from k on are above those before.
above-allocated : (b k : ℕ) (ns : List Node) → b < k → k + length ns ≤ 2 ^ 24
    → All (IsAbove b) (map grant_of (allocated_from k ns))
above-allocated b k [] l short = All-nil (IsAbove b)
above-allocated b k (n ∷ ns) l short = grind (arith, above-allocated b (k + 1) ns (omega arith) (omega arith))

rising-allocated : (k : ℕ) (ns : List Node) → k + length ns ≤ 2 ^ 24 → AreRising (map grant_of (allocated_from k ns))
rising-allocated k [] short = tt
rising-allocated k (n ∷ ns) short =
    by_test (is_alloc n.kind) (rising-allocated (k + 1) ns (omega arith)) (above-allocated k (k + 1) ns (omega arith) (omega arith))
  where
    by_test : (t : Bool) → AreRising (map grant_of (allocated_from (k + 1) ns))
        → All (IsAbove k) (map grant_of (allocated_from (k + 1) ns))
        → AreRising (map grant_of (cond t (allocation_at k n ∷ allocated_from (k + 1) ns) (allocated_from (k + 1) ns)))
    by_test true rest above = grind arith
    by_test false rest above = rest

module _ (v : Stored) (a : IsAtlas v) (turns : ℕ) (slots : List Slot) (same : slots ≡ v.shelf.slots) where
  exact : AreExact (nodes v.shelf.slots)
  exact = λ i used. Stands-exact (nodes v.shelf.slots) i a.holding.sequence a.holding.tree a.holds.stands used

  -- The allocated slots are the live grants.
  pub grants-IsAtlas : AreGrants
      (state_of (record { stored = v; turns = turns; capacity = 0 })) (allocated_from 0 (nodes slots))
  grants-IsAtlas = grind (arith, nodes-short, live-IsAtlas, rising-allocated, exact, exact-allocated)

  -- The free slots are the free boxes.
  pub free_areas-IsAtlas : AreFreeAreas
      (state_of (record { stored = v; turns = turns; capacity = 0 })) (free_areas (nodes slots))
  free_areas-IsAtlas = grind (arith, free-IsAtlas, exact, exact-free)
