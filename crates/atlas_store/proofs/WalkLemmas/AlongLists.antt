-- What a callback is told of each item of a list that a walk shows.
use Rattle.std.proofs.Common.{ℕ, suc, ◌+◌, ◌%◌, ◌^◌, ◌<◌, ◌≡◌, Bool, true, false, cond, List, [], ◌∷◌, length, All}
use Rattle.std.proofs.Common.{Option, Some, None, option_map, refl, sym, ap, subst, ◌∙◌, arith}
use Rattle.std.proofs.lemmas.Bool.{false≢true}
use Rattle.std.proofs.lemmas.List.{length-map}
use Rattle.std.proofs.lemmas.List.Elements.{All-nil, All-cons, All-head, All-rest, All-weaker}
use Rattle.std.specs.Iterator.{Yields, CallableAtEachTurn}
use Rattle.atlas_model.specs.Boxes.{Box}
use Rattle.atlas_model.specs.Pixels.{box_of, rectangle_of}
use Rattle.atlas_store.specs.Slots.{nodes, node_at, use_count, node_of}
use Rattle.atlas_store.specs.Slots.Areas.{live_areas}
use Rattle.atlas_store.specs.Slots.Lists.{is_free}
use Rattle.atlas_store.specs.Slots.Numbered.{id_of}
use Rattle.atlas_store.specs.Stored.{Stored, IsAtlas, state_of}
use Rattle.atlas_store.specs.Visits.{is_alloc, allocation_at, allocated_from, free_areas}
use Rattle.atlas_store.specs.Walks.{first_of, IsShownArea, IsShownGrant}
use Rattle.atlas_model.specs.declared.allocation.Allocation.{Allocation}
use Rattle.atlas_model.specs.declared.geometry.Rectangle.{Rectangle}
use Rattle.atlas_store.specs.declared.slots.Node.{Node}
use Rattle.atlas_store.specs.declared.slots.NodeKind.{NodeKind}
use Rattle.atlas_store.specs.declared.slots.Slot.{Slot}
use Rattle.atlas_store.specs.declared.slots.NodeKind.TheVariants as kind
use Rattle.atlas_store.proofs.WalkLemmas.AreaSums.{live_areas-shown}
use Rattle.atlas_store.proofs.SlotLemmas.JoinWrites.{used-inside}
use Rattle.atlas_store.proofs.SlotLemmas.SlotAreas.{Stands-exact}
use Rattle.atlas_store.proofs.SlotLemmas.SlotMeasures.{Holds-span}
use Rattle.atlas_store.proofs.WalkLemmas.NamedSlots.{named-true, named-IsAtlas, is_alloc-true}

-- Where each item of a list has P, an item that comes has it.
item-has : {X : Type 0} (P : X → Type 0) (xs ys t u : List X) (x : X) → All P xs → Yields first_of xs ys t → t ≡ x ∷ u
    → P x
item-has P xs [] t u x all same e = All-head P x u (subst (All P) (same ∙ e) all)
item-has P xs (y ∷ ys) t u x all on e = item-has P on.0 ys t u x (All-rest P y on.0 xs on.1 all) on.2 e

-- So a callback that may ask P of each need not ask.
pub along-all : {X F : Type 0} (R : F → X → F → Type 0) (P : X → Type 0) (T : F → X → Type 0) (f : F) (xs : List X)
    → All P xs
    → CallableAtEachTurn first_of R (λ p x. P x → T p x) xs f
    → CallableAtEachTurn first_of R (λ p x. Unit {0} → T p x) xs f
along-all R P T f xs all h = record { at = λ ys t q x u y fo e _. h.at ys t q x u y fo e (item-has P xs ys t u x all y e) }

-- What holds of each allocated slot holds of the list of them.
each-allocated : (P : Allocation → Type 0) (all : List Node) (k : ℕ) (ns : List Node)
    → ((j : ℕ) → node_at all (k + j) ≡ node_at ns j)
    → ((i : ℕ) → is_alloc (node_at all i).kind ≡ true → P (allocation_at i (node_at all i)))
    → All P (allocated_from k ns)
each-allocated P all k [] at each = All-nil P
each-allocated P all k (n ∷ ns) at each = by_test (is_alloc n.kind) refl (each-allocated P all (k + 1) ns later each)
  where
    here : node_at all k ≡ n
    here = ap (λ j. node_at all j) (let e : k ≡ k + 0 = omega arith in e) ∙ at 0

    later : (j : ℕ) → node_at all (k + 1 + j) ≡ node_at ns j
    later j = ap (λ i. node_at all i) (let e : k + 1 + j ≡ k + suc j = omega arith in e) ∙ at (suc j)

    by_test : (b : Bool) → is_alloc n.kind ≡ b → All P (allocated_from (k + 1) ns)
        → All P (cond b (allocation_at k n ∷ allocated_from (k + 1) ns) (allocated_from (k + 1) ns))
    by_test true is rest = grind (arith, All-cons, here)
    by_test false is rest = rest

-- And what holds of the rectangle of each free slot.
each-free : (P : Rectangle → Type 0) (all : List Node) (k : ℕ) (ns : List Node)
    → ((j : ℕ) → node_at all (k + j) ≡ node_at ns j)
    → ((i : ℕ) → is_free (node_at all i).kind ≡ true → P (node_at all i).area) → All P (free_areas ns)
each-free P all k [] at each = All-nil P
each-free P all k (n ∷ ns) at each = by_test (is_free n.kind) refl (each-free P all (k + 1) ns later each)
  where
    here : node_at all k ≡ n
    here = ap (λ j. node_at all j) (let e : k ≡ k + 0 = omega arith in e) ∙ at 0

    later : (j : ℕ) → node_at all (k + 1 + j) ≡ node_at ns j
    later j = ap (λ i. node_at all i) (let e : k + 1 + j ≡ k + suc j = omega arith in e) ∙ at (suc j)

    by_test : (b : Bool) → is_free n.kind ≡ b → All P (free_areas ns)
        → All P (cond b (n.area ∷ free_areas ns) (free_areas ns))
    by_test true is rest = grind (arith, All-cons, here)
    by_test false is rest = rest

is_free-used : (k : NodeKind) → is_free k ≡ true → 0 < use_count k
is_free-used kind.Free h = omega arith
is_free-used k h = absurd (false≢true h)

-- A box whose rectangle is r is that of r.
box_is : (o : Option Box) (r : Rectangle) → option_map rectangle_of o ≡ Some r → o ≡ Some (box_of r)
box_is None r e = absurd (cc)
box_is (Some b) r e = let same : rectangle_of b ≡ r = cc in ap (λ (q : Rectangle). Some (box_of q)) same

module _ (v : Stored) (a : IsAtlas v) (turns : ℕ) where
  shown-slot : (i : ℕ) → is_alloc (node_at (nodes v.shelf.slots) i).kind ≡ true
      → IsShownGrant (state_of (record { stored = v; turns = turns; capacity = 0 })) (allocation_at i (node_at (nodes v.shelf.slots) i))
  shown-slot i is =
      let ns = nodes v.shelf.slots in
      let id = id_of i (node_at ns i).generation in
      let used : 0 < use_count (node_at ns i).kind = subst (λ k. 0 < use_count k) (sym (is_alloc-true _ is)) (omega arith) in
      let inside : i < length ns = used-inside ns i used in
      let small : i < 2 ^ 24 = omega (arith, inside, a.holds.short, length-map v.shelf.slots node_of) in
      let named = named-true ns i id small is refl in
      let area : option_map rectangle_of _ ≡ Some (node_at ns i).area =
      named-IsAtlas v a id
      ∙ ap (λ b. cond b (Some (node_at ns (id % 2 ^ 24)).area) None) named.0
      ∙ ap (λ k. Some (node_at ns k).area) named.1 in
      let box = box_is _ (node_at ns i).area area in
      let span = Holds-span v.shelf a.holding i a.holds used in
      record {
        live = rw box refl;
        box = box;
        exact = Stands-exact ns i a.holding.sequence a.holding.tree a.holds.stands used;
        measurable = span.measurable;
        nonempty = span.nonempty;
      }

  -- Each allocated slot shows a live id with its rectangle.
  pub shown-IsAtlas : (slots : List Slot) → slots ≡ v.shelf.slots
      → All (IsShownGrant (state_of (record { stored = v; turns = turns; capacity = 0 }))) (allocated_from 0 (nodes slots))
  shown-IsAtlas slots same =
      subst (λ l. All (IsShownGrant (state_of (record { stored = v; turns = turns; capacity = 0 }))) (allocated_from 0 (nodes l)))
      (sym same)
      (each-allocated (IsShownGrant (state_of (record { stored = v; turns = turns; capacity = 0 }))) (nodes v.shelf.slots) 0
      (nodes v.shelf.slots) (λ j. ap (λ i. node_at (nodes v.shelf.slots) i) (let e : 0 + j ≡ j = omega arith in e)) shown-slot)

  shown-area : (i : ℕ) → is_free (node_at (nodes v.shelf.slots) i).kind ≡ true
      → IsShownArea (node_at (nodes v.shelf.slots) i).area
  shown-area i is =
      let ns = nodes v.shelf.slots in
      let used = is_free-used (node_at ns i).kind is in
      let span = Holds-span v.shelf a.holding i a.holds used in
      record {
        exact = Stands-exact ns i a.holding.sequence a.holding.tree a.holds.stands used;
        measurable = span.measurable;
        nonempty = span.nonempty;
      }

  -- Each free slot shows an exact rectangle that may be measured.
  pub shown_areas-IsAtlas : (slots : List Slot) → slots ≡ v.shelf.slots → All IsShownArea (free_areas (nodes slots))
  shown_areas-IsAtlas slots same =
      subst (λ l. All IsShownArea (free_areas (nodes l))) (sym same)
      (each-free IsShownArea (nodes v.shelf.slots) 0 (nodes v.shelf.slots)
      (λ j. ap (λ i. node_at (nodes v.shelf.slots) i) (let e : 0 + j ≡ j = omega arith in e)) shown-area)

  -- Each allocated slot too.
  pub shown_live-IsAtlas : (slots : List Slot) → slots ≡ v.shelf.slots → All IsShownArea (live_areas (nodes slots))
  shown_live-IsAtlas slots same =
      live_areas-shown IsShownArea 0 (nodes slots)
      (All-weaker (IsShownGrant (state_of (record { stored = v; turns = turns; capacity = 0 })))
      (λ (x : Allocation). IsShownArea x.rectangle)
      (λ x w. record { exact = w.exact; measurable = w.measurable; nonempty = w.nonempty }) (allocated_from 0 (nodes slots))
      (shown-IsAtlas slots same))
