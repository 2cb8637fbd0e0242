-- The slot that an id names, and the live grant of that id.
use Rattle.std.proofs.Common.{ℕ, zero, suc, ◌+◌, ◌/◌, ◌%◌, ◌^◌, ◌<◌, ◌≤◌, ◌≡◌, ◌&&◌, ◌==◌, Bool, true, false, cond, []}
use Rattle.std.proofs.Common.{List, ◌∷◌, length, get_or, Option, Some, None, IsSome, option_map, refl, sym, ap}
use Rattle.std.proofs.Common.{subst, ◌∙◌, arith}
use Rattle.std.proofs.lemmas.Bool.{and_parts, and_from, eqb-true, eq-eqb, false≢true}
use Rattle.std.proofs.lemmas.List.{length-map}
use Rattle.std.specs.List.{count_by}
use Rattle.atlas_model.specs.Boxes.{Box, same_box}
use Rattle.atlas_model.specs.Pixels.{box_of, rectangle_of, sides_of}
use Rattle.atlas_store.specs.Slots.{nodes, node_at, use_count, node_of}
use Rattle.atlas_store.specs.Slots.Numbered.{id_of}
use Rattle.atlas_store.specs.Slots.Reading.{tree_of}
use Rattle.atlas_store.specs.Stored.{Stored, IsAtlas}
use Rattle.atlas_model.specs.Trees.{Grant, grant, live}
use Rattle.atlas_store.specs.Visits.{is_alloc, is_named, named_area}
use Rattle.atlas_model.specs.declared.geometry.Rectangle.{Rectangle}
use Rattle.atlas_store.specs.declared.slots.Node.{Node}
use Rattle.atlas_store.specs.declared.slots.NodeKind.{NodeKind}
use Rattle.atlas_store.specs.declared.slots.Slot.{Slot}
use Rattle.std.specs.Prelude.{find}
use Rattle.atlas_store.specs.declared.slots.NodeKind.TheVariants as kind
use Rattle.atlas_model.proofs.TreeLemmas.TreeBasics.{one_if, same_box-true, same_box-itself}
use Rattle.atlas_model.proofs.ListLemmas.ListCounts.{count_by-cons}
use Rattle.atlas_model.proofs.ListLemmas.CallerLemmas.{uncounted-find}
use Rattle.atlas_store.proofs.SlotLemmas.JoinWrites.{used-inside}
use Rattle.atlas_store.proofs.SlotLemmas.SlotAreas.{Stands-exact}
use Rattle.atlas_store.proofs.SlotLemmas.SlotSums.{slot_sum}
use Rattle.atlas_store.proofs.SlotLemmas.LeafCounts.{alloc_weight, count-allocated}
use Rattle.atlas_store.proofs.WalkLemmas.StoredAtlas.{live-IsAtlas}

module _ {X : Type 0} where
  -- What is found passes, and counts for each weaker test.
  find-some : (p q : X → Bool) (xs : List X) (y : X) → find p xs ≡ Some y → (p y ≡ true → q y ≡ true)
      → (p y ≡ true) × (1 ≤ count_by q xs)
  find-some p q [] y h weaker = absurd (cc)
  find-some p q (x ∷ xs) y h weaker = grind (arith, one_if, count_by-cons, find-some p q xs y)

-- A slot weighs no more than all.
slot_sum-at : (w : ℕ → Node → ℕ) (i j : ℕ) (ns : List Node) → j < length ns → w (i + j) (node_at ns j) ≤ slot_sum w i ns
slot_sum-at w i j [] l = absurd (omega arith)
slot_sum-at w i zero (n ∷ ns) l = grind arith
slot_sum-at w i (suc j) (n ∷ ns) l = grind (arith, slot_sum-at w (i + 1) j ns (omega arith))

pub record WeighsAt (w : ℕ → Node → ℕ) (i : ℕ) (ns : List Node) : Type 0 where
  pub at : ℕ
  pub inside : at < length ns
  pub weighs : 1 ≤ w (i + at) (node_at ns at)

-- Where there is a sum, some slot weighs.
slot_sum-some : (w : ℕ → Node → ℕ) (i : ℕ) (ns : List Node) → 1 ≤ slot_sum w i ns → WeighsAt w i ns
slot_sum-some w i [] h = absurd (omega arith)
slot_sum-some w i (n ∷ ns) h = by_weight (w i n) refl (slot_sum-some w (i + 1) ns)
  where
    by_weight : (x : ℕ) → w i n ≡ x → (1 ≤ slot_sum w (i + 1) ns → WeighsAt w (i + 1) ns) → WeighsAt w i (n ∷ ns)
    by_weight zero e rest =
        let later = rest (omega arith) in
        let on : i + 1 + later.at ≡ i + suc later.at = omega arith in
        record {
          at = suc later.at;
          inside = let l = later.inside in omega arith;
          weighs =
              subst (λ k. 1 ≤ w k (node_at ns later.at)) on later.weighs;
        }
    by_weight (suc x) e rest = record {
      at = 0;
      inside = omega arith;
      weighs = subst (λ k. 1 ≤ w k n) (let e : i ≡ i + 0 = omega arith in e)
          (omega arith);
    }

-- The same for all slots.
all-at : (w : ℕ → Node → ℕ) (j : ℕ) (ns : List Node) → j < length ns → w j (node_at ns j) ≤ slot_sum w 0 ns
all-at w j ns l = grind (arith, slot_sum, slot_sum-at)

all-some : (w : ℕ → Node → ℕ) (ns : List Node) → 1 ≤ slot_sum w 0 ns
    → (j : ℕ) × (j < length ns) × (1 ≤ w j (node_at ns j))
all-some w ns h =
    let there = slot_sum-some w 0 ns h in
    (there.at, there.inside, subst (λ k. 1 ≤ w k (node_at ns there.at)) (let e : 0 + there.at ≡ there.at = omega arith in e) there.weighs)

abbrev has_grant_id : ℕ → Grant → Bool
has_grant_id id g = g.id == id

abbrev has_both : ℕ → Box → Grant → Bool
has_both id b g = (g.id == id) && same_box g.box b

pub id_of-parts : (id : ℕ) → id_of (id % 2 ^ 24) (id / 2 ^ 24) ≡ id
id_of-parts id = omega arith

pub is_alloc-true : (k : NodeKind) → is_alloc k ≡ true → k ≡ kind.Alloc
is_alloc-true kind.Alloc h = refl
is_alloc-true k h = absurd (false≢true h)

-- What weighs is allocated, and passes.
weighs-parts : (b c : Bool) → 1 ≤ cond b (one_if c) 0 → (b ≡ true) × (c ≡ true)
weighs-parts true true h = (refl, refl)
weighs-parts b c h = absurd (omega arith)

-- An allocated slot is named by its id.
pub named-true : (ns : List Node) (i : ℕ) (id : ℕ) → i < 2 ^ 24 → is_alloc (node_at ns i).kind ≡ true
    → id_of i (node_at ns i).generation ≡ id
    → (is_named ns id ≡ true) × (id % 2 ^ 24 ≡ i)
named-true ns i id l is e = grind arith

-- No slot is named by an id that counts nothing.
named-false : (ns : List Node) (id : ℕ) → slot_sum (alloc_weight (has_grant_id id)) 0 ns ≡ 0 → is_named ns id ≡ false
named-false ns id none =
    grind (
      arith,
      and_parts,
      is_alloc-true,
      eqb-true,
      eq-eqb,
      used-inside ns,
      id_of-parts id,
      one_if,
      all-at (alloc_weight (has_grant_id id)) (id % 2 ^ 24) ns,
    )

-- A live id has a rectangle.
pub not_missed : (o : Option Box) → IsSome o → option_map rectangle_of o ≡ None → ⊥
not_missed o some e = grind arith

-- The node that a slot shows.
node_at-slot : (slots : List Slot) (i : ℕ) (s : Slot) → i < length slots → s ≡ get_or slots i s
    → node_at (nodes slots) i ≡ node_of s
node_at-slot [] i s l e = absurd (omega arith)
node_at-slot (x ∷ xs) zero s l e = ap node_of (sym e)
node_at-slot (x ∷ xs) (suc i) s l e = node_at-slot xs i s (omega arith) e

module _ (v : Stored) (a : IsAtlas v) (id : ℕ) where
  counted : (p : Grant → Bool)
      → count_by p (live (sides_of v.size) (tree_of (nodes v.shelf.slots))) ≡ slot_sum (alloc_weight p) 0 (nodes v.shelf.slots)
  counted p = sym (live-IsAtlas v a p) ∙ count-allocated p 0 (nodes v.shelf.slots)

  by_found : (o : Option Grant) → find (has_grant_id id) (live (sides_of v.size) (tree_of (nodes v.shelf.slots))) ≡ o
      → option_map rectangle_of (option_map (λ (g : Grant). g.box) o) ≡ named_area (nodes v.shelf.slots) id
  by_found None e =
      let ns = nodes v.shelf.slots in
      let no_name : is_named ns id ≡ false = named-false ns id (sym (counted (has_grant_id id)) ∙ uncounted-find (has_grant_id id) _ e) in
      sym (ap (λ b. cond b (Some (node_at ns (id % 2 ^ 24)).area) None) no_name)
  by_found (Some x) e =
      let ns = nodes v.shelf.slots in
      let both = find-some (has_grant_id id) (has_both id x.box) _ x e (λ h. and_from _ _ h (same_box-itself x.box)) in
      let there = all-some (alloc_weight (has_both id x.box)) ns (subst (λ k. 1 ≤ k) (counted (has_both id x.box)) both.1) in
      let i = there.0 in
      let parts = weighs-parts (is_alloc (node_at ns i).kind) (has_both id x.box
      (grant (id_of i (node_at ns i).generation) (box_of (node_at ns i).area))) there.2 in
      let passes = and_parts (id_of i (node_at ns i).generation == id) (same_box (box_of (node_at ns i).area) x.box) parts.1 in
      let small : i < 2 ^ 24 = omega (arith, there.1, a.holds.short, length-map v.shelf.slots node_of) in
      let named = named-true ns i id small parts.0 (eqb-true _ _ passes.0) in
      let used : 0 < use_count (node_at ns i).kind = subst (λ k. 0 < use_count k) (sym (is_alloc-true _ parts.0)) (omega arith) in
      let exact : (node_at ns i).area ≡ rectangle_of (box_of (node_at ns i).area) =
      Stands-exact ns i a.holding.sequence a.holding.tree a.holds.stands used in
      let area : (node_at ns i).area ≡ rectangle_of x.box = exact ∙ ap rectangle_of (same_box-true _ _ passes.1) in
      let here : (node_at ns (id % 2 ^ 24)).area ≡ rectangle_of x.box = ap (λ k. (node_at ns k).area) named.1 ∙ area in
      sym (ap (λ b. cond b (Some (node_at ns (id % 2 ^ 24)).area) None) named.0 ∙ ap (λ (r : Rectangle). Some r) here)

  -- The rectangle of an id is that of the slot that it names.
  pub named-IsAtlas : option_map rectangle_of (option_map (λ (g : Grant). g.box)
      (find (λ g. g.id == id) (live (sides_of v.size) (tree_of (nodes v.shelf.slots)))))
      ≡ named_area (nodes v.shelf.slots) id
  named-IsAtlas = by_found (find (has_grant_id id) (live (sides_of v.size) (tree_of (nodes v.shelf.slots)))) refl

  pub named-found : (slots : List Slot) (at : ℕ) (s : Slot) → slots ≡ v.shelf.slots → is_named (nodes slots) id ≡ true
      → at ≡ id % 2 ^ 24 → at < length slots
      → s ≡ get_or v.shelf.slots at s
      → option_map rectangle_of (option_map (λ (g : Grant). g.box) (find (λ g. g.id == id)
      (live (sides_of v.size) (tree_of (nodes v.shelf.slots)))))
      ≡ Some s.area
  named-found slots at s same named is inside read = grind (arith, node_at-slot, at, inside, named-IsAtlas)

  pub named-missed : (slots : List Slot) → slots ≡ v.shelf.slots → is_named (nodes slots) id ≡ false
      → option_map rectangle_of (option_map (λ (g : Grant). g.box) (find (λ g. g.id == id)
      (live (sides_of v.size) (tree_of (nodes v.shelf.slots)))))
      ≡ None
  named-missed slots same missed = grind (arith, named-IsAtlas)
