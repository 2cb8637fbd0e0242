-- An atlas of one free slot.
use Rattle.std.proofs.Common.{ℕ, ◌<◌, ◌≤◌, ◌≡◌, ◌^◌, false, List, [], ◌∷◌, length, refl, ap, arith}
use Rattle.std.proofs.lemmas.Bool.{eq-eqb, ne_eqb}
use Rattle.std.proofs.lemmas.List.Elements.{All-nil}
use Rattle.atlas_model.specs.declared.geometry.Size.{Size}
use Rattle.atlas_model.specs.Boxes.{IsPositive}
use Rattle.atlas_model.specs.Pixels.{sides_of, options_of, rectangle_of}
use Rattle.atlas_model.specs.Choice.{AreValid}
use Rattle.atlas_model.specs.Changes.{fresh}
use Rattle.atlas_model.specs.States.{started}
use Rattle.atlas_search.specs.Numbers.{no_slot}
use Rattle.atlas_store.specs.Slots.Standing.{Stands, member_box}
use Rattle.atlas_search.specs.Tables.{is_used_at}
use Rattle.atlas_store.specs.Slots.Reading.{tree_of}
use Rattle.atlas_store.specs.Slots.Lists.{AreFiled}
use Rattle.atlas_store.specs.Slots.{nodes, node_at, rings, node_of, ring_of}
use Rattle.atlas_store.specs.Stored.{Shelf, Stored, Holds, IsAtlas, places_of, state_of}
use Rattle.atlas_store.specs.Store.Holdings.{IsDetachedLeaf}
use Rattle.atlas_store.specs.Store.Starts.{one_free_slot, detached_holding, start_holding}
use Rattle.atlas_store.proofs.SlotLemmas.Frames.{same-self, same-ne}
use Rattle.atlas_store.proofs.SlotLemmas.ReadTrees.{tree_of-Stands}
use Rattle.atlas_model.proofs.StepLemmas.SoundSteps.{fresh_well_formed, fresh_normal}
use Rattle.atlas_model.proofs.StepLemmas.CallerGrants.{whole_side}
use Rattle.atlas_store.proofs.StoreLemmas.ListedSlots.{recent-none}
use Rattle.atlas_store.proofs.StoreLemmas.TakenSlots.{AreFiled-one}
use Rattle.atlas_store.proofs.WalkLemmas.StoredAtlas.{nodes-below}
use Rattle.atlas_store.proofs.StoreLemmas.Sizes.{size_is}

pub record IsStart (v : Shelf) (size : Size) : Type 0 where
  pub slots : v.slots ≡ one_free_slot size ∷ []
  pub lists : (k : ℕ) → is_used_at v.heads k ≡ false
  pub unused : v.unused.number ≡ no_slot
  pub recent : v.recent.at.number ≡ no_slot
  pub valid : AreValid (options_of v.options)

-- The rectangle of the whole atlas.
whole_area : (size : Size) → IsPositive (sides_of size)
    → (one_free_slot size).area ≡ rectangle_of (member_box (detached_holding (sides_of size)).sequence 0 (sides_of size).height)
whole_area size h = grind (arith, whole_side)

whole_stands : (size : Size) → IsPositive (sides_of size)
    → Stands (nodes (one_free_slot size ∷ [])) (detached_holding (sides_of size)).sequence (detached_holding (sides_of size)).tree
whole_stands size h = grind (arith, whole_area, same-self, same-ne)

whole_holds : (v : Shelf) (size : Size) → IsStart v size → IsPositive (sides_of size) → (sides_of size).width < 2 ^ 31
    → (sides_of size).height < 2 ^ 31
    → Holds v (detached_holding (sides_of size))
whole_holds v size s h wide high =
    let one = AreFiled-one (options_of v.options) (node_of (one_free_slot size)) (ring_of (one_free_slot size)) v.heads v.unused refl
    s.lists s.unused in
    let filed : AreFiled (options_of v.options) (nodes v.slots) (rings v.slots) v.heads v.unused
    (places_of (λ i. 0) (detached_holding (sides_of size))) = rw s.slots one in
    grind (arith, whole_stands, recent-none v.recent (λ k. []) s.recent)

-- The one slot is a detached leaf.
pub whole_leaf : (v : Shelf) (size : Size) → IsStart v size → IsPositive (sides_of size)
    → (sides_of size).width < 2 ^ 31 → (sides_of size).height < 2 ^ 31
    → IsDetachedLeaf v 0 (detached_holding (sides_of size))
whole_leaf v size s h wide high = record {
  holds = whole_holds v size s h wide high;
  kind = ap (λ slots. (node_at (nodes slots) 0).kind) s.slots;
  detached = refl;
}

-- The state of an atlas of one slot.
module _ (v : Stored) (free_lists : ℕ → List ℕ)
    (holds : Holds v.shelf (start_holding free_lists (sides_of v.size)))
    (positive : IsPositive (sides_of v.size)) (one : length v.shelf.slots ≡ 1) where
  whole_tree : tree_of (nodes v.shelf.slots) ≡ fresh (sides_of v.size)
  whole_tree =
      tree_of-Stands (nodes v.shelf.slots) (start_holding free_lists (sides_of v.size)).sequence
      (start_holding free_lists (sides_of v.size)).tree
      (nodes-below v.shelf.slots (omega (arith, one))) refl holds.stands (omega (arith, same-self 0))

  pub whole_state : state_of
      (record { stored = v; turns = 0; capacity = 0 }) ≡ started (sides_of v.size) (options_of v.shelf.options) v.limit
  whole_state = grind (arith, whole_tree)

  -- Such an atlas keeps what each atlas keeps.
  pub whole_atlas : v.first.number ≡ 0 → v.used ≡ 1 → 1 ≤ v.limit → v.limit ≤ 16777216 → IsAtlas v
  whole_atlas first used least most =
      grind (arith, whole_state, size_is, eq-eqb, ne_eqb, fresh_well_formed, fresh_normal, All-nil)
