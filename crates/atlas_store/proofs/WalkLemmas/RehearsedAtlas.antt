-- A showing of a live id of an atlas.
use Rattle.std.proofs.Common.{ℕ, ◌<◌, ◌≡◌, Bool, false, List, Option, Some, None, inl, inr, option_map, length, sym, ap, subst, ◌∙◌, cond}
use Rattle.std.proofs.Common.{Contains, All}
use Rattle.std.proofs.lemmas.Bool.{cases_lt}
use Rattle.std.proofs.lemmas.List.{get_or_past}
use Rattle.std.proofs.lemmas.List.Elements.{All-get_or}
use Rattle.std.specs.Prelude.{slice_index_or}
use Rattle.std.specs.Option.{IfSome}
use Rattle.atlas_model.specs.Boxes.{Box}
use Rattle.atlas_model.specs.Pixels.{box_of, rectangle_of}
use Rattle.atlas_model.specs.Replies.{live_box}
use Rattle.atlas_model.specs.States.{after_freeing, free_in}
use Rattle.atlas_model.specs.Trees.{ids, slot_of, IsNormal}
use Rattle.atlas_model.specs.declared.geometry.Rectangle.{Rectangle}
use Rattle.atlas_search.specs.Numbers.{no_slot}
use Rattle.atlas_store.specs.declared.slots.NodeKind.TheVariants as kind
use Rattle.atlas_store.specs.Rehearsals.{AreShown}
use Rattle.atlas_store.specs.Slots.{nodes, node_at}
use Rattle.atlas_store.specs.Slots.Numbered.{erase}
use Rattle.atlas_store.specs.Slots.Reading.{numbered_of, tree_of}
use Rattle.atlas_store.specs.Slots.Rehearsing.{is_open, leaf_id, AreShownIn, IsRunIn, Shows}
use Rattle.atlas_store.specs.Visits.{named_area}
use Rattle.atlas_store.specs.Stored.{Stored, AtlasValue, IsAtlas, state_of}
use Rattle.atlas_store.proofs.SlotLemmas.ReadTrees.{numbered_of-Stands}
use Rattle.atlas_store.proofs.WalkLemmas.FreedAtlas.{live-named, named-parts, IsNameOf}
use Rattle.atlas_store.proofs.WalkLemmas.NamedSlots.{named-IsAtlas}
use Rattle.atlas_store.proofs.WalkLemmas.ShownAtlas.{run-in_atlas, shows-none}
use Rattle.atlas_store.proofs.WalkLemmas.StoredAtlas.{nodes-below, members-IsAtlas}

-- A box that is given by its rectangle.
if_box : (P : Box → Type 0) (o : Option Box) (r : Rectangle) → option_map rectangle_of o ≡ Some r → P (box_of r)
    → IfSome o P
if_box P None r e h = absurd (cc)
if_box P (Some b) r e h = let is : rectangle_of b ≡ r = cc in subst (λ q. P (box_of q)) (sym is) h

all-unmarked : (marks : List Bool) → All (λ m. m ≡ false) marks → (k : ℕ) → slice_index_or marks k false ≡ false
all-unmarked marks h k =
    elim (cases_lt k (length marks)) [
      | inl l ↦ All-get_or (λ m. m ≡ false) marks k false l h
      | inr l ↦ get_or_past marks k false l
    ]

module _ (v : Stored) (a : IsAtlas v) where
  abbrev pub value : (turns capacity : ℕ) → AtlasValue
  value turns capacity = record { stored = v; turns = turns; capacity = capacity }

  below : length (nodes v.shelf.slots) < no_slot
  below = nodes-below v.shelf.slots a.holds.short

  tree-is : numbered_of (nodes v.shelf.slots) ≡ a.holding.tree
  tree-is = numbered_of-Stands (nodes v.shelf.slots) a.holding.sequence a.holding.tree below a.holds.top a.holds.stands

  pub shown-in : (turns capacity : ℕ) (marks : List Bool) (held : ℕ → Bool) → AreShown (value turns capacity) marks held
      → AreShownIn (nodes v.shelf.slots) marks held a.holding.sequence a.holding.tree
  shown-in turns capacity marks held h =
      record {
        top = a.holds.top;
        stands = a.holds.stands;
        shown = subst (Shows (is_open (nodes v.shelf.slots) marks) held) tree-is h.shown;
      }

  pub in-shown : (turns capacity : ℕ) (marks : List Bool) (held : ℕ → Bool) → length marks ≡ length v.shelf.slots
      → AreShownIn (nodes v.shelf.slots) marks held a.holding.sequence a.holding.tree
      → AreShown (value turns capacity) marks held
  in-shown turns capacity marks held e h =
      record { each = e; shown = subst (Shows (is_open (nodes v.shelf.slots) marks) held) (sym tree-is) h.shown }

  -- At first nothing is shown.
  pub none-shown : (turns capacity : ℕ) (marks : List Bool) → length marks ≡ length v.shelf.slots
      → All (λ m. m ≡ false) marks → AreShown (value turns capacity) marks (λ k. false)
  none-shown turns capacity marks e h =
      let normal : IsNormal (erase a.holding.tree) = subst IsNormal (members-IsAtlas v a) a.sound.normal in
      in-shown turns capacity marks (λ k. false) e (record {
        top = a.holds.top;
        stands = a.holds.stands;
        shown = shows-none (nodes v.shelf.slots) marks a.holding.sequence no_slot 0 a.holding.tree (all-unmarked marks h)
            a.holds.stands.standing normal;
      })

  -- A run of open members is a free box of the atlas that is left.
  pub run-left : (turns capacity : ℕ) (marks : List Bool) (held : ℕ → Bool) (box : Box)
      → AreShownIn (nodes v.shelf.slots) marks held a.holding.sequence a.holding.tree
      → IsRunIn (is_open (nodes v.shelf.slots) marks) box false a.holding.sequence 0 a.holding.tree
      → Contains (free_in (after_freeing (state_of (value turns capacity)) held)) box
  run-left turns capacity marks held box h run =
      run-in_atlas v a (is_open (nodes v.shelf.slots) marks) held box turns capacity h.shown run

  -- The slot of a live id.
  module _ (id at : ℕ) (is : at ≡ slot_of id) (live : Contains (ids (tree_of (nodes v.shelf.slots)).members) id) where
    named : IsNameOf (nodes v.shelf.slots) id
    named = named-parts (nodes v.shelf.slots) id (live-named v a id live)

    pub named-alloc : (node_at (nodes v.shelf.slots) at).kind ≡ kind.Alloc
    named-alloc = rw is named.kind

    pub named-id : leaf_id (nodes v.shelf.slots) at ≡ id
    named-id = rw is named.names

    -- And its rectangle.
    pub named-box : (turns capacity : ℕ) (P : Box → Type 0) → P (box_of (node_at (nodes v.shelf.slots) at).area)
        → IfSome (live_box (state_of (value turns capacity)) id) P
    named-box turns capacity P h =
        let ns = nodes v.shelf.slots in
        let area : named_area ns id ≡ Some (node_at ns (slot_of id)).area = ap (λ b. cond b (Some (node_at ns (slot_of id)).area) None)
        (live-named v a id live) in
        if_box P (live_box (state_of (value turns capacity)) id) (node_at ns (slot_of id)).area (named-IsAtlas v a id ∙ area) (rw is at h)
