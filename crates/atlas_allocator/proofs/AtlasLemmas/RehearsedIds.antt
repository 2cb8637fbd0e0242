-- What a showing of the slot of a live id shows of the atlas.
use Rattle.std.proofs.Common.{ℕ, ◌≡◌, Bool, false, List, length, sym, ap, subst, ◌∙◌, Contains}
use Rattle.std.specs.Option.{IfSome}
use Rattle.atlas_model.specs.Boxes.{Box, IsInside}
use Rattle.atlas_model.specs.Changes.{and_id}
use Rattle.atlas_model.specs.Pixels.{box_of}
use Rattle.atlas_model.specs.Replies.{live_box}
use Rattle.atlas_model.specs.States.{IsLive, after_freeing, free_in}
use Rattle.atlas_model.specs.Trees.{IsCut, slot_of}
use Rattle.atlas_model.specs.declared.geometry.Rectangle.{Rectangle}
use Rattle.atlas_search.specs.Numbers.{no_slot}
use Rattle.atlas_store.specs.declared.slots.NodeKind.TheVariants as kind
use Rattle.atlas_store.specs.Rehearsals.{AreShown}
use Rattle.atlas_store.specs.Slots.{nodes, node_at}
use Rattle.atlas_store.specs.Slots.Numbered.{Numbered, erase}
use Rattle.atlas_store.specs.Slots.Rehearsing.{is_open, leaf_id, AreShownIn, IsRunIn}
use Rattle.atlas_store.specs.Slots.Standing.{Sequence, Stands}
use Rattle.atlas_store.specs.Stored.{Stored, AtlasValue, IsAtlas, state_of}
use Rattle.atlas_store.proofs.WalkLemmas.RehearsedAtlas.{value, shown-in, in-shown, run-left, named-alloc, named-id, named-box}

-- The slot of a live id, in an atlas that stores v.
pub record IsLiveSlot (v : Stored) (w : AtlasValue) (id at : ℕ) : Type 0 where
  pub atlas : IsAtlas v
  pub turns : ℕ
  pub capacity : ℕ
  pub view : record { stored = v; turns = turns; capacity = capacity } ≡ w
  pub names : at ≡ slot_of id
  pub live : IsLive (state_of w) id

module _ (v : Stored) (w : AtlasValue) (id at : ℕ) (x : IsLiveSlot v w id at) (marks : List Bool) where
  abbrev a : IsAtlas v
  a = x.atlas

  alive : IsLive (state_of (value v a x.turns x.capacity)) id
  alive = subst (λ u. IsLive (state_of u) id) (sym x.view) x.live

  held-in : (held : ℕ → Bool) → AreShown w marks held
      → AreShownIn (nodes v.shelf.slots) marks held a.holding.sequence a.holding.tree
  held-in held h = shown-in v a x.turns x.capacity marks held (subst (λ u. AreShown u marks held) (sym x.view) h)

  unheld : (held : ℕ → Bool) → held id ≡ false → held (leaf_id (nodes v.shelf.slots) at) ≡ false
  unheld held h = ap held (named-id v a id at x.names alive) ∙ h

  -- The slot is ready for the showing.
  abbrev pub IsReady : Type 0
  IsReady = (s : Sequence) × (n : Numbered) × (set : ℕ → Bool) × AreShownIn (nodes v.shelf.slots) marks set s n
      × (set (leaf_id (nodes v.shelf.slots) at) ≡ false)

  pub ready : (held : ℕ → Bool) → AreShown w marks held → held id ≡ false → IsReady
  ready held h none = (a.holding.sequence, a.holding.tree, held, held-in held h, unheld held none)

  pub allocated : (node_at (nodes v.shelf.slots) at).kind ≡ kind.Alloc
  allocated = named-alloc v a id at x.names alive

  pub as_many : length marks ≡ (state_of w).kept → length marks ≡ length v.shelf.slots
  as_many e = e ∙ ap (λ u. (state_of u).kept) (sym x.view)

  -- And after it.
  module _ (new : List Bool) (r : Rectangle) (long : length new ≡ length v.shelf.slots)
      (shown : (s : Sequence) (n : Numbered) (set : ℕ → Bool) → AreShownIn (nodes v.shelf.slots) marks set s n
      → set (leaf_id (nodes v.shelf.slots) at) ≡ false
      → AreShownIn (nodes v.shelf.slots) new (and_id set (leaf_id (nodes v.shelf.slots) at)) s n) where
    abbrev with_leaf : (ℕ → Bool) → ℕ → Type 0
    with_leaf held x = AreShownIn (nodes v.shelf.slots) new (and_id held x) a.holding.sequence a.holding.tree

    done-in : (held : ℕ → Bool) → AreShown w marks held → held id ≡ false → with_leaf held id
    done-in held h none =
        subst (with_leaf held) (named-id v a id at x.names alive)
        (shown a.holding.sequence a.holding.tree held (held-in held h) (unheld held none))

    pub rehearsed : (held : ℕ → Bool) → AreShown w marks held → held id ≡ false → AreShown w new (and_id held id)
    rehearsed held h none =
        subst (λ u. AreShown u new (and_id held id)) x.view
        (in-shown v a x.turns x.capacity new (and_id held id) long (done-in held h none))

    pub rehearsed-free : ((s : Sequence) (n : Numbered) (set : ℕ → Bool) → AreShownIn (nodes v.shelf.slots) marks set s n
        → set (leaf_id (nodes v.shelf.slots) at) ≡ false
        → IsRunIn (is_open (nodes v.shelf.slots) new) (box_of r) false s 0 n)
        → (held : ℕ → Bool) → AreShown w marks held → held id ≡ false
        → Contains (free_in (after_freeing (state_of w) (and_id held id))) (box_of r)
    rehearsed-free run held h none =
        subst (λ u. Contains (free_in (after_freeing (state_of u) (and_id held id))) (box_of r)) x.view
        (run-left v a x.turns x.capacity new (and_id held id) (box_of r) (done-in held h none)
        (run a.holding.sequence a.holding.tree held (held-in held h) (unheld held none)))

  pub rehearsed-around : (b : Box) → ((s : Sequence) (n : Numbered) → s.parent ≡ no_slot → Stands (nodes v.shelf.slots) s n
      → IsCut s.width (erase n) → IsInside (box_of (node_at (nodes v.shelf.slots) at).area) b)
      → IfSome (live_box (state_of w) id) (λ c. IsInside c b)
  rehearsed-around b around =
      subst (λ u. IfSome (live_box (state_of u) id) (λ c. IsInside c b)) x.view
      (named-box v a id at x.names alive x.turns x.capacity (λ c. IsInside c b)
      (around a.holding.sequence a.holding.tree a.holds.top a.holds.stands a.holds.cut))
