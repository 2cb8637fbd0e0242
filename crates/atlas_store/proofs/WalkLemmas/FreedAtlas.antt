-- Freeing the box of a live id in an atlas.
use Rattle.std.proofs.Common.{ℕ, ◌+◌, ◌-◌, ◌/◌, ◌^◌, ◌<◌, ◌≤◌, ◌≡◌, ◌↔◌, Bool, true, false, List, Option, Some, None}
use Rattle.std.proofs.Common.{length, refl, sym, ap, subst, ◌∙◌, arith, Contains}
use Rattle.std.proofs.lemmas.Bool.{and_parts, eqb-true, false≢true}
use Rattle.std.specs.Option.{IfNone, is_some}
use Rattle.atlas_model.specs.Changes.{nf, mark, only, release}
use Rattle.atlas_model.specs.Pixels.{options_of}
use Rattle.atlas_store.specs.Slots.{nodes, node_at, use_count}
use Rattle.atlas_search.specs.Numbers.{no_slot}
use Rattle.atlas_store.specs.Slots.Numbered.{Numbered, tally, first_slot, erase, id_of}
use Rattle.atlas_store.specs.Slots.Reading.{tree_of}
use Rattle.atlas_model.specs.States.{State, IsSound, after_freeing, used_in}
use Rattle.atlas_store.specs.Store.Freeing.{IsFreeable, IsFreed}
use Rattle.atlas_store.specs.Stored.{Stored, Shelf, Holding, IsAtlas, state_of}
use Rattle.atlas_model.specs.Trees.{Tree, ids, slot_of}
use Rattle.atlas_store.specs.Visits.{is_named}
use Rattle.atlas_store.specs.declared.slots.Node.{Node}
use Rattle.atlas_store.specs.declared.slots.Slot.{Slot}
use Rattle.std.specs.Option.{IfSome}
use Rattle.atlas_store.specs.declared.slots.NodeKind.TheVariants as kind
use Rattle.atlas_model.specs.Trees as tree
use Rattle.atlas_store.specs.Slots.Numbered.{End}
use Rattle.atlas_store.proofs.SlotLemmas.Frames.{same-self}
use Rattle.atlas_store.proofs.SlotLemmas.JoinWrites.{none-unused, used-inside}
use Rattle.atlas_store.proofs.SlotLemmas.ReadTrees.{HasMember, tree_of-Stands}
use Rattle.atlas_store.proofs.SlotLemmas.Normal.{numbers-erase}
use Rattle.atlas_model.proofs.TreeLemmas.TreeCounts.{release_nodes}
use Rattle.atlas_model.proofs.StepLemmas.SoundSteps.{freeing_sound}
use Rattle.atlas_store.proofs.SlotLemmas.SlotIds.{id_slot, slot_id}
use Rattle.atlas_store.proofs.WalkLemmas.NamedSlots.{id_of-parts, is_alloc-true, named-true}
use Rattle.atlas_store.proofs.WalkLemmas.StoredAtlas.{nodes-short, nodes-below, members-IsAtlas, nonempty-IsAtlas, tree_of-IsAtlas}

-- A tree with a first slot has members.
nonempty-first : (n : Numbered) → (first_slot n ≡ no_slot → ⊥) → HasMember n
nonempty-first End h = absurd (h refl)
nonempty-first n h = omega (arith, same-self)

-- The parts of a name.
pub record IsNameOf (ns : List Node) (id : ℕ) : Type 0 where
  pub kind : (node_at ns (slot_of id)).kind ≡ kind.Alloc
  pub names : id_of (slot_of id) (node_at ns (slot_of id)).generation ≡ id

pub named-parts : (ns : List Node) (id : ℕ) → is_named ns id ≡ true → IsNameOf ns id
named-parts ns id h =
    let parts = and_parts _ _ h in
    let age : (node_at ns (slot_of id)).generation ≡ id / 2 ^ 24 = eqb-true _ _ parts.1 in
    record { kind = is_alloc-true _ parts.0; names = ap (id_of (slot_of id)) age ∙ id_of-parts id }

-- The state after a freeing, of its parts.
pub state-freed : (new old : State) (set : ℕ → Bool) → new.tree ≡ release set old.tree → new.size ≡ old.size
    → new.options ≡ old.options → new.limit ≡ old.limit → new.kept ≡ old.kept
    → IsSound old → new ≡ after_freeing old set
state-freed new old set et es eo el ek sound = grind (arith, release_nodes)

-- As many turns more as members fewer, and one.
pub turns-sum : (now before n used used' : ℕ) → now ≡ before + 1 + n → used' + n ≡ used
    → now + used' ≡ before + 1 + used
turns-sum now before n used used' t u = omega arith

module _ (v : Stored) (a : IsAtlas v) (id : ℕ) where
  pub live-named : Contains (ids (tree_of (nodes v.shelf.slots)).members) id → is_named (nodes v.shelf.slots) id ≡ true
  live-named live =
      let ns = nodes v.shelf.slots in
      let at = id_slot ns a.holding.sequence no_slot 0 a.holding.tree id a.holds.stands.standing
      (subst (λ m. Contains (ids m) id) (members-IsAtlas v a) live) in
      let used : 0 < use_count (node_at ns at.0).kind = subst (λ k. 0 < use_count k) (sym at.1.kind) (omega arith) in
      let inside : at.0 < length ns = used-inside ns at.0 used in
      let short = nodes-short v.shelf.slots a.holds.short in
      (named-true ns at.0 id (omega arith) (rw at.1.kind refl) at.1.names).0

  pub named-live : is_named (nodes v.shelf.slots) id ≡ true → Contains (ids (tree_of (nodes v.shelf.slots)).members) id
  named-live h =
      let ns = nodes v.shelf.slots in
      grind (arith, named-parts ns id h, members-IsAtlas, slot_id ns a.holding.sequence no_slot 0 a.holding.tree id (slot_of id))

  -- Whether a slot was found says whether the id is live.
  pub live-found : (slots : List Slot) (o : Option ℕ) → slots ≡ v.shelf.slots
      → IfSome o (λ at. is_named (nodes slots) id ≡ true) → IfNone o (is_named (nodes slots) id ≡ false)
      → (is_some o ≡ true) ↔ Contains (ids (tree_of (nodes v.shelf.slots)).members) id
  live-found slots None same found missed = grind (arith, false≢true, live-named)
  live-found slots (Some at) same found missed = ((λ _. named-live (ap (λ l. is_named (nodes l) id) (sym same) ∙ found)), (λ _. refl))

  -- The slot of a live id can be freed.
  pub freeable : (at : ℕ) → at ≡ slot_of id → Contains (ids (tree_of (nodes v.shelf.slots)).members) id
      → IsFreeable v.shelf at a.holding
  freeable at same live = grind (arith, named-parts, live-named, members-IsAtlas)

  -- What is left of a freeing.
  module _ (u : Shelf) (n : ℕ) (h : Holding) (live : Contains (ids (tree_of (nodes v.shelf.slots)).members) id)
      (freed : IsFreed v.shelf u (slot_of id) n a.holding h) (same_length : length u.slots ≡ length v.shelf.slots)
      (same_options : u.options ≡ v.shelf.options) where
    tree-freed : tree_of (nodes u.slots) ≡ release (only id) (tree_of (nodes v.shelf.slots))
    tree-freed =
        let is = named-parts (nodes v.shelf.slots) id (live-named live) in
        let below : length (nodes u.slots) < no_slot = nodes-below u.slots freed.holds.short in
        let none : tally no_slot a.holding.tree ≡ 0 = a.holds.stands.numbered no_slot ∙
        ap use_count (none-unused (nodes v.shelf.slots) (nodes-below v.shelf.slots a.holds.short)) in
        let some = nonempty-IsAtlas v a in
        let first : first_slot h.tree ≡ no_slot → ⊥ = λ q. absurd (omega
        (arith, some, none, ap (λ k. tally k a.holding.tree) (sym freed.first ∙ q))) in
        let with_members : tree.Members → Tree = λ m. record { axis = a.holding.sequence.axis; members = m } in
        tree_of-Stands (nodes u.slots) h.sequence h.tree below freed.holds.top freed.holds.stands (nonempty-first h.tree first)
        ∙ ap (λ s. record { axis = s.axis; members = erase h.tree }) freed.sequence
        ∙ ap with_members (freed.tree ∙ ap (λ k. nf (mark (only k) (erase a.holding.tree))) is.names)
        ∙ sym (ap (release (only id)) (tree_of-IsAtlas v a))

    pub state-IsFreed : (m turns before : ℕ)
        → state_of (record {
          stored = record { shelf = u; first = v.first; used = m; size = v.size; limit = v.limit };
          turns = turns;
          capacity = 0;
        })
        ≡ after_freeing (state_of (record { stored = v; turns = before; capacity = 0 })) (only id)
    state-IsFreed m turns before =
        state-freed (state_of (record {
          stored = record { shelf = u; first = v.first; used = m; size = v.size; limit = v.limit };
          turns =
              turns;
          capacity = 0;
        })) (state_of (record { stored = v; turns = before; capacity = 0 })) (only id) tree-freed refl
        (ap options_of same_options) refl same_length a.sound

    pub given-few : n ≤ v.used
    given-few = omega (arith, freed.given, a.used)

    pub atlas-IsFreed : IsAtlas
        (record { shelf = u; first = v.first; used = v.used - n; size = v.size; limit = v.limit })
    atlas-IsFreed = record {
      holding = h;
      holds = freed.holds;
      at_rest = freed.listed;
      start = ap (λ s. s.start) freed.sequence ∙ a.start;
      across = rw freed.sequence a.across;
      first = a.first ∙ sym freed.first;
      used = omega (arith, freed.given, a.used);
      sound = subst IsSound (sym (state-IsFreed (v.used - n) 0 0)) (freeing_sound
          (state_of (record { stored = v; turns = 0; capacity = 0 })) (only id) a.sound);
      exact = a.exact;
      limited = a.limited;
    }

    -- As many members fewer as slots were given back.
    pub used-IsFreed : (m turns before : ℕ)
        → used_in (state_of (record {
          stored = record { shelf = u; first = v.first; used = m; size = v.size; limit = v.limit };
          turns =
              turns;
          capacity = 0;
        })) + n
        ≡ used_in (state_of (record { stored = v; turns = before; capacity = 0 }))
    used-IsFreed m turns before = grind (arith, tree-freed, named-parts, live-named, members-IsAtlas, numbers-erase)

-- What a call that frees the leaf of a live id leaves: n slots were given back.
pub record FreesBox (v : Stored) (u : Shelf) (id n : ℕ) : Type 0 where
  pub few : n ≤ v.used
  pub atlas : IsAtlas (record { shelf = u; first = v.first; used = v.used - n; size = v.size; limit = v.limit })
  pub state : (m turns before : ℕ)
      → state_of (record {
        stored = record { shelf = u; first = v.first; used = m; size = v.size; limit = v.limit };
        turns = turns;
        capacity = 0;
      })
      ≡ after_freeing (state_of (record { stored = v; turns = before; capacity = 0 })) (only id)
  pub used : (m turns before : ℕ)
      → used_in (state_of (record {
        stored = record { shelf = u; first = v.first; used = m; size = v.size; limit = v.limit };
        turns = turns;
        capacity = 0;
      })) + n
      ≡ used_in (state_of (record { stored = v; turns = before; capacity = 0 }))

pub frees-box : (v : Stored) (a : IsAtlas v) (u : Shelf) (id at n : ℕ)
    → Contains (ids (tree_of (nodes v.shelf.slots)).members) id → at ≡ slot_of id
    → ((h : Holding) → IsFreeable v.shelf at h → (h' : Holding) × IsFreed v.shelf u at n h h')
    → length u.slots ≡ length v.shelf.slots → u.options ≡ v.shelf.options → FreesBox v u id n
frees-box v a u id at n live same freed same_length same_options =
    let r = freed a.holding (freeable v a id at same live) in
    let w : IsFreed v.shelf u (slot_of id) n a.holding r.0 = subst (λ k. IsFreed v.shelf u k n a.holding r.0) same r.1 in
    record {
      few = given-few v a id u n r.0 live w same_length same_options;
      atlas = atlas-IsFreed v a id u n r.0 live w same_length same_options;
      state = state-IsFreed v a id u n r.0 live w same_length same_options;
      used = used-IsFreed v a id u n r.0 live w same_length same_options;
    }
