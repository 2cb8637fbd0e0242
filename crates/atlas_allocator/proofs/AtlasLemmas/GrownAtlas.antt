-- Growing an atlas.
use Rattle.std.proofs.Common.{ℕ, ◌+◌, ◌≤◌, ◌≡◌, max, true, false, [], length, refl, sym, ap, subst, ◌∙◌, ◌⊎◌, arith}
use Rattle.std.proofs.Common.{vec_capacity}
use Rattle.std.specs.Prelude.{Err}
use Rattle.atlas_model.specs.Boxes.{Sides, Fits, IsPositive, side}
use Rattle.atlas_model.specs.Changes.{grown, grown_members}
use Rattle.atlas_model.specs.Pixels.{sides_of, size_of, options_of}
use Rattle.atlas_model.specs.Replies.{done_reply}
use Rattle.atlas_store.specs.Slots.{nodes}
use Rattle.atlas_store.specs.Slots.Growing.{IsLone}
use Rattle.atlas_store.specs.Slots.Numbered.{erase, first_slot, numbers}
use Rattle.atlas_store.specs.Slots.Reading.{tree_of}
use Rattle.atlas_model.specs.States.{State, IsSound, after_growth, live_in}
use Rattle.atlas_model.specs.Steps.{Step, nodes_grown}
use Rattle.atlas_model.specs.Steps.AtlasCall.{Grow}
use Rattle.atlas_model.specs.Steps.AtlasReply.{Done, Refused}
use Rattle.atlas_store.specs.Store.Choosing.{IsShortOf}
use Rattle.atlas_tree.specs.Plans.Growths.{CanGrow, IsTreeOf, IsGrowthOf, IsGrowable, IsGrownHolding, IsNeedOf}
use Rattle.atlas_tree.specs.Plans.Growths.{IsTreeGrown}
use Rattle.atlas_store.specs.Store.Holdings.{shelf_of}
use Rattle.atlas_store.specs.Stored.{Stored, Shelf, Holding, IsAtlas, state_of}
use Rattle.atlas_model.specs.Trees.{Tree, IsOneFree, is_one_free, live}
use Rattle.atlas_model.specs.declared.error.AtlasError.{AtlasError}
use Rattle.atlas_model.specs.declared.error.AtlasError.TheVariants.{Memory, Slots, NotLive}
use Rattle.atlas_model.specs.declared.geometry.Size.{Size}
use Rattle.atlas_search.specs.declared.link.Link.{Link}
use Rattle.atlas_store.specs.declared.store.Store.{Store}
use Rattle.atlas_tree.specs.declared.growth.Growth.{Growth}
use Rattle.std.specs.Prelude.{Result}
use Rattle.atlas_model.specs.Trees as tree
use Rattle.atlas_store.specs.Slots.Numbered as numbered
use Rattle.atlas_store.proofs.SlotLemmas.ReadTrees.{tree_of-Stands}
use Rattle.atlas_store.proofs.SlotLemmas.Normal.{numbers-erase}
use Rattle.atlas_store.proofs.StoreLemmas.UnusedCounts.{unused_list-count}
use Rattle.atlas_store.proofs.StoreLemmas.Sizes.{size_is}
use Rattle.atlas_model.proofs.TreeLemmas.TreeBasics.{side_positive}
use Rattle.atlas_model.proofs.TreeLemmas.TreeIdle.{nothing_live}
use Rattle.atlas_model.proofs.TreeLemmas.TreeCounts.{grow_nodes}
use Rattle.atlas_model.proofs.StepLemmas.SoundSteps.{growth_sound, limit_positive}
use Rattle.atlas_allocator.proofs.AtlasLemmas.UnsignedRectangles.{sides_of-size}
use Rattle.atlas_store.proofs.WalkLemmas.StoredAtlas.{nodes-below, nonempty-total, one_leaf, tree_of-IsAtlas}

-- A tree of one free leaf has nothing live.
one_free-idle : (size : Sides) (t : Tree) → is_one_free t.members ≡ true → live size t ≡ []
one_free-idle size t h = grind arith

-- The state after a growth, of its parts.
state-grown : (new old : State) (n : Sides) → new.tree ≡ grown old.size n old.tree → new.size ≡ n
    → new.options ≡ old.options → new.limit ≡ old.limit
    → new.kept ≡ max old.kept (tree.node_count (grown old.size n old.tree).members) → new ≡ after_growth old n
state-grown new old n et es eo el ek = rw (← ek, ← et, ← es, ← eo, ← el) refl

-- What a growth leaves: so many slots are used, and the tree begins at this slot.
pub record HasGrown (v : Stored) (size : Size) (u : Shelf) (link : Link) (used : ℕ) : Type 0 where
  pub atlas : IsAtlas (record { shelf = u; first = link; used = used; size = size; limit = v.limit })
  pub step : (turns before : ℕ)
      → Step (state_of (record { stored = v; turns = before; capacity = 0 })) (Grow (sides_of size)) Done
      (state_of (record {
        stored = record { shelf = u; first = link; used = used; size = size; limit = v.limit };
        turns = turns;
        capacity =
            0;
      }))

module _ (v : Stored) (a : IsAtlas v) where
  abbrev pub now : State
  now = state_of (record { stored = v; turns = 0; capacity = 0 })

  pub tree-here : IsTreeOf v.shelf (sides_of v.size) v.first.number a.holding
  tree-here = grind (arith, tree_of-IsAtlas, side_positive)

  -- An atlas with nothing live is one leaf.
  pub lone-here : live_in now ≡ [] → IsLone v.first.number a.holding
  lone-here none =
      let t = tree_of (nodes v.shelf.slots) in
      let free : IsOneFree (sides_of v.size) t = (nothing_live (sides_of v.size) t a.sound.well_formed a.sound.normal none).0 in
      let members : t.members ≡ erase a.holding.tree = ap (λ k. k.members) (tree_of-IsAtlas v a) in
      let one = one_leaf a.holding.tree (side t.axis (sides_of v.size)) (sym members ∙ free) in
      let first : v.first.number ≡ one.0 = a.first ∙ ap first_slot one.1 in
      record {
        start = a.start;
        extent = side t.axis (sides_of v.size);
        tree = one.1 ∙ ap (λ i. numbered.Free i (side t.axis (sides_of v.size)) numbered.End) (sym first);
      }

  module _ (size : Size) (larger : Fits (sides_of v.size) (sides_of size)) where
    pub positive-new : IsPositive (sides_of size)
    positive-new = (omega (arith, a.sound.well_formed.nonempty.0, larger.0), omega (arith, a.sound.well_formed.nonempty.1, larger.1))

    pub exact-new : size ≡ size_of (sides_of size)
    exact-new = size_is size positive-new

    -- What a growth leaves.
    module _ (u : Shelf) (first n : ℕ) (h : Holding) (w : IsGrownHolding u (sides_of v.size) (sides_of size) first n a.holding h)
        (same_options : u.options ≡ v.shelf.options) where
      tree-grown : tree_of (nodes u.slots) ≡ grown (sides_of v.size) (sides_of size) (tree_of (nodes v.shelf.slots))
      tree-grown = grind (arith, tree_of-Stands, nodes-below, nonempty-total, tree_of-IsAtlas)

      nodes-grown : numbers h.tree ≡ tree.node_count
          (grown (sides_of v.size) (sides_of size) (tree_of (nodes v.shelf.slots))).members
      nodes-grown = grind (arith, numbers-erase, tree_of-IsAtlas)

      -- With n the members that the growth adds.
      module _ (need : IsNeedOf (sides_of v.size) (sides_of size) a.holding n) where
        more : numbers h.tree ≡ numbers a.holding.tree + n
        more = nodes-grown ∙ ap (λ t. tree.node_count (grown (sides_of v.size) (sides_of size) t).members) (tree_of-IsAtlas v a) ∙ sym need

        kept-grown : length u.slots ≡ max
            (length v.shelf.slots) (tree.node_count (grown (sides_of v.size) (sides_of size) (tree_of (nodes v.shelf.slots))).members)
        kept-grown = omega (
          arith,
          unused_list-count v.shelf a.holding a.holds,
          unused_list-count u h w.tree.holds,
          more,
          w.unused_list,
          nodes-grown,
        )

        abbrev pub after : (link : Link) (used turns : ℕ) → State
        after link used turns = state_of (record {
          stored = record { shelf = u; first = link; used = used; size = size; limit = v.limit };
          turns = turns;
          capacity = 0;
        })

        pub state-after : (link : Link) (used turns : ℕ) → after link used turns ≡ after_growth now (sides_of size)
        state-after link used turns = state-grown (after link used turns) now (sides_of size) tree-grown refl (ap options_of same_options)
            refl kept-grown

        atlas-after : (link : Link) → link.number ≡ first → (few : nodes_grown now (sides_of size) ≤ v.limit)
            → IsAtlas (record { shelf = u; first = link; used = v.used + n; size = size; limit = v.limit })
        atlas-after link is few = record {
          holding = h;
          holds = w.tree.holds;
          at_rest = w.tree.listed;
          start = w.tree.spans.start;
          across = w.tree.spans.across;
          first = is ∙ sym w.tree.spans.begins;
          used = omega (arith, more, a.used);
          sound = subst IsSound (sym (state-after link (v.used + n) 0)) (growth_sound now (sides_of size) a.sound larger few);
          exact = exact-new;
          limited = a.limited;
        }

    -- The growth that isn't of one free box.
    module _ (p : Growth) (plan : (h : Holding) → IsTreeOf v.shelf (sides_of v.size) v.first.number h →
        IsGrowthOf (sides_of v.size) (sides_of size) h p) where
      plan-here : IsGrowthOf (sides_of v.size) (sides_of size) a.holding p
      plan-here = plan a.holding tree-here

      from-is : sides_of p.from ≡ sides_of v.size
      from-is = sides_of-size p.from (sides_of v.size) plan-here.from

      to-is : sides_of p.to ≡ sides_of size
      to-is = sides_of-size p.to (sides_of size) plan-here.to

      tree-from : IsTreeOf v.shelf (sides_of p.from) v.first.number a.holding
      tree-from = subst (λ s. IsTreeOf v.shelf s v.first.number a.holding) (sym from-is) tree-here

      plan-from : IsGrowthOf (sides_of p.from) (sides_of p.to) a.holding p
      plan-from = subst (λ s. IsGrowthOf s (sides_of p.to) a.holding p) (sym from-is)
          (subst (λ s. IsGrowthOf (sides_of v.size) s a.holding p) (sym to-is) plan-here)

      pub some-plan : (h : Holding) × (first : ℕ) × IsTreeOf v.shelf (sides_of p.from) first h
          × IsGrowthOf (sides_of p.from) (sides_of p.to) h p
      some-plan = (a.holding, v.first.number, tree-from, plan-from)

      pub fits-from : Fits (sides_of p.from) (sides_of p.to)
      fits-from = subst (λ s. Fits s (sides_of p.to)) (sym from-is) (subst (λ s. Fits (sides_of v.size) s) (sym to-is) larger)

      module _ (some : live_in now ≡ [] → ⊥) where
        busy : is_one_free (erase a.holding.tree) ≡ false
        busy = grind (arith, one_free-idle, tree_of-IsAtlas)

        module _ (n : ℕ) (counted : (h : Holding) (first : ℕ) → IsTreeOf v.shelf (sides_of p.from) first h →
            IsGrowthOf (sides_of p.from) (sides_of p.to) h p
            → is_one_free (erase h.tree) ≡ false → IsNeedOf (sides_of p.from) (sides_of p.to) h n) where
          need-from : IsNeedOf (sides_of p.from) (sides_of p.to) a.holding n
          need-from = counted a.holding v.first.number tree-from plan-from busy

          need-here : IsNeedOf (sides_of v.size) (sides_of size) a.holding n
          need-here = subst (λ s. IsNeedOf (sides_of v.size) s a.holding n) to-is
              (subst (λ s. IsNeedOf s (sides_of p.to) a.holding n) from-is need-from)

          grown-nodes : nodes_grown now (sides_of size) ≡ v.used + n
          grown-nodes =
              let all : tree.node_count (grown (sides_of v.size) (sides_of size) (tree_of (nodes v.shelf.slots))).members ≡ tree.node_count
              (grown_members (sides_of v.size) (sides_of size) a.holding.sequence.axis (erase a.holding.tree)).members =
              ap (λ t. tree.node_count (grown (sides_of v.size) (sides_of size) t).members) (tree_of-IsAtlas v a) in
              omega (arith, grow_nodes (sides_of v.size) (sides_of size) (tree_of (nodes v.shelf.slots)), all, need-here, a.used)

          -- Slots were refused.
          step-refused : (error : AtlasError) → IsShortOf v.used v.limit n (length v.shelf.slots) error
              → Step now (Grow (sides_of size)) (Refused error) now
          step-refused Slots short = (larger, omega (arith, grown-nodes), refl)
          step-refused Memory short = (larger, omega (arith, grown-nodes, short.0), omega (arith, grown-nodes, short.1), refl)
          step-refused NotLive short = absurd short

          -- In the words of the calls: `made` are the slots once there is room.
          module _ {A : Type 0} (made : Store A) (same : shelf_of made ≡ v.shelf) where
            pub refused-step : (result : Result (Unit {0}) AtlasError) (error : AtlasError) → result ≡ Err error
                → IsShortOf v.used v.limit n (length v.shelf.slots) error → (turns before : ℕ)
                → Step (state_of (record { stored = v; turns = before; capacity = 0 })) (Grow (sides_of size)) (done_reply result)
                (state_of (record {
                  stored = record {
                    shelf = shelf_of made;
                    first = v.first;
                    used = v.used;
                    size = v.size;
                    limit =
                        v.limit;
                  };
                  turns = turns;
                  capacity = 0;
                }))
            refused-step result error is short turns before = grind (arith, step-refused)

            module _ (ok : (v.used + n ≤ v.limit) × ((v.used + n ≤ length made.slots.items) ⊎ (v.used + n ≤ vec_capacity made.slots))) where
              growable-here : IsGrowable made (sides_of p.from) (sides_of p.to) v.first.number n p a.holding
              growable-here = grind (arith, unused_list-count, tree-from, plan-from, fits-from, busy, need-from)

              pub some-growable : CanGrow made v.first.number p
              some-growable = (a.holding, n, growable-here)

              pub grow-done : (new : Store A) (link : Link) → IsTreeGrown made new v.first.number link.number p
                  → HasGrown v size (shelf_of new) link (v.used + n)
              grow-done new link told =
                  let u : Shelf = shelf_of new in
                  let got = told.grown a.holding n growable-here in
                  let w : IsGrownHolding u (sides_of v.size) (sides_of size) link.number n a.holding got.0 =
                  subst (λ s. IsGrownHolding u (sides_of v.size) s link.number n a.holding got.0) to-is
                  (subst (λ s. IsGrownHolding u s (sides_of p.to) link.number n a.holding got.0) from-is got.1) in
                  let same_options : u.options ≡ v.shelf.options = told.takes.options ∙ ap (λ s. s.options) same in
                  let few : nodes_grown now (sides_of size) ≤ v.limit = omega (arith, ok.0, grown-nodes) in
                  record {
                    atlas = atlas-after u link.number n got.0 w same_options need-here link refl few;
                    step = λ turns before. (
                      larger,
                      few,
                      state-after u link.number n got.0 w same_options need-here link (v.used + n)
                          turns,
                    );
                  }

    -- The growth of one free box.
    module _ (none : live_in now ≡ []) (u : Shelf) (same_options : u.options ≡ v.shelf.options)
        (grew : (h : Holding) (old : Sides) → IsTreeOf v.shelf old v.first.number h → IsLone v.first.number h → (h' : Holding) ×
        IsGrownHolding u old (sides_of size) v.first.number 0 h h') where
      pub box-done : HasGrown v size u v.first v.used
      box-done =
          let lone = lone-here none in
          let got = grew a.holding (sides_of v.size) tree-here lone in
          let same_used : v.used + 0 ≡ v.used = omega arith in
          let one : tree.node_count (grown_members (sides_of v.size) (sides_of size) a.holding.sequence.axis (erase a.holding.tree)).members
          ≡ 1 =
          ap (λ k. tree.node_count (grown_members (sides_of v.size) (sides_of size) a.holding.sequence.axis (erase k)).members) lone.tree in
          let need : IsNeedOf (sides_of v.size) (sides_of size) a.holding 0 = omega (arith, ap numbers lone.tree, one) in
          let all : tree.node_count (grown (sides_of v.size) (sides_of size) (tree_of (nodes v.shelf.slots))).members ≡ 1 =
          ap (λ t. tree.node_count (grown (sides_of v.size) (sides_of size) t).members) (tree_of-IsAtlas v a) ∙ one in
          let few : nodes_grown now (sides_of size) ≤ v.limit =
          omega (arith, grow_nodes (sides_of v.size) (sides_of size) (tree_of (nodes v.shelf.slots)), all, limit_positive now a.sound) in
          subst (HasGrown v size u v.first) same_used (record {
            atlas = atlas-after u v.first.number 0 got.0 got.1 same_options need v.first refl few;
            step = λ turns before. (larger, few, state-after u v.first.number 0 got.0 got.1 same_options need v.first (v.used + 0) turns);
          })
