-- Granting a request in an atlas.
use Rattle.std.proofs.Common.{rules, ℕ, ◌+◌, ◌%◌, ◌^◌, ◌<◌, ◌≤◌, ◌≡◌, max, List, length, refl, sym, ap, subst, ◌∙◌, ◌⊎◌}
use Rattle.std.proofs.Common.{inl, inr, arith, vec_capacity, cond}
use Rattle.std.proofs.lemmas.Bool.{false≢true}
use Rattle.std.specs.Prelude.{Err, None, Some, IfSome, IsTrue, is_some, ◌↔◌, option_map}
use Rattle.atlas_model.specs.Boxes.{Sides, Box, box_at, box_sides, Fits, IsPositive}
use Rattle.atlas_model.specs.Changes.{place}
use Rattle.atlas_model.specs.Choice.{rounded, IsFitting, HasRoom, HasNoRoom}
use Rattle.atlas_model.specs.Pixels.{box_of, rectangle_of, sides_of, size_of, options_of}
use Rattle.atlas_search.specs.Rectangles.{IsUnsigned}
use Rattle.atlas_model.specs.Replies.{allocate_reply, grant_of, live_box}
use Rattle.atlas_store.specs.Slots.Picks.{AreFreeBoxes}
use Rattle.atlas_search.specs.Requests.{CanBeRounded}
use Rattle.atlas_store.specs.Slots.{nodes, node_at}
use Rattle.atlas_store.specs.Visits.{is_alloc, named_area}
use Rattle.atlas_store.specs.Slots.Numbered.{numbers}
use Rattle.atlas_store.specs.Slots.Reading.{tree_of}
use Rattle.atlas_model.specs.States.{State, free_in, after_placing}
use Rattle.atlas_model.specs.Steps.{Step, Takes, Grants, nodes_with}
use Rattle.atlas_model.specs.Steps.AtlasCall.{Allocate}
use Rattle.atlas_model.specs.Steps.AtlasReply.{Refused}
use Rattle.atlas_tree.specs.Plans.Chosen.{CanGrant, IsGrantable, IsGrantMade, IsRequestGranted}
use Rattle.atlas_store.specs.Store.Choosing.{IsAtRest, IsChosen, IsShortOf}
use Rattle.atlas_store.specs.Slots.Placing.{across_of, slots_of, IsFeasible}
use Rattle.atlas_store.specs.Store.Holdings.{shelf_of, node_in, HasSlotsFor}
use Rattle.atlas_tree.specs.Plans.Planning.{IsPlanFor}
use Rattle.atlas_store.specs.declared.slots.placing.Plan.{Plan}
use Rattle.atlas_store.specs.Slots.Reading.{extent_of}
use Rattle.atlas_store.specs.declared.slots.Node.{Node}
use Rattle.atlas_store.specs.Stored.{Stored, Shelf, Holding, IsAtlas, state_of}
use Rattle.atlas_model.specs.Trees.{Grant, ids, slot_count}
use Rattle.atlas_model.specs.declared.allocation.Allocation.{Allocation}
use Rattle.atlas_model.specs.declared.error.AtlasError.{AtlasError}
use Rattle.atlas_model.specs.declared.error.AtlasError.TheVariants.{Memory, Slots, NotLive}
use Rattle.atlas_model.specs.declared.geometry.Size.{Size}
use Rattle.atlas_store.specs.declared.store.Store.{Store}
use Rattle.atlas_search.specs.declared.best.Found.{Found}
use Rattle.std.specs.Prelude.{Option, Result}
use Rattle.atlas_model.specs.Trees as tree
use Rattle.atlas_search.proofs.SearchLemmas.Picks.{no_room_unrounded}
use Rattle.atlas_model.proofs.ChoiceLemmas.RoundedSides.{rounded_positive}
use Rattle.atlas_model.proofs.TreeLemmas.BoxLists.{free_in_place}
use Rattle.atlas_store.proofs.SlotLemmas.JoinWrites.{used-inside}
use Rattle.atlas_store.proofs.SlotLemmas.SlotIds.{slot_count-none, id_of-slot}
use Rattle.atlas_model.proofs.TreeLemmas.TreeCounts.{place_nodes}
use Rattle.atlas_model.proofs.StepLemmas.SoundSteps.{placing_sound}
use Rattle.atlas_store.proofs.StoreLemmas.PickedSlots.{rest-free}
use Rattle.atlas_store.proofs.StoreLemmas.UnusedCounts.{unused_list-count}
use Rattle.atlas_tree.proofs.PlanLemmas.PlannedTrees.{IsPlacing, planned-tree, planned-used, need-read}
use Rattle.atlas_tree.proofs.PlanLemmas.PlannedSlots.{planned-first, planned-unused}
use Rattle.atlas_allocator.proofs.AtlasLemmas.UnsignedRectangles.{sides_of-size}
use Rattle.atlas_tree.proofs.PlanLemmas.ChosenSlots.{chosen-inside, chosen-exact, chosen-fits}
use Rattle.atlas_model.proofs.StepLemmas.CallerSteps.{grant_adds}
use Rattle.atlas_store.proofs.WalkLemmas.NamedSlots.{named-true, named-IsAtlas}
use Rattle.atlas_store.proofs.WalkLemmas.StoredAtlas.{nodes-short, members-IsAtlas, tree_of-IsAtlas, used-IsAtlas}
use Rattle.atlas_store.proofs.SlotLemmas.SlotAreas.{exact_of}

-- The state after a placing, of its parts.
state-placed : (new old : State) (f : Box) (r : Sides) (id : ℕ) → new.tree ≡ place old.size f r id old.tree
    → new.size ≡ old.size → new.options ≡ old.options → new.limit ≡ old.limit
    → new.kept ≡ max old.kept (tree.node_count (place old.size f r id old.tree).members)
    → new ≡ after_placing old f r id
state-placed new old f r id et es eo el ek = rw (← ek, ← et, ← es, ← eo, ← el) refl

-- The box of the slot that a request takes.
abbrev pub chosen_box : Stored → Found → Box
chosen_box v p = box_of (node_in v.shelf p.at.number).area

module _ (v : Stored) (a : IsAtlas v) (request : Sides) where
  abbrev pub now : State
  now = state_of (record { stored = v; turns = 0; capacity = 0 })

  pub at-rest : IsAtRest v.shelf a.holding
  at-rest = record { holds = a.holds; listed = a.at_rest; start = a.start }

  abbrev pub wanted : Sides
  wanted = rounded (options_of v.shelf.options) request

  free_here : AreFreeBoxes (nodes v.shelf.slots) (free_in (state_of (record { stored = v; turns = 0; capacity = 0 })))
  free_here = grind (arith, tree_of-IsAtlas, rest-free, at-rest)

  -- Nothing is granted.

  pub no_room-unrounded : (CanBeRounded (options_of v.shelf.options) request → ⊥) → (sides_of v.size).width ≤ 2147483647
      → (sides_of v.size).height ≤ 2147483647 → HasNoRoom (free_in now) (options_of v.shelf.options) request
  no_room-unrounded misfit wide high =
      no_room_unrounded (free_in now) (options_of v.shelf.options) request (sides_of v.size) misfit
      (free_in_place (sides_of v.size) (tree_of (nodes v.shelf.slots)) a.sound.well_formed) wide high

  pub no_room-none : (size : Sides) → size ≡ wanted
      → ((free : List Box) → AreFreeBoxes (nodes v.shelf.slots) free → (b : Box) → IsFitting free size b → ⊥)
      → HasNoRoom (free_in now) (options_of v.shelf.options) request
  no_room-none size e none room = none (free_in now) free_here room.box
      (subst (λ r. IsFitting (free_in now) r room.box) (sym e) room.fitting)

  -- The slot that is taken.
  module _ (p : Found) (chosen : IsChosen v.shelf (rounded (options_of v.shelf.options) request) p) (positive : IsPositive request)
      (plan : Plan)
      (line : IsPlanFor (node_in v.shelf p.at.number) (rounded (options_of v.shelf.options) request) plan) where
    pub takes : Takes now request (chosen_box v p)
    takes = record { positive = positive; pick = chosen.pick (free_in now) free_here }

    placing : IsPlacing (sides_of v.size) v.shelf a.holding p.at.number wanted
    placing = grind (arith, rounded_positive, takes)

    pub need : nodes_with now request (chosen_box v p) ≡ v.used + slots_of plan
    need = grind (arith, need-read, placing, used-IsAtlas)

    -- Slots were refused.
    pub step-refused : (error : AtlasError) → IsShortOf v.used v.limit (slots_of plan) (length v.shelf.slots) error
        → Step now (Allocate request) (Refused error) now
    step-refused Slots short = (chosen_box v p, takes, omega (arith, need), refl)
    step-refused Memory short = (chosen_box v p, takes, omega (arith, need, short.0), omega (arith, need, short.1), refl)
    step-refused NotLive short = absurd short

    -- There are slots for the plan.
    slots-made : {A : Type 0} (made : Store A) → shelf_of made ≡ v.shelf → v.used + slots_of plan ≤ v.limit
        → (v.used + slots_of plan ≤ length v.shelf.slots) ⊎ (v.used + slots_of plan ≤ vec_capacity made.slots)
        → HasSlotsFor (slots_of plan) made a.holding
    slots-made made same few room = grind (arith, unused_list-count, at-rest)

    pub grantable : {A : Type 0} (made : Store A)
        → IsFeasible plan (extent_of (node_in v.shelf p.at.number)) (across_of (node_in v.shelf p.at.number))
        → shelf_of made ≡ v.shelf → v.used + slots_of plan ≤ v.limit
        → (v.used + slots_of plan ≤ length v.shelf.slots) ⊎ (v.used + slots_of plan ≤ vec_capacity made.slots)
        → IsGrantable made wanted p plan a.holding
    grantable made feasible same few room = record {
      rest = subst (λ u. IsAtRest u a.holding) (sym same) at-rest;
      chosen = subst (λ u. IsChosen u wanted p) (sym same) chosen;
      line = subst (λ u. IsPlanFor (node_in u p.at.number) wanted plan) (sym same) line;
      feasible = subst (λ u. IsFeasible plan (extent_of (node_in u p.at.number)) (across_of (node_in u p.at.number))) (sym same) feasible;
      slots = slots-made made same few room;
    }

    -- The request is placed and granted.
    module _ (u : Shelf) (made : Allocation) (to : ℕ) (h : Holding) (w : IsGrantMade u p plan made to a.holding h)
        (same_options : u.options ≡ v.shelf.options) (few : v.used + slots_of plan ≤ v.limit) where
      -- The box that it is granted.
      abbrev pub box : Box
      box = box_at (chosen_box v p).min (rounded (options_of v.shelf.options) request)

      abbrev pub after : (used turns : ℕ) → State
      after used turns = state_of (record {
        stored = record { shelf = u; first = v.first; used = used; size = v.size; limit = v.limit };
        turns = turns;
        capacity = 0;
      })

      tree-placed : tree_of
          (nodes u.slots) ≡ place (sides_of v.size) (chosen_box v p) wanted made.id (tree_of (nodes v.shelf.slots))
      tree-placed =
          planned-tree (sides_of v.size) v.shelf a.holding p.at.number wanted placing u to plan h line w.planned
          ∙ ap (λ k. place (sides_of v.size) (chosen_box v p) wanted k (tree_of (nodes v.shelf.slots))) (sym w.names)

      more : numbers h.tree ≡ numbers a.holding.tree + slots_of plan
      more = planned-used (sides_of v.size) v.shelf a.holding p.at.number wanted placing u to plan h line w.planned

      kept-placed : length u.slots ≡ max
          (length v.shelf.slots) (tree.node_count (place (sides_of v.size) (chosen_box v p) wanted made.id
          (tree_of (nodes v.shelf.slots))).members)
      kept-placed = search (rules, unused_list-count, more, need, place_nodes)

      pub state-placing : (used turns : ℕ) → after used turns ≡ after_placing now (chosen_box v p) wanted made.id
      state-placing used turns = state-placed (after used turns) now (chosen_box v p) wanted made.id tree-placed refl
          (ap options_of same_options) refl kept-placed

      short : to < 2 ^ 24
      short =
          let inside : to < length (nodes u.slots) = used-inside (nodes u.slots) to (rw w.planned.granted (omega arith)) in
          omega (arith, inside, nodes-short u.slots w.planned.holds.short)

      unused : slot_count made.id (ids (tree_of (nodes v.shelf.slots)).members) ≡ 0
      unused =
          let is : made.id % 2 ^ 24 ≡ to = ap (λ i. i % 2 ^ 24) w.names ∙ id_of-slot to (node_in u to).generation short in
          ap (λ m. slot_count made.id (ids m)) (members-IsAtlas v a)
          ∙ slot_count-none (nodes v.shelf.slots) a.holding.sequence a.holding.tree made.id a.holds.stands
          (nodes-short v.shelf.slots a.holds.short)
          (λ q. planned-unused v.shelf u p.at.number to plan a.holding h a.holds chosen.free w.planned
          (ap (λ k. (node_in v.shelf k).kind) (sym is) ∙ q))

      pub grants : (used turns : ℕ)
          → Grants now request (chosen_box v p) (record { id = made.id; box = box }) (after used turns)
      grants used turns = record {
        takes = takes;
        room = omega (arith, need, few);
        unused = unused;
        box = refl;
        state = state-placing used turns;
      }

      pub atlas-placed : IsAtlas
          (record { shelf = u; first = v.first; used = v.used + slots_of plan; size = v.size; limit = v.limit })
      atlas-placed = record {
        holding = h;
        holds = w.planned.holds;
        at_rest = w.planned.listed;
        start = ap (λ s. s.start) w.planned.sequence ∙ a.start;
        across = rw w.planned.sequence a.across;
        first = a.first ∙ sym (planned-first u p.at.number to plan a.holding h w.planned);
        used = omega (arith, more, a.used);
        sound = placing_sound now (chosen_box v p) request (record { id = made.id; box = box }) (after (v.used + slots_of plan) 0) a.sound
            (grants (v.used + slots_of plan) 0);
        exact = a.exact;
        limited = a.limited;
      }

      -- The slot that is granted lies there, since it is what its id names.
      pub area-placed : made.rectangle ≡ rectangle_of box
      area-placed =
          let ns = nodes u.slots in
          let grown : Stored = record { shelf = u; first = v.first; used = v.used + slots_of plan; size = v.size; limit = v.limit } in
          let its : Grant = record { id = made.id; box = box } in
          let shown : live_box (after (v.used + slots_of plan) 0) made.id ≡ Some box =
          (grant_adds now (after (v.used + slots_of plan) 0) a.sound request its (chosen_box v p, grants (v.used + slots_of plan) 0)).here
          in
          let named = named-true ns to made.id short (ap is_alloc w.planned.granted) (sym w.names) in
          let read : named_area ns made.id ≡ Some (node_at ns to).area =
          ap (λ b. cond b (Some (node_at ns (made.id % 2 ^ 24)).area) None) named.0 ∙ ap (λ k. Some (node_at ns k).area) named.1 in
          let both : Some (rectangle_of box) ≡ Some (node_at ns to).area = sym (ap (option_map rectangle_of) shown) ∙
          named-IsAtlas grown atlas-placed made.id ∙ read in
          let there : rectangle_of box ≡ (node_at ns to).area = cc in
          w.area ∙ sym there

-- What a grant leaves: the request is granted under this id and in this rectangle.
pub record IsDone (v : Stored) (request : Sides) (u : Shelf) (needed : ℕ) (made : Allocation) : Type 0 where
  pub atlas : IsAtlas (record { shelf = u; first = v.first; used = v.used + needed; size = v.size; limit = v.limit })
  pub granted : (turns before : ℕ)
      → (f : Box) × Grants (state_of (record { stored = v; turns = before; capacity = 0 })) request f (grant_of made)
      (state_of (record {
        stored = record { shelf = u; first = v.first; used = v.used + needed; size = v.size; limit = v.limit };
        turns =
            turns;
        capacity = 0;
      }))
  pub exact : IsUnsigned made.rectangle

-- A request that was rounded, and the slot that it takes.
module _ (v : Stored) (a : IsAtlas v) (request : Sides) (size : Size) (sized : CanBeRounded (options_of v.shelf.options) request ×
    (size ≡ size_of (rounded (options_of v.shelf.options) request)))
    (p : Found) (chosen : IsChosen v.shelf (sides_of size) p) where
  same_sides : sides_of size ≡ rounded (options_of v.shelf.options) request
  same_sides = sides_of-size size (rounded (options_of v.shelf.options) request) sized.1

  chosen_here : IsChosen v.shelf (rounded (options_of v.shelf.options) request) p
  chosen_here = subst (λ r. IsChosen v.shelf r p) same_sides chosen

  -- Its leaf.
  pub taken-inside : p.at.number < length v.shelf.slots
  taken-inside = chosen-inside v.shelf a.holding (at-rest v a request) (sides_of size) p chosen

  pub taken-exact : (node_in v.shelf p.at.number).area ≡ rectangle_of (chosen_box v p)
  taken-exact = chosen-exact v.shelf a.holding (at-rest v a request) (sides_of size) p chosen

  pub taken-fits : Fits (sides_of size) (box_sides (chosen_box v p))
  taken-fits = chosen-fits v.shelf a.holding (at-rest v a request) (sides_of size) p chosen

  -- In the words of the calls: `made` are the slots once there is room.
  module _ (leaf : Node) (read : leaf ≡ node_in v.shelf p.at.number) (plan : Plan) (line : IsPlanFor leaf (sides_of size) plan)
      (feasible : IsFeasible plan (extent_of leaf) (across_of leaf))
      {A : Type 0} (made : Store A) (same : shelf_of made ≡ v.shelf) (needed : ℕ) (is_needed : needed ≡ slots_of plan) where
    line_here : IsPlanFor (node_in v.shelf p.at.number) (rounded (options_of v.shelf.options) request) plan
    line_here = subst (λ r. IsPlanFor (node_in v.shelf p.at.number) r plan) same_sides
        (subst (λ n. IsPlanFor n (sides_of size) plan) read line)

    feasible_here : IsFeasible plan (extent_of (node_in v.shelf p.at.number)) (across_of (node_in v.shelf p.at.number))
    feasible_here = subst (λ n. IsFeasible plan (extent_of n) (across_of n)) read feasible

    pub refused-step : (result : Result (Option Allocation) AtlasError) (error : AtlasError) → result ≡ Err error
        → IsShortOf v.used v.limit needed (length v.shelf.slots) error → (turns before : ℕ)
        → Step (state_of (record { stored = v; turns = before; capacity = 0 })) (Allocate request) (allocate_reply result)
        (state_of (record {
          stored = record { shelf = shelf_of made; first = v.first; used = v.used; size = v.size; limit = v.limit };
          turns = turns;
          capacity = 0;
        }))
    refused-step result error is short turns before = grind (arith, step-refused, chosen_here, line_here)

    module _ (ok : (v.used + needed ≤ v.limit) × ((v.used + needed ≤ length made.slots.items) ⊎
        (v.used + needed ≤ vec_capacity made.slots))) where
      grantable_here : IsGrantable made (rounded (options_of v.shelf.options) request) p plan a.holding
      grantable_here =
          let long : length made.slots.items ≡ length v.shelf.slots = ap (λ s. length s.slots) same in
          grantable v a request p chosen_here sized.0.positive plan line_here made feasible_here same (omega (arith, ok.0, is_needed))
          (elim ok.1 [
            | inl s ↦ inl (omega (arith, is_needed, long))
            | inr s ↦ inr (omega (arith, is_needed))
          ])

      pub some-grantable : CanGrant made p plan
      some-grantable = (rounded (options_of v.shelf.options) request, a.holding, grantable_here)

      pub grant-done : (new : Store A) (allocation : Allocation) → IsRequestGranted made new p plan allocation
          → IsDone v request (shelf_of new) needed allocation
      grant-done new allocation told =
          let u : Shelf = shelf_of new in
          let got = told.granted (rounded (options_of v.shelf.options) request) a.holding grantable_here in
          let same_options : u.options ≡ v.shelf.options = told.takes.options ∙ ap (λ s. s.options) same in
          let few : v.used + slots_of plan ≤ v.limit = omega (arith, ok.0, is_needed) in
          let cut : Box = box v a request p chosen_here sized.0.positive plan line_here u allocation got.0 got.1 got.2 same_options few in
          let there : allocation.rectangle ≡ rectangle_of cut = area-placed v a request p chosen_here sized.0.positive plan line_here u
          allocation got.0 got.1 got.2 same_options few in
          let made_in : (turns before : ℕ) → Grants (state_of (record { stored = v; turns = before; capacity = 0 })) request
          (chosen_box v p) (record { id = allocation.id; box = cut })
          (state_of (record {
            stored = record { shelf = u; first = v.first; used = v.used + slots_of plan; size = v.size; limit = v.limit };
            turns = turns;
            capacity = 0;
          })) =
          (λ turns before. grants v a request p chosen_here sized.0.positive plan line_here u allocation got.0 got.1 got.2 same_options few
          (v.used + slots_of plan) turns) in
          subst (λ n. IsDone v request u n allocation) (sym is_needed) (record {
            atlas = atlas-placed v a request p chosen_here sized.0.positive plan line_here u allocation got.0 got.1 got.2 same_options few;
            granted = (λ turns before. (
              chosen_box v p,
              subst (λ b. Grants (state_of (record { stored = v; turns = before; capacity = 0 })) request (chosen_box v p)
                  (record { id = allocation.id; box = b })
                  (state_of (record {
                    stored = record {
                      shelf = u;
                      first = v.first;
                      used = v.used + slots_of plan;
                      size = v.size;
                      limit =
                          v.limit;
                    };
                    turns = turns;
                    capacity = 0;
                  }))) (sym (ap box_of there)) (made_in turns before),
            ));
            exact = exact_of allocation.rectangle cut there;
          })

-- A request has room if a slot was found for it.
pub found-room : (v : Stored) (a : IsAtlas v) (request : Sides) (size : Size)
    → CanBeRounded (options_of v.shelf.options) request
    × (size ≡ size_of (rounded (options_of v.shelf.options) request))
    → (found : Option Found)
    → (found ≡ None → (free : List Box) → AreFreeBoxes (nodes v.shelf.slots) free → (b : Box) → IsFitting free (sides_of size) b → ⊥)
    → IfSome found (IsChosen v.shelf (sides_of size))
    → IsTrue (is_some found) ↔ HasRoom (free_in (now v a request)) (options_of v.shelf.options) request
found-room v a request size sized None none some = (
  (λ yes. absurd (false≢true yes)),
  (λ room. absurd (no_room-none v a request (sides_of size) (sides_of-size size _ sized.1) (none refl) room)),
)
found-room v a request size sized (Some p) none some = (
  (λ yes. record {
    positive = sized.0.positive;
    box = chosen_box v p;
    fitting = ((chosen_here v a request size sized p some).pick (free_in (now v a request)) (free_here v a request)).best.candidate.fitting;
  }),
  (λ room. refl),
)

-- So it has where that was seen at once.
pub room-at_once : (v : Stored) (a : IsAtlas v) (request : Sides) (size : Size)
    → CanBeRounded (options_of v.shelf.options) request
    × (size ≡ size_of (rounded (options_of v.shelf.options) request))
    → ((free : List Box) → AreFreeBoxes (nodes v.shelf.slots) free → (b : Box) × IsFitting free (sides_of size) b)
    → HasRoom (free_in (now v a request)) (options_of v.shelf.options) request
room-at_once v a request size sized fits =
    let found = fits (free_in (now v a request)) (free_here v a request) in
    record {
      positive = sized.0.positive;
      box = found.0;
      fitting = subst (λ (r : Sides). IsFitting (free_in (now v a request)) r found.0) (sides_of-size size _ sized.1) found.1;
    }
