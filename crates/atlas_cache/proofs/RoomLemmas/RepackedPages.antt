-- What placing anew makes of the rectangles of a page by their ids.
use Rattle.std.proofs.Common.{rules, ◌≡◌, ◌==◌, ◌<◌, ◌≤◌, ◌++◌, ◌∷◌, [], ℕ, List, Option, None, Some, length, map, get_or, option_map, All}
use Rattle.std.proofs.Common.{Bool, true, false, cond, Contains}
use Rattle.std.proofs.Common.{slice_get, slice_set, refl, sym, ap, ◌∙◌, subst, arith, IsPermutation}
use Rattle.std.specs.List.{count_by, find}
use Rattle.std.proofs.lemmas.Bool.{eq-eqb}
use Rattle.std.proofs.lemmas.List.{append-nil}
use Rattle.std.proofs.lemmas.List.Elements.{All-append, All-contains, All-head, All-map, All-nil, All-tail, All-weaker}
use Rattle.std.proofs.lemmas.List.Sorted.{IsPermutation-sym}
use Rattle.std.proofs.lemmas.Option.{same_Some, slice_get-get_or}
use Rattle.guillotiere.specs.declared.Allocation.{Allocation}
use Rattle.guillotiere.specs.declared.Change.{Change}
use Rattle.guillotiere.specs.declared.ChangeList.{ChangeList}
use Rattle.guillotiere.specs.declared.Rectangle.{Rectangle}
use Rattle.guillotiere.specs.declared.Size.{Size}
use Rattle.guillotiere.specs.Boxes.{box_sides, Box}
use Rattle.guillotiere.specs.Callers.{rectangle_in, KeepsFrame}
use Rattle.guillotiere.specs.Changes.{fresh}
use Rattle.guillotiere.specs.Pixels.{box_of, options_of, rectangle_of, sides_of, size_of}
use Rattle.guillotiere.specs.Rearranging.{rearrangement_of, transfer_of, AreExactChanges, IsExactChange}
use Rattle.guillotiere.specs.Refits.{Refits}
use Rattle.guillotiere.specs.Refits.Refitted.{IsRefitOf}
use Rattle.guillotiere.specs.Replies.{grant_of, IsExact}
use Rattle.guillotiere.specs.States.{State, after_refit, live_in, started, IsSound}
use Rattle.guillotiere.specs.Stored.{AtlasValue, state_of}
use Rattle.guillotiere.specs.Trees.{Grant, live}
use Rattle.guillotiere.proofs.ListLemmas.CallerLemmas.{count_by-permutation, find-counted_once, find-permutation, slice_get-set_here}
use Rattle.guillotiere.proofs.ListLemmas.CallerLemmas.{slice_get-set_other, Contains-find}
use Rattle.guillotiere.proofs.ListLemmas.ListCounts.{count_by-cons}
use Rattle.guillotiere.proofs.StepLemmas.LiveBoxes.{few_live}
use Rattle.guillotiere.proofs.StepLemmas.RefittedTrees.{refitted, HasAlignedBox, IsMovable, IsRefitted}
use Rattle.guillotiere.proofs.StepLemmas.SoundSteps.{fresh_normal, fresh_well_formed, limit_positive, live_movable}
use Rattle.atlas_cache.specs.declared.options.CacheOptions.{CacheOptions}
use Rattle.atlas_cache.specs.Repacking.{rectangle_among, AreOfOwnIds, NamesPage, PlacesInOrder, RepacksPage, TellsMoves}
use Rattle.atlas_cache.specs.Rooms.{rooms_of, KeepsRooms}
use Rattle.atlas_allocator.proofs.AtlasLemmas.RearrangedAtlas.{changes_of}

abbrev HasExact : Allocation → Type 0
HasExact a = IsExact a.rectangle

-- The rectangle of an id among grants.
abbrev granted_to : List Grant → ℕ → Option Rectangle
granted_to gs id = option_map rectangle_of (option_map (λ (g : Grant). g.box) (find (λ g. g.id == id) gs))

-- Of exact rectangles, allocations tell what their grants tell.
shown_among : (held : List Allocation) → All HasExact held → (id : ℕ)
    → granted_to (map grant_of held) id ≡ rectangle_among held id
shown_among [] exact id = refl
shown_among (a ∷ held) exact id = by_test (a.id == id) (shown_among held (All-tail HasExact a held exact) id)
  where
    by_test : (b : Bool) → granted_to (map grant_of held) id ≡ rectangle_among held id
        → option_map rectangle_of (option_map (λ (g : Grant). g.box) (cond b (Some (grant_of a))
        (find (λ g. g.id == id) (map grant_of held))))
        ≡ option_map (λ (k : Allocation). k.rectangle) (cond b (Some a) (find (λ k. k.id == id) held))
    by_test true rest = ap Some (sym (All-head HasExact a held exact))
    by_test false rest = rest

counted_among : (held : List Allocation) (id : ℕ) → count_by (λ g. g.id == id) (map grant_of held) ≡ count_by (λ a. a.id == id) held
counted_among [] id = refl
counted_among (a ∷ held) id =
    omega (
      arith,
      counted_among held id,
      count_by-cons (λ (g : Grant). g.id == id) (grant_of a) (map grant_of held),
      count_by-cons (λ (k : Allocation). k.id == id) a held,
    )

-- Where grants of different ids are listed, in whatever order, the list tells each rectangle once.
module _ (gs : List Grant) (few : (id : ℕ) → count_by (λ g. g.id == id) gs ≤ 1) (held : List Allocation)
    (listed : IsPermutation gs (map grant_of held)) where
  told : All HasExact held → (id : ℕ) → granted_to gs id ≡ rectangle_among held id
  told exact id =
      ap (λ o. option_map rectangle_of (option_map (λ (g : Grant). g.box) o))
      (sym (find-permutation (λ g. g.id == id) gs (map grant_of held) listed (few id)))
      ∙ shown_among held exact id

  told_once : AreOfOwnIds held
  told_once id =
      omega (arith, counted_among held id, few id, count_by-permutation (λ g. g.id == id) gs (map grant_of held) listed)

olds : (cs : List Change) (fs : List Allocation)
    → map (λ t. t.old) (map transfer_of cs) ++ map grant_of fs ≡ map grant_of (map (λ c. c.old) cs ++ fs)
olds [] fs = refl
olds (c ∷ cs) fs = ap (λ gs. grant_of c.old ∷ gs) (olds cs fs)

news : (cs : List Change) → map (λ t. t.new) (map transfer_of cs) ≡ map grant_of (map (λ c. c.new) cs)
news [] = refl
news (c ∷ cs) = ap (λ gs. grant_of c.new ∷ gs) (news cs)

-- The rectangles of what is live in a sound state, each named once, can be placed anew.
module _ (s : State) (sound : IsSound s) (order : List Allocation) (names : (id : ℕ) → rectangle_in s id ≡ rectangle_among order id)
    (once : AreOfOwnIds order) where
  live_box_of : (a : Allocation) → Contains order a → (o : Option Grant) → find (λ g. g.id == a.id) (live_in s) ≡ o
      → option_map rectangle_of (option_map (λ (g : Grant). g.box) o) ≡ Some a.rectangle
      → IsMovable s.options (grant_of a)
  live_box_of a at None found is = absurd (let none : None ≡ Some a.rectangle = is in cc)
  live_box_of a at (Some g) found is =
      let there = (Contains-find (λ (h : Grant). h.id == a.id) (live_in s) g found).0 in
      let can = All-contains (IsMovable s.options) (live_in s) g (live_movable s sound) there in
      let same : g.box ≡ box_of a.rectangle = ap box_of (same_Some (rectangle_of g.box) a.rectangle is) in
      subst (λ (b : Box). IsMovable s.options (record { id = a.id; box = b })) same can

  movable_one : (a : Allocation) → Contains order a → IsMovable s.options (grant_of a)
  movable_one a at =
      let found = find-counted_once (λ (b : Allocation). b.id == a.id) order a (once a.id) at (eq-eqb a.id a.id refl) in
      let here : rectangle_among order a.id ≡ Some a.rectangle = ap (option_map (λ (b : Allocation). b.rectangle)) found in
      live_box_of a at (find (λ g. g.id == a.id) (live_in s)) refl (names a.id ∙ here)

  movable : All (IsMovable s.options) (map grant_of order)
  movable =
      All-map (IsMovable s.options) grant_of order (λ k d below. movable_one (get_or order k d) (k, below, search rules))

-- Placed anew in an empty state of its size, what was live is told with its moves.
module _ {A : Type 0} (s start t : State) (order : List Allocation) (list : ChangeList A) (sound_s : IsSound s) (sound_t : IsSound t)
    (is_start : start ≡ started s.size s.options s.limit) (made : IsRefitOf start (map grant_of order) (rearrangement_of list) t) where
  abbrev cs : List Change
  cs = list.changes.items

  abbrev fs : List Allocation
  fs = list.failures.items

  pub refits_here : Refits s.size s.options s.limit (fresh s.size) (map grant_of order) (rearrangement_of list) t.tree
  refits_here =
      subst (λ (u : State). Refits u.size u.options u.limit u.tree (map grant_of order) (rearrangement_of list) t.tree) is_start made.refits

  pub state_here : t ≡ after_refit s s.size t.tree
  state_here = search rules

  pub frame_here : KeepsFrame s t
  frame_here = search rules

  module _ (exact : All HasExact order) (names : (id : ℕ) → rectangle_in s id ≡ rectangle_among order id) (once : AreOfOwnIds order)
    where
      all : IsRefitted s.size s.options s.limit (fresh s.size) (map grant_of order) (rearrangement_of list) t.tree
      all =
          refitted s.size s.options s.limit sound_s.valid (map grant_of order) (fresh s.size) (rearrangement_of list) t.tree
          (movable s sound_s order names once) (fresh_well_formed s.size sound_s.well_formed.nonempty) (fresh_normal s.size)
          (All-nil (HasAlignedBox s.options)) (omega (arith, limit_positive s sound_s)) refits_here

      after : IsPermutation (live_in t) (map grant_of (map (λ c. c.new) cs))
      after =
          let ends = subst (λ gs. IsPermutation gs (live s.size t.tree)) (append-nil (map (λ u. u.new) (map transfer_of cs))) all.after in
          let here = subst (λ n. IsPermutation (map (λ u. u.new) (map transfer_of cs)) (live n t.tree)) (sym frame_here.size) ends in
          subst (IsPermutation (live_in t)) (news cs) (IsPermutation-sym (map (λ u. u.new) (map transfer_of cs)) (live_in t) here)

      -- What was named, and what is told of it.
      pub placing_tells : AreExactChanges list → TellsMoves list (rectangle_in s) (rectangle_in t)
      placing_tells exact_list =
          let before = subst (IsPermutation (map grant_of order)) (olds cs fs) all.before in
          let few : (id : ℕ) → count_by (λ (g : Grant). g.id == id) (map grant_of order) ≤ 1 =
          λ id. omega (arith, counted_among order id, once id) in
          let exact_olds = All-map HasExact (λ (c : Change). c.old) cs (All-weaker IsExactChange (λ c. HasExact c.old) (λ c e. e.0) cs
          exact_list.changes) in
          let exact_news = All-map HasExact (λ (c : Change). c.new) cs (All-weaker IsExactChange (λ c. HasExact c.new) (λ c e. e.1) cs
          exact_list.changes) in
          let exact_before = All-append HasExact (map (λ c. c.old) cs) fs exact_olds exact_list.failures in
          record {
            before = λ id. names id ∙ sym (shown_among order exact id)
                ∙ told (map grant_of order) few (map (λ c. c.old) cs ++ fs) before exact_before id;
            after = told (live_in t) (λ id. few_live t id sound_t) (map (λ c. c.new) cs) after exact_news;
            once_before = told_once (map grant_of order) few (map (λ c. c.old) cs ++ fs) before;
            once_after = told_once (live_in t) (λ id. few_live t id sound_t) (map (λ c. c.new) cs) after;
            sides = changes_of (λ u. box_sides u.new.box ≡ box_sides u.old.box) cs all.sides;
            exact = exact_list.changes;
          }

-- One page of a list, a, becomes b by such a placing.
module _ (pages : List AtlasValue) (page : ℕ) (a b : AtlasValue) (is : a ≡ get_or pages page a) (within : page < length pages) where
  had : slice_get pages page ≡ Some a
  had = slice_get-get_or pages page a within ∙ ap Some (sym is)

  has : slice_get (slice_set pages page b) page ≡ Some b
  has = slice_get-set_here pages page b within

  -- A new atlas of its size, with the options of the cache, is as this one began.
  pub starts_alike : (o : CacheOptions) (size : Size) (start : State) → KeepsRooms (rooms_of o pages)
      → size ≡ size_of (state_of a).size
      → start ≡ started (sides_of size) (options_of o.atlas) 16777216
      → start ≡ started (state_of a).size (state_of a).options (state_of a).limit
  starts_alike o size start kept is_size is_start =
      let here = kept.each page a had in
      is_start ∙ ap (λ (n : Size). started (sides_of n) (options_of o.atlas) 16777216) is_size
      ∙ ap (λ p. started (state_of a).size p 16777216) (sym here.options)
      ∙ ap (λ (n : ℕ). started (state_of a).size (state_of a).options n) (sym here.limit)

  pub named_there : (order : List Allocation) → NamesPage pages page order → (id : ℕ)
      → rectangle_in (state_of a) id ≡ rectangle_among order id
  named_there order names id = rw had at (names.told id)

  pub page_repacks : {A : Type 0} (list : ChangeList A)
      → TellsMoves list (rectangle_in (state_of a)) (rectangle_in (state_of b))
      → RepacksPage pages (slice_set pages page b) page list
  page_repacks list tells = record {
    tells = record {
      before = λ id. rw had (tells.before id);
      after = λ id. rw has (tells.after id);
      once_before = tells.once_before;
      once_after = tells.once_after;
      sides = tells.sides;
      exact = tells.exact;
    };
    others = λ k differ. slice_get-set_other pages page k b differ;
  }

  pub page_placed : {A : Type 0} (order : List Allocation) (list : ChangeList A)
      → Refits (state_of a).size (state_of a).options (state_of a).limit (fresh (state_of a).size) (map grant_of order)
      (rearrangement_of list) (state_of b).tree
      → state_of b ≡ after_refit (state_of a) (state_of a).size (state_of b).tree
      → PlacesInOrder pages (slice_set pages page b) page order list.changes.items list.failures.items
  page_placed order list refits state s t was_s is_t =
      let same_s : a ≡ s = same_Some a s (sym had ∙ was_s) in
      let same_t : b ≡ t = same_Some b t (sym has ∙ is_t) in
      rw (← same_s, ← same_t) ((state_of b).tree, refits, state)

-- In whatever order what is live is named, each once, it is.
pub named_permuted : (pages : List AtlasValue) (page : ℕ) (held order : List Allocation) → IsPermutation held order
    → NamesPage pages page held → NamesPage pages page order
named_permuted pages page held order moved names = record {
  told = λ id. names.told id
      ∙ ap (option_map (λ (a : Allocation). a.rectangle)) (sym (find-permutation (λ a. a.id == id) held order moved (names.once id)));
  once = λ id. omega (arith, names.once id, count_by-permutation (λ (a : Allocation). a.id == id) held order moved);
}
