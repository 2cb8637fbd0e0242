-- States that are one but for their ids answer alike.
use Rattle.std.proofs.Common.{◌≡◌, ℕ, ◌+◌, ◌-◌, ◌≤◌, ◌<◌, ◌⊎◌, inl, inr, Bool, true, false, cond, List, [], ◌∷◌, ◌++◌, map, max}
use Rattle.std.proofs.Common.{refl, ap, ap₂, subst, subst₂, sym, ◌∙◌, arith, ◌↔◌}
use Rattle.std.proofs.lemmas.Bool.{true≢false}
use Rattle.std.proofs.lemmas.List.Elements.{Contains-append_left, Contains-append_right, Contains-append_cases}
use Rattle.atlas_model.specs.Boxes.{Axis, Position, Sides, Box, Fits, other, side, sized, moved, box_at, origin}
use Rattle.atlas_model.specs.Boxes.{box_sides, same_box}
use Rattle.atlas_model.specs.Changes.{mark, only, put, placed, place, release, grown, place_need}
use Rattle.atlas_model.specs.Choice.{Options, IsPick, HasRoom, HasNoRoom, rounded}
use Rattle.atlas_model.specs.Cuts.{cut}
use Rattle.atlas_model.specs.Renaming.{renamed_tree, with_name, IsOneToOne, IsNewName, AreAlike, AreSameCalls}
use Rattle.atlas_model.specs.Renaming.{AnswerAlike, is_out_of_memory, AreNamedAlike, AnswersWithoutIds, LiveNamesCount}
use Rattle.atlas_model.specs.States.{State, IsLive, IsSound, free_in, used_in, with_tree, after_placing, after_freeing}
use Rattle.atlas_model.specs.States.{after_growth}
use Rattle.atlas_model.specs.Steps.{AtlasCall, AtlasReply, Step, Takes, Grants, nodes_with, nodes_grown}
use Rattle.atlas_model.specs.Steps.AtlasCall.{Allocate, Deallocate, Grow}
use Rattle.atlas_model.specs.Steps.AtlasReply.{Allocated, NoRoom, Done, Refused, BadCall}
use Rattle.atlas_model.specs.Trees.{Members, Tree, Grant, ids, node_count, free_boxes, slot_count}
use Rattle.atlas_model.specs.Trees.Members.{End, Free, Alloc, Seq}
use Rattle.atlas_model.specs.declared.error.AtlasError.TheVariants.{Memory, Slots, NotLive}
use Rattle.std.specs.List.{Contains}
use Rattle.atlas_model.proofs.StepLemmas.StepEffects.{picks_are_one}
use Rattle.atlas_model.proofs.TreeLemmas.TreeIds.{Contains-first, Contains-later, Contains-none, Contains-cons_cases, unused-absent}
use Rattle.atlas_model.proofs.TreeLemmas.TreeKept.{ids-nf, ids-grown}
use Rattle.atlas_model.proofs.TreeLemmas.TreePuts.{ids-put}
use Rattle.atlas_model.proofs.TreeLemmas.RenamedTrees.{agreeing_renamed, ids-renamed, nodes-renamed, free_renamed, need_renamed}
use Rattle.atlas_model.proofs.TreeLemmas.RenamedTrees.{grown_renamed, place_renamed, release_renamed, with_name-itself, with_name-other}

-- The ids after a change.

pub named_at : (f : ℕ → ℕ) (xs : List ℕ) (x : ℕ) → Contains xs x → Contains (map f xs) (f x)
named_at f [] x at = absurd (Contains-none x at)
named_at f (y ∷ ys) x at =
    elim (Contains-cons_cases y ys x at) [
      | inl same ↦ subst (Contains (map f (y ∷ ys))) (ap f same) (Contains-first (f y) (map f ys))
      | inr later ↦ Contains-later (f y) (map f ys) (f x) (named_at f ys x later)
    ]

ids-marked : (s : ℕ → Bool) (m : Members) (k : ℕ) → Contains (ids (mark s m)) k → Contains (ids m) k
ids-marked s End k at = at
ids-marked s (Free e rest) k at = ids-marked s rest k at
ids-marked s (Alloc id e rest) k at = by_test (s id) (λ h. ids-marked s rest k h) at
  where
    by_place : (Contains (ids (mark s rest)) k → Contains (ids rest) k) → (id ≡ k) ⊎ Contains (ids (mark s rest)) k
        → Contains (id ∷ ids rest) k
    by_place more (inl same) = subst (Contains (id ∷ ids rest)) same (Contains-first id (ids rest))
    by_place more (inr later) = Contains-later id (ids rest) k (more later)

    by_test : (b : Bool) → (Contains (ids (mark s rest)) k → Contains (ids rest) k)
        → Contains (ids (cond b (Free e (mark s rest)) (Alloc id e (mark s rest)))) k → Contains (id ∷ ids rest) k
    by_test true more h = Contains-later id (ids rest) k (more h)
    by_test false more h = by_place more (Contains-cons_cases id (ids (mark s rest)) k h)
ids-marked s (Seq e inner rest) k at =
    elim (Contains-append_cases (ids (mark s inner)) (ids (mark s rest)) k at) [
      | inl h ↦ Contains-append_left (ids inner) (ids rest) k (ids-marked s inner k h)
      | inr h ↦ Contains-append_right (ids inner) (ids rest) k (ids-marked s rest k h)
    ]

pub ids_released : (s : ℕ → Bool) (t : Tree) (k : ℕ) → Contains (ids (release s t).members) k
    → Contains (ids t.members) k
ids_released s t k at = ids-marked s t.members k (subst (λ xs. Contains xs k) (ids-nf (mark s t.members)) at)

-- An id is the new one, or one of a list.
abbrev pub IsNewOr : (id : ℕ) → List ℕ → ℕ → Type 0
IsNewOr id xs k = (id ≡ k) ⊎ Contains xs k

new_or_more : (id : ℕ) (xs ys : List ℕ) (k : ℕ) → (Contains xs k → Contains ys k) → IsNewOr id xs k → IsNewOr id ys k
new_or_more id xs ys k more (inl same) = inl same
new_or_more id xs ys k more (inr h) = inr (more h)

ids-placed_at : (b : Box) (r : Sides) (id : ℕ) (axis : Axis) (o : Position) (across : ℕ) (m : Members) (k : ℕ)
    → Contains (ids (placed b r id axis o across m)) k → IsNewOr id (ids m) k
ids-placed_at b r id axis o across End k at = inr at
ids-placed_at b r id axis o across (Free e rest) k at =
    by_test (same_box (box_at o (sized axis e across)) b) (λ h. ids-placed_at b r id axis (moved axis o e) across rest k h) at
  where
    after : Members
    after = placed b r id axis (moved axis o e) across rest

    by_place : (Contains (ids after) k → IsNewOr id (ids rest) k) → (id ≡ k) ⊎ Contains (ids after) k
        → IsNewOr id (ids rest) k
    by_place more (inl same) = inl same
    by_place more (inr h) = more h

    by_test : (x : Bool) → (Contains (ids after) k → IsNewOr id (ids rest) k)
        → Contains (ids (cond x (put (cut (box_sides b) r) axis e across (side axis r) (side (other axis) r) id after) (Free e after))) k
        → IsNewOr id (ids rest) k
    by_test true more h = grind (arith, after, ids-put)
    by_test false more h = more h
ids-placed_at b r id axis o across (Alloc i e rest) k at =
    elim (Contains-cons_cases i (ids (placed b r id axis (moved axis o e) across rest)) k at) [
      | inl same ↦ inr (subst (Contains (i ∷ ids rest)) same (Contains-first i (ids rest)))
      | inr h ↦
          new_or_more id (ids rest) (i ∷ ids rest) k (λ z. Contains-later i (ids rest) k z)
          (ids-placed_at b r id axis (moved axis o e) across rest k h)
    ]
ids-placed_at b r id axis o across (Seq e inner rest) k at =
    elim (Contains-append_cases (ids (placed b r id (other axis) o e inner)) (ids (placed b r id axis (moved axis o e) across rest)) k at) [
      | inl h ↦
          new_or_more id (ids inner) (ids inner ++ ids rest) k (λ z. Contains-append_left (ids inner) (ids rest) k z)
          (ids-placed_at b r id (other axis) o e inner k h)
      | inr h ↦
          new_or_more id (ids rest) (ids inner ++ ids rest) k (λ z. Contains-append_right (ids inner) (ids rest) k z)
          (ids-placed_at b r id axis (moved axis o e) across rest k h)
    ]

pub ids_placed : (size : Sides) (b : Box) (r : Sides) (id : ℕ) (t : Tree) (k : ℕ)
    → Contains (ids (place size b r id t).members) k
    → (id ≡ k) ⊎ Contains (ids t.members) k
ids_placed size b r id t k at = ids-placed_at b r id t.axis origin (side (other t.axis) size) t.members k at

-- No two ids have one name, also after a grant under a new name.
one_to_one_placed : (f : ℕ → ℕ) (size : Sides) (b : Box) (r : Sides) (id name : ℕ) (t : Tree)
    → (Contains (ids t.members) id → ⊥) → IsNewName f t name → IsOneToOne f (ids t.members)
    → IsOneToOne (with_name f id name) (ids (place size b r id t).members)
one_to_one_placed f size b r id name t absent new one x y at_x at_y same =
    by_place (ids_placed size b r id t x at_x) (ids_placed size b r id t y at_y)
  where
    old_name : (k : ℕ) → Contains (ids t.members) k → with_name f id name k ≡ f k
    old_name k at = with_name-other f id name k (λ e. absent (subst (Contains (ids t.members)) e at))

    its_name : (k : ℕ) → id ≡ k → with_name f id name k ≡ name
    its_name k e = ap (with_name f id name) (sym e) ∙ with_name-itself f id name

    taken : (k : ℕ) → Contains (ids t.members) k → f k ≡ name → ⊥
    taken k at e = new (subst (λ xs. Contains xs name) (sym (ids-renamed f t.members))
        (subst (Contains (map f (ids t.members))) e (named_at f (ids t.members) k at)))

    by_place : (id ≡ x) ⊎ Contains (ids t.members) x → (id ≡ y) ⊎ Contains (ids t.members) y → x ≡ y
    by_place (inl e) (inl e') = sym e ∙ e'
    by_place (inl e) (inr at) = absurd (taken y at (sym (old_name y at) ∙ sym same ∙ its_name x e))
    by_place (inr at) (inl e) = absurd (taken x at (sym (old_name x at) ∙ same ∙ its_name y e))
    by_place (inr at) (inr at') = one x y at at' (sym (old_name x at) ∙ same ∙ old_name y at')

-- What two states that are alike have in common.

nodes_same : (f g : ℕ → ℕ) (v u : Tree) → renamed_tree g u ≡ renamed_tree f v
    → node_count u.members ≡ node_count v.members
nodes_same f g v u same = sym (nodes-renamed g u.members) ∙ ap (λ (k : Tree). node_count k.members) same ∙ nodes-renamed f v.members

names_same : (f g : ℕ → ℕ) (v u : Tree) (name : ℕ) → renamed_tree g u ≡ renamed_tree f v → IsNewName f v name
    → IsNewName g u name
names_same f g v u name same new at = new (subst (λ (k : Tree). Contains (ids k.members) name) same at)

module _ (f g : ℕ → ℕ) (s t : State) (a : AreAlike f g s t) where
  free_same : free_in t ≡ free_in s
  free_same =
      ap (λ n. free_boxes n t.tree) a.size ∙ sym (free_renamed g s.size t.tree) ∙ ap (free_boxes s.size) a.tree
      ∙ free_renamed f s.size s.tree

  used_same : used_in t ≡ used_in s
  used_same = nodes_same f g s.tree t.tree a.tree

  need_same : (b : Box) (r : Sides) → place_need t.size b r t.tree ≡ place_need s.size b r s.tree
  need_same b r =
      ap (λ n. place_need n b r t.tree) a.size ∙ sym (need_renamed g s.size b r t.tree) ∙ ap (place_need s.size b r) a.tree
      ∙ need_renamed f s.size b r s.tree

  nodes_with_same : (r : Sides) (b : Box) → nodes_with t r b ≡ nodes_with s r b
  nodes_with_same r b =
      ap₂ (λ (j k : ℕ). j + k) used_same
      (ap (λ o. place_need t.size b (rounded o r) t.tree) a.options ∙ need_same b (rounded s.options r))

  grown_same : (n : Sides) → renamed_tree g (grown t.size n t.tree) ≡ renamed_tree f (grown s.size n s.tree)
  grown_same n =
      grown_renamed g t.size n t.tree ∙ ap₂ (λ o u. grown o n u) a.size a.tree ∙ sym (grown_renamed f s.size n s.tree)

  nodes_grown_same : (n : Sides) → nodes_grown t n ≡ nodes_grown s n
  nodes_grown_same n =
      ap₂ (λ (j k : ℕ). j + (k - j)) used_same
      (nodes_same f g (grown s.size n s.tree) (grown t.size n t.tree) (grown_same n))

  room_same : (r : Sides) → HasRoom (free_in t) t.options r ≡ HasRoom (free_in s) s.options r
  room_same r = ap₂ (λ free o. HasRoom free o r) free_same a.options

  -- Both take one box.
  taken_same : (r : Sides) (b c : Box) → IsSound s → Takes s r b → Takes t r c → c ≡ b
  taken_same r b c sound h k =
      sym (picks_are_one s (rounded s.options r) b c sound h.pick
      (subst₂ (λ free o. IsPick free o (rounded o r) c) free_same a.options k.pick))

  -- The states in which both trees are others.
  alike_after : (i j : ℕ → ℕ) (n : Sides) (v u : Tree) → renamed_tree j u ≡ renamed_tree i v
      → IsOneToOne i (ids v.members)
      → IsOneToOne j (ids u.members)
      → AreAlike i j (record s { tree = v; size = n; kept = max s.kept (node_count v.members) })
      (record t { tree = u; size = n; kept = max t.kept (node_count u.members) })
  alike_after i j n v u same one two = record {
    size = refl;
    options = a.options;
    limit = a.limit;
    kept = ap₂ max a.kept (nodes_same i j v u same);
    tree = same;
    names = one;
    twins = two;
  }

  unchanged : (s' t' : State) → s' ≡ s → t' ≡ t → AreAlike f g s' t'
  unchanged s' t' is is' = subst₂ (AreAlike f g) (sym is) (sym is') a

  granted_alike : (r : Sides) (b : Box) (id other_id name : ℕ) → slot_count id (ids s.tree.members) ≡ 0
      → slot_count other_id (ids t.tree.members) ≡ 0 → IsNewName f s.tree name
      → AreAlike (with_name f id name) (with_name g other_id name) (after_placing s b r id) (after_placing t b r other_id)
  granted_alike r b id other_id name unused unused' new =
      subst (λ n. AreAlike (with_name f id name) (with_name g other_id name) (after_placing s b r id)
      (with_tree (record t { size = n }) (place n b r other_id t.tree)))
      (sym a.size) (alike_after (with_name f id name) (with_name g other_id name) s.size (place s.size b r id s.tree)
      (place s.size b r other_id t.tree)
      (place_renamed g s.size t.tree b r other_id name absent' ∙ ap (place s.size b r name) a.tree
      ∙ sym (place_renamed f s.size s.tree b r id name absent))
      (one_to_one_placed f s.size b r id name s.tree absent new a.names)
      (one_to_one_placed g s.size b r other_id name t.tree absent' (names_same f g s.tree t.tree name a.tree new) a.twins))
    where
      absent : Contains (ids s.tree.members) id → ⊥
      absent = unused-absent id (ids s.tree.members) unused

      absent' : Contains (ids t.tree.members) other_id → ⊥
      absent' = unused-absent other_id (ids t.tree.members) unused'

  freed_alike : (id twin : ℕ) → IsLive s id → IsLive t twin → g twin ≡ f id
      → AreAlike f g (after_freeing s (only id)) (after_freeing t (only twin))
  freed_alike id twin at at' same =
      subst (λ n. AreAlike f g (after_freeing s (only id)) (with_tree (record t { size = n }) (release (only twin) t.tree)))
      (sym a.size) (alike_after f g s.size (release (only id) s.tree) (release (only twin) t.tree)
      (release_renamed g t.tree twin a.twins at' ∙ ap₂ (λ k u. release (only k) u) same a.tree
      ∙ sym (release_renamed f s.tree id a.names at))
      (λ x y at_x at_y. a.names x y (ids_released (only id) s.tree x at_x) (ids_released (only id) s.tree y at_y))
      (λ x y at_x at_y. a.twins x y (ids_released (only twin) t.tree x at_x) (ids_released (only twin) t.tree y at_y)))

  grown_alike : (n : Sides) → AreAlike f g (after_growth s n) (after_growth t n)
  grown_alike n =
      alike_after f g n (grown s.size n s.tree) (grown t.size n t.tree) (grown_same n)
      (subst (IsOneToOne f) (sym (ids-grown s.size n s.tree.axis s.tree.members)) a.names)
      (subst (IsOneToOne g) (sym (ids-grown t.size n t.tree.axis t.tree.members)) a.twins)

-- The replies that don't refuse for memory.

abbrev Came : State → Sides → AtlasReply → State → Type 0
Came s r reply s' =
    ((reply ≡ NoRoom) × HasNoRoom (free_in s) s.options r × (s' ≡ s))
    ⊎ (((h : Grant) × (b : Box) × (reply ≡ Allocated h) × Grants s r b h s')
    ⊎ ((b : Box) × (reply ≡ Refused Slots) × Takes s r b × (s.limit < nodes_with s r b) × (s' ≡ s)))

came : (s s' : State) (r : Sides) (reply : AtlasReply) → Step s (Allocate r) reply s' → is_out_of_memory reply ≡ false
    → Came s r reply s'
came s s' r NoRoom h met = inl (refl, h.0, h.1)
came s s' r (Allocated k) h met = inr (inl (k, h.0, refl, h.1))
came s s' r (Refused Slots) h met = inr (inr (h.0, refl, h.1, h.2, h.3))
came s s' r (Refused Memory) h met = absurd (true≢false met)
came s s' r reply h met = absurd h

pub has_room : (s : State) (r : Sides) (b : Box) → Takes s r b → HasRoom (free_in s) s.options r
has_room s r b h = record { positive = h.positive; box = b; fitting = h.pick.best.candidate.fitting }

abbrev Freed : State → (id : ℕ) → AtlasReply → State → Type 0
Freed s id reply s' =
    ((reply ≡ Done) × IsLive s id × (s' ≡ after_freeing s (only id)))
    ⊎ ((reply ≡ Refused NotLive) × (IsLive s id → ⊥) × (s' ≡ s))

freed : (s s' : State) (id : ℕ) (reply : AtlasReply) → Step s (Deallocate id) reply s' → Freed s id reply s'
freed s s' id (Refused NotLive) h = inr (refl, h.0, h.1)
freed s s' id Done h = inl (refl, h.0, h.1)
freed s s' id reply h = absurd h

abbrev Grew : State → Sides → AtlasReply → State → Type 0
Grew s n reply s' =
    ((reply ≡ BadCall) × (Fits s.size n → ⊥) × (s' ≡ s))
    ⊎ (((reply ≡ Done) × Fits s.size n × (nodes_grown s n ≤ s.limit) × (s' ≡ after_growth s n))
    ⊎ ((reply ≡ Refused Slots) × Fits s.size n × (s.limit < nodes_grown s n) × (s' ≡ s)))

grew : (s s' : State) (n : Sides) (reply : AtlasReply) → Step s (Grow n) reply s' → is_out_of_memory reply ≡ false
    → Grew s n reply s'
grew s s' n (Refused Slots) h met = inr (inr (refl, h.0, h.1, h.2))
grew s s' n (Refused Memory) h met = absurd (true≢false met)
grew s s' n Done h met = inr (inl (refl, h.0, h.1, h.2))
grew s s' n BadCall h met = inl (refl, h.0, h.1)
grew s s' n reply h met = absurd h

-- Each call from states that are alike.

past_limit : (used others limit bound : ℕ) → others ≡ used → bound ≡ limit → used ≤ limit → bound < others → ⊥
past_limit used others limit bound e e' few many = omega arith

module _ (f g : ℕ → ℕ) (s t : State) (a : AreAlike f g s t) (sound : IsSound s) (s' t' : State) where
  -- Both replies are the same, and change nothing.
  both_unchanged : (reply answer is : AtlasReply) → AnswerAlike f g s s' t' is is ≡ ((is ≡ is) × AreAlike f g s' t')
      → reply ≡ is → answer ≡ is → s' ≡ s → t' ≡ t → AnswerAlike f g s s' t' reply answer
  both_unchanged reply answer is plain e e' same same' =
      subst₂ (AnswerAlike f g s s' t') (sym e) (sym e')
      (subst (λ (X : Type 0). X) (sym plain) (refl, unchanged f g s t a s' t' same same'))

  both_granted : (r : Sides) (h k : Grant) (b c : Box) → Grants s r b h s' → Grants t r c k t'
      → AnswerAlike f g s s' t' (Allocated h) (Allocated k)
  both_granted r h k b c x y =
      let same : c ≡ b = taken_same f g s t a r b c sound x.takes y.takes in
      let other : t' ≡ after_placing t b (rounded s.options r) k.id =
      y.state ∙ ap₂ (λ d o. after_placing t d (rounded o r) k.id) same a.options in (
        y.box ∙ ap₂ (λ (d : Box) (o : Options). box_at d.min (rounded o r)) same a.options ∙ sym x.box,
        λ name new. subst₂ (AreAlike (with_name f h.id name) (with_name g k.id name)) (sym x.state) (sym other)
            (granted_alike f g s t a (rounded s.options r) b h.id k.id name x.unused y.unused new),
      )

  roomless : (r : Sides) (b : Box) → HasNoRoom (free_in s) s.options r → Takes t r b → ⊥
  roomless r b none x = none (subst (λ (X : Type 0). X) (room_same f g s t a r) (has_room t r b x))

  no_room : (r : Sides) (b : Box) → HasNoRoom (free_in t) t.options r → Takes s r b → ⊥
  no_room r b none x = none (subst (λ (X : Type 0). X) (sym (room_same f g s t a r)) (has_room s r b x))

  -- One limit can't be both passed and not passed.
  passed : (r : Sides) (b c : Box) → Takes s r b → Takes t r c → nodes_with s r b ≤ s.limit → t.limit < nodes_with t r c
      → ⊥
  passed r b c x y few many =
      past_limit _ _ _ _ (ap (nodes_with t r) (taken_same f g s t a r b c sound x y) ∙ nodes_with_same f g s t a r b) a.limit few many

  unpassed : (r : Sides) (b c : Box) → Takes s r b → Takes t r c → s.limit < nodes_with s r b
      → nodes_with t r c ≤ t.limit → ⊥
  unpassed r b c x y many few =
      past_limit _ _ _ _ (sym (ap (nodes_with t r) (taken_same f g s t a r b c sound x y) ∙ nodes_with_same f g s t a r b))
      (sym a.limit) few many

  allocated_alike : (r : Sides) (reply answer : AtlasReply) → Came s r reply s' → Came t r answer t'
      → AnswerAlike f g s s' t' reply answer
  allocated_alike r reply answer (inl x) (inl y) = both_unchanged reply answer NoRoom refl x.0 y.0 x.2 y.2
  allocated_alike r reply answer (inl x) (inr (inl y)) = absurd (roomless r y.1 x.1 y.3.takes)
  allocated_alike r reply answer (inl x) (inr (inr y)) = absurd (roomless r y.0 x.1 y.2)
  allocated_alike r reply answer (inr (inl x)) (inl y) = absurd (no_room r x.1 y.1 x.3.takes)
  allocated_alike r reply answer (inr (inl x)) (inr (inl y)) =
      subst₂ (AnswerAlike f g s s' t') (sym x.2) (sym y.2) (both_granted r x.0 y.0 x.1 y.1 x.3 y.3)
  allocated_alike r reply answer (inr (inl x)) (inr (inr y)) = absurd (passed r x.1 y.0 x.3.takes y.2 x.3.room y.3)
  allocated_alike r reply answer (inr (inr x)) (inl y) = absurd (no_room r x.0 y.1 x.2)
  allocated_alike r reply answer (inr (inr x)) (inr (inl y)) = absurd (unpassed r x.0 y.1 x.2 y.3.takes x.3 y.3.room)
  allocated_alike r reply answer (inr (inr x)) (inr (inr y)) = both_unchanged reply answer (Refused Slots) refl x.1 y.1 x.4 y.4

  deallocated_alike : (id twin : ℕ) (reply answer : AtlasReply) → IsLive s id ↔ IsLive t twin
      → (IsLive s id → g twin ≡ f id)
      → Freed s id reply s' → Freed t twin answer t' → AnswerAlike f g s s' t' reply answer
  deallocated_alike id twin reply answer both same (inl x) (inl y) =
      subst₂ (AnswerAlike f g s s' t') (sym x.0) (sym y.0)
      (refl, subst₂ (AreAlike f g) (sym x.2) (sym y.2) (freed_alike f g s t a id twin x.1 y.1 (same x.1)))
  deallocated_alike id twin reply answer both same (inl x) (inr y) = absurd (y.1 (both.0 x.1))
  deallocated_alike id twin reply answer both same (inr x) (inl y) = absurd (x.1 (both.1 y.1))
  deallocated_alike id twin reply answer both same (inr x) (inr y) = both_unchanged reply answer (Refused NotLive) refl x.0 y.0 x.2 y.2

  growths_alike : (n : Sides) (reply answer : AtlasReply) → Grew s n reply s' → Grew t n answer t'
      → AnswerAlike f g s s' t' reply answer
  growths_alike n reply answer (inl x) (inl y) = both_unchanged reply answer BadCall refl x.0 y.0 x.2 y.2
  growths_alike n reply answer (inl x) (inr (inl y)) = absurd (x.1 (subst (λ z. Fits z n) a.size y.1))
  growths_alike n reply answer (inl x) (inr (inr y)) = absurd (x.1 (subst (λ z. Fits z n) a.size y.1))
  growths_alike n reply answer (inr (inl x)) (inl y) = absurd (y.1 (subst (λ z. Fits z n) (sym a.size) x.1))
  growths_alike n reply answer (inr (inl x)) (inr (inl y)) =
      subst₂ (AnswerAlike f g s s' t') (sym x.0) (sym y.0)
      (refl, subst₂ (AreAlike f g) (sym x.3) (sym y.3) (grown_alike f g s t a n))
  growths_alike n reply answer (inr (inl x)) (inr (inr y)) = absurd (past_limit _ _ _ _ (nodes_grown_same f g s t a n) a.limit x.2 y.2)
  growths_alike n reply answer (inr (inr x)) (inl y) = absurd (y.1 (subst (λ z. Fits z n) (sym a.size) x.1))
  growths_alike n reply answer (inr (inr x)) (inr (inl y)) =
      absurd (past_limit _ _ _ _ (sym (nodes_grown_same f g s t a n)) (sym a.limit) y.2 x.2)
  growths_alike n reply answer (inr (inr x)) (inr (inr y)) = both_unchanged reply answer (Refused Slots) refl x.0 y.0 x.3 y.3

by_call : (f g : ℕ → ℕ) (s t s' t' : State) (call twin : AtlasCall) (reply answer : AtlasReply) → IsSound s
    → AreAlike f g s t
    → AreSameCalls f g s t call twin → Step s call reply s' → Step t twin answer t'
    → is_out_of_memory reply ≡ false → is_out_of_memory answer ≡ false → AnswerAlike f g s s' t' reply answer
by_call f g s t s' t' (Allocate r) (Allocate q) reply answer sound a same h k met met' =
    allocated_alike f g s t a sound s' t' r reply answer (came s s' r reply h met)
    (subst (λ z. Came t z answer t') same (came t t' q answer k met'))
by_call f g s t s' t' (Deallocate id) (Deallocate twin) reply answer sound a same h k met met' =
    deallocated_alike f g s t a sound s' t' id twin reply answer same.0 same.1 (freed s s' id reply h) (freed t t' twin answer k)
by_call f g s t s' t' (Grow n) (Grow m) reply answer sound a same h k met met' =
    growths_alike f g s t a sound s' t' n reply answer (grew s s' n reply h met)
    (subst (λ z. Grew t z answer t') same (grew t t' m answer k met'))
by_call f g s t s' t' call twin reply answer sound a same h k met met' = absurd same

pub answers_without_ids : AnswersWithoutIds
answers_without_ids f g s t s' t' call twin reply answer sound sound' a same h k met met' =
    by_call f g s t s' t' call twin reply answer sound a same h k met met'

-- The names of ids that aren't live don't count.

same_one_to_one : (f g : ℕ → ℕ) (xs : List ℕ) → AreNamedAlike f g xs → IsOneToOne f xs → IsOneToOne g xs
same_one_to_one f g xs same one a b at_a at_b e = one a b at_a at_b (sym (same a at_a) ∙ e ∙ same b at_b)

pub live_names_count : LiveNamesCount
live_names_count f g i j s t a same twins = record {
  size = a.size;
  options = a.options;
  limit = a.limit;
  kept = a.kept;
  tree = agreeing_renamed g j t.tree twins ∙ a.tree ∙ sym (agreeing_renamed f i s.tree same);
  names = same_one_to_one f i (ids s.tree.members) same a.names;
  twins = same_one_to_one g j (ids t.tree.members) twins a.twins;
}

pub ruleset alike_laws = (answers_without_ids, live_names_count)
