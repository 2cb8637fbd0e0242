-- The laws of trees of cuts, each as one statement, and the words that they need.
use Rattle.std.specs.Prelude.{◌≡◌, ℕ, ◌+◌, ◌*◌, ◌<◌, ◌≤◌, Bool, true, false, not, ◌||◌, List, [], ◌∷◌, All, Contains}
use Rattle.std.specs.Prelude.{count_by, sum_by, filter, IsPermutation}
use Rattle.atlas_model.specs.Boxes.{Sides, Box, area, box_at, box_sides, covers, whole_box, Fits, IsPositive}
use Rattle.atlas_model.specs.Boxes.{IsNonempty, IsWithin, IsInside}
use Rattle.atlas_model.specs.Trees.{Members, Tree, Grant, grant, tree_leaves, live, free_boxes, ids, slot_count}
use Rattle.atlas_model.specs.Trees.{is_one_free, node_count, IsWellFormed, IsNormal, IsOneFree}
use Rattle.atlas_model.specs.Changes.{nf, mark, only, and_id, release, place, grown, place_need, grow_need}

-- Each unit square of the atlas lies in exactly one leaf's box, and no box is empty or passes the sides of the atlas.
pub record Tiles (size : Sides) (t : Tree) : Type 0 where
  pub squares : (x y : ℕ) → x < size.width → y < size.height → count_by (λ l. covers x y l.box) (tree_leaves size t) ≡ 1
  pub boxes : All (λ l. IsNonempty l.box × IsWithin size l.box) (tree_leaves size t)

-- The leaves of a well formed tree tile the atlas.
abbrev pub LeavesTile : Type 0
LeavesTile = (size : Sides) (t : Tree) → IsWellFormed size t → Tiles size t

-- The areas of the leaves' boxes add up to that of the atlas.
abbrev pub AreasAddUp : Type 0
AreasAddUp =
    (size : Sides) (t : Tree) → IsWellFormed size t
    → sum_by (λ l. area l.box) (tree_leaves size t) ≡ size.width * size.height

-- Whether an id is in a list.
abbrev pub is_among : List ℕ → ℕ → Bool
is_among [] id = false
is_among (x ∷ rest) id = only x id || is_among rest id

-- The tree once the ids of a list are freed, one after another.
abbrev pub release_each : List ℕ → Tree → Tree
release_each [] t = t
release_each (id ∷ rest) t = release_each rest (release (only id) t)

-- What is freed may be freed in any order, in one go or one id after another.
pub record ReleasesInAnyOrder : Type 0 where
  -- Normalising before a freeing changes nothing of what it leaves.
  pub normalised_before : (s : ℕ → Bool) (m : Members) → nf (mark s (nf m)) ≡ nf (mark s m)
  -- A set freed after another is both freed at once.
  pub two_sets : (s s' : ℕ → Bool) (t : Tree) → release s' (release s t) ≡ release (λ id. s id || s' id) t
  -- Ids freed one after another are their set freed at once, in any tree if there is one to free, and for each list in
  -- a normal tree.
  pub one_by_one : (id : ℕ) (rest : List ℕ) (t : Tree) → release_each (id ∷ rest) t ≡ release (is_among (id ∷ rest)) t
  pub normal_tree : (xs : List ℕ) (t : Tree) → IsNormal t.members → release_each xs t ≡ release (is_among xs) t
  -- So the order of a list and its repetitions don't count.
  pub any_order : (xs ys : List ℕ) (t : Tree) → ((id : ℕ) → is_among xs id ≡ is_among ys id)
      → release_each xs t ≡ release_each ys t

-- A grant is undone by its freeing, whatever is freed with it.
abbrev pub GrantsAreUndone : Type 0
GrantsAreUndone =
    (size : Sides) (t : Tree) (f : Box) (r : Sides) (id : ℕ) (s : ℕ → Bool) → (Contains (ids t.members) id → ⊥)
    → Fits r (box_sides f)
    → release (and_id s id) (place size f r id t) ≡ release s t

-- A growth and a freeing may come in either order. Where one free leaf is left, both ways leave one as large as the new
-- sides, and the axes may differ.
pub record GrowthAndReleaseSwap : Type 0 where
  pub same :
      (old new : Sides) (t : Tree) (s : ℕ → Bool) → IsWellFormed old t → Fits old new
      → is_one_free (release s t).members ≡ false
      → release s (grown old new t) ≡ grown old new (release s t)
  pub one_free :
      (old new : Sides) (t : Tree) (s : ℕ → Bool) → IsWellFormed old t → Fits old new
      → is_one_free (release s t).members ≡ true
      → IsOneFree new (release s (grown old new t)) × IsOneFree new (grown old new (release s t))
  pub its_box : (size : Sides) (t : Tree) → IsOneFree size t → free_boxes size t ≡ whole_box size ∷ []

-- A well formed normal tree with nothing live is one free leaf, and its free boxes are the whole box.
abbrev pub NothingLiveIsOneFree : Type 0
NothingLiveIsOneFree =
    (size : Sides) (t : Tree) → IsWellFormed size t → IsNormal t.members → live size t ≡ []
    → IsOneFree size t × (free_boxes size t ≡ whole_box size ∷ [])

-- A request for a free box that it fits, and an id of an unused slot.
pub record IsPlaceable (size : Sides) (t : Tree) (f : Box) (r : Sides) (id : ℕ) : Type 0 where
  pub is_free : Contains (free_boxes size t) f
  pub positive : IsPositive r
  pub fits : Fits r (box_sides f)
  pub unused : slot_count id (ids t.members) ≡ 0

-- The grant lies inside the free box, and is all that is new.
pub record IsPlaced (size : Sides) (t : Tree) (f : Box) (r : Sides) (id : ℕ) : Type 0 where
  pub well_formed : IsWellFormed size (place size f r id t)
  pub normal : IsNormal t.members → IsNormal (place size f r id t).members
  pub live : IsPermutation (grant id (box_at f.min r) ∷ live size t) (live size (place size f r id t))
  pub inside : IsInside (box_at f.min r) f

-- A placing keeps a tree well formed and normal, and adds its grant to what is live.
abbrev pub PlacingsKeepTrees : Type 0
PlacingsKeepTrees =
    (size : Sides) (t : Tree) (f : Box) (r : Sides) (id : ℕ) → IsWellFormed size t → IsPlaceable size t f r id
    → IsPlaced size t f r id

-- What is freed is no longer live, and no other box moves.
pub record IsReleased (size : Sides) (s : ℕ → Bool) (t : Tree) : Type 0 where
  pub well_formed : IsWellFormed size (release s t)
  pub normal : IsNormal (release s t).members
  pub live : live size (release s t) ≡ filter (λ g. not (s g.id)) (live size t)

-- A freeing keeps a tree well formed, leaves it normal, and takes what it frees from what is live.
abbrev pub ReleasesKeepTrees : Type 0
ReleasesKeepTrees = (size : Sides) (s : ℕ → Bool) (t : Tree) → IsWellFormed size t → IsReleased size s t

-- A box lies inside one of the boxes.
abbrev pub LiesInOneOf : List Box → Box → Type 0
LiesInOneOf boxes b = (c : Box) × Contains boxes c × IsInside b c

-- Every live box stays, and each free box of before lies in a free box.
pub record IsGrown (old new : Sides) (t : Tree) : Type 0 where
  pub well_formed : IsWellFormed new (grown old new t)
  pub normal : IsNormal (grown old new t).members
  pub live : live new (grown old new t) ≡ live old t
  pub free : All (LiesInOneOf (free_boxes new (grown old new t))) (free_boxes old t)

-- A growth keeps a tree well formed and normal, what is live, and the room of what is free.
abbrev pub GrowthsKeepTrees : Type 0
GrowthsKeepTrees =
    (old new : Sides) (t : Tree) → IsWellFormed old t → IsNormal t.members → Fits old new → IsGrown old new t

-- Right after a live box is freed, a free box has room for its sides.
abbrev pub FreedHasRoom : Type 0
FreedHasRoom =
    (size : Sides) (t : Tree) (s : ℕ → Bool) (g : Grant) → IsWellFormed size t → Contains (live size t) g
    → s g.id ≡ true
    → (f : Box) × Contains (free_boxes size (release s t)) f × IsInside g.box f × Fits (box_sides g.box) (box_sides f)

-- How many members a placing, a growth and a freeing add: what the placing needs, at most four; what the growth needs,
-- at most three; none.
pub record MembersAreCounted : Type 0 where
  pub placed :
      (size : Sides) (t : Tree) (f : Box) (r : Sides) (id : ℕ)
      → node_count (place size f r id t).members ≡ node_count t.members + place_need size f r t
  pub placed_most :
      (size : Sides) (t : Tree) (f : Box) (r : Sides) → IsWellFormed size t → IsPositive r → Fits r (box_sides f)
      → place_need size f r t ≤ 4
  pub grown : (old new : Sides) (t : Tree)
      → node_count (grown old new t).members ≡ node_count t.members + grow_need old new t
  pub grown_most : (old new : Sides) (t : Tree) → grow_need old new t ≤ 3
  pub released : (s : ℕ → Bool) (t : Tree) → node_count (release s t).members ≤ node_count t.members
