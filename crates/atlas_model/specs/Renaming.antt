-- Trees and states under names: each id is replaced by a name, and what two atlases have in common but for their ids.
use Rattle.std.specs.Prelude.{◌≡◌, ℕ, ◌==◌, Bool, true, false, ◌↔◌, if◌then◌else◌, List, Contains, map}
use Rattle.atlas_model.specs.declared.error.AtlasError.TheVariants.{Memory}
use Rattle.atlas_model.specs.Boxes.{Sides, Box}
use Rattle.atlas_model.specs.Trees.{Members, Tree, Grant, grant, live, free_boxes, ids, node_count}
use Rattle.atlas_model.specs.Trees.Members.{End, Free, Alloc, Seq}
use Rattle.atlas_model.specs.Changes.{only, place, release, grown}
use Rattle.atlas_model.specs.States.{State, IsLive, IsSound}
use Rattle.atlas_model.specs.Steps.{AtlasCall, AtlasReply, Step}
use Rattle.atlas_model.specs.Steps.AtlasCall.{Allocate, Deallocate, Grow}
use Rattle.atlas_model.specs.Steps.AtlasReply.{Allocated, Refused}

-- Members with the name f id in place of each id.
abbrev pub renamed : (ℕ → ℕ) → Members → Members
renamed f End = End
renamed f (Free e rest) = Free e (renamed f rest)
renamed f (Alloc id e rest) = Alloc (f id) e (renamed f rest)
renamed f (Seq e inner rest) = Seq e (renamed f inner) (renamed f rest)

abbrev pub renamed_tree : (ℕ → ℕ) → Tree → Tree
renamed_tree f t = record { axis = t.axis; members = renamed f t.members }

abbrev pub renamed_grant : (ℕ → ℕ) → Grant → Grant
renamed_grant f g = grant (f g.id) g.box

-- Names as before, but for one id.
abbrev pub with_name : (ℕ → ℕ) → (id name : ℕ) → ℕ → ℕ
with_name f id name k = if k == id then name else f k

-- No two of the ids have one name.
abbrev pub IsOneToOne : (ℕ → ℕ) → List ℕ → Type 0
IsOneToOne f xs = (a b : ℕ) → Contains xs a → Contains xs b → f a ≡ f b → a ≡ b

-- No id of the tree has this name.
abbrev pub IsNewName : (ℕ → ℕ) → Tree → (name : ℕ) → Type 0
IsNewName f t name = Contains (ids (renamed f t.members)) name → ⊥

-- The ids of a list have the same names by both.
abbrev pub AreNamedAlike : (f g : ℕ → ℕ) → List ℕ → Type 0
AreNamedAlike f g xs = (id : ℕ) → Contains xs id → g id ≡ f id

-- What a tree shows doesn't depend on its ids, and placing, freeing and growing are the same under names.
pub record RenamingChangesNothing : Type 0 where
  pub itself : (t : Tree) → renamed_tree (λ id. id) t ≡ t
  -- The names of other ids don't count.
  pub own_ids : (f g : ℕ → ℕ) (t : Tree) → AreNamedAlike f g (ids t.members) → renamed_tree g t ≡ renamed_tree f t
  pub names : (f : ℕ → ℕ) (t : Tree) → ids (renamed_tree f t).members ≡ map f (ids t.members)
  pub members : (f : ℕ → ℕ) (t : Tree) → node_count (renamed_tree f t).members ≡ node_count t.members
  pub live : (f : ℕ → ℕ) (size : Sides) (t : Tree) → live size (renamed_tree f t) ≡ map (renamed_grant f) (live size t)
  pub free : (f : ℕ → ℕ) (size : Sides) (t : Tree) → free_boxes size (renamed_tree f t) ≡ free_boxes size t
  pub grown :
      (f : ℕ → ℕ) (old new : Sides) (t : Tree) → renamed_tree f (grown old new t) ≡ grown old new (renamed_tree f t)
  pub placed :
      (f : ℕ → ℕ) (size : Sides) (t : Tree) (b : Box) (r : Sides) (id name : ℕ) → (Contains (ids t.members) id → ⊥)
      → renamed_tree (with_name f id name) (place size b r id t) ≡ place size b r name (renamed_tree f t)
  pub released :
      (f : ℕ → ℕ) (t : Tree) (id : ℕ) → IsOneToOne f (ids t.members) → Contains (ids t.members) id
      → renamed_tree f (release (only id) t) ≡ release (only (f id)) (renamed_tree f t)

-- Two states are one but for their ids: with names by f in the one and by g in the other, their trees are the same, and
-- no name has two ids.
pub record AreAlike (f g : ℕ → ℕ) (s t : State) : Type 0 where
  pub size : t.size ≡ s.size
  pub options : t.options ≡ s.options
  pub limit : t.limit ≡ s.limit
  pub kept : t.kept ≡ s.kept
  pub tree : renamed_tree g t.tree ≡ renamed_tree f s.tree
  pub names : IsOneToOne f (ids s.tree.members)
  pub twins : IsOneToOne g (ids t.tree.members)

-- The two calls ask for the same: a grant or a growth of the same sides, or that ids of one name be freed.
abbrev pub AreSameCalls : (f g : ℕ → ℕ) → (s t : State) → (call twin : AtlasCall) → Type 0
AreSameCalls f g s t (Allocate r) (Allocate q) = q ≡ r
AreSameCalls f g s t (Grow n) (Grow m) = m ≡ n
AreSameCalls f g s t (Deallocate a) (Deallocate b) = (IsLive s a ↔ IsLive t b) × (IsLive s a → g b ≡ f a)
AreSameCalls f g s t _ _ = ⊥

-- The two replies are one but for ids, and so are the states s' and t' that they lead to. Granted boxes are the same,
-- and a name that no id of s had may be the name of both new ids.
abbrev pub AnswerAlike : (f g : ℕ → ℕ) → (s s' t' : State) → (reply answer : AtlasReply) → Type 0
AnswerAlike f g s s' t' (Allocated a) (Allocated b) =
    (b.box ≡ a.box)
    × ((name : ℕ) → IsNewName f s.tree name → AreAlike (with_name f a.id name) (with_name g b.id name) s' t')
AnswerAlike f g s s' t' reply answer = (answer ≡ reply) × AreAlike f g s' t'

-- Whether memory was wanting.
abbrev pub is_out_of_memory : AtlasReply → Bool
is_out_of_memory (Refused Memory) = true
is_out_of_memory _ = false

-- Two sound states that are one but for their ids answer each grant, freeing and growth alike, where neither is refused
-- for memory, and are one but for their ids after it.
abbrev pub AnswersWithoutIds : Type 0
AnswersWithoutIds =
    (f g : ℕ → ℕ) (s t s' t' : State) (call twin : AtlasCall) (reply answer : AtlasReply) → IsSound s → IsSound t
    → AreAlike f g s t → AreSameCalls f g s t call twin → Step s call reply s' → Step t twin answer t'
    → is_out_of_memory reply ≡ false → is_out_of_memory answer ≡ false → AnswerAlike f g s s' t' reply answer

-- Two states that are one but for their ids are so by all functions that give their live ids the same names.
abbrev pub LiveNamesCount : Type 0
LiveNamesCount =
    (f g i j : ℕ → ℕ) (s t : State) → AreAlike f g s t → AreNamedAlike f i (ids s.tree.members)
    → AreNamedAlike g j (ids t.tree.members) → AreAlike i j s t
