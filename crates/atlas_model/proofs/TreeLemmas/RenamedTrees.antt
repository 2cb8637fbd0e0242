-- Names in place of ids: what a tree shows is the same, and placing, freeing and growing are the same under them.
use Rattle.std.proofs.Common.{rules, ◌≡◌, ℕ, ◌+◌, ◌-◌, Bool, true, false, cond, List, ◌∷◌, ◌++◌, map, refl, ap, ap₂, subst, sym}
use Rattle.std.proofs.Common.{◌∙◌}
use Rattle.std.specs.Prelude.{nat_lt}
use Rattle.std.proofs.lemmas.Bool.{eq-eqb, ne_eqb}
use Rattle.std.proofs.lemmas.List.{map-append}
use Rattle.std.proofs.lemmas.List.Elements.{Contains-append_left, Contains-append_right}
use Rattle.atlas_model.specs.Boxes.{Axis, Position, Sides, Box, other, side, moved, origin, same_axis, sized, box_at, box_sides, same_box}
use Rattle.atlas_model.specs.Changes.{free_before, seq_before, put, nf, mark, only, release, placed, place, needed, place_need}
use Rattle.atlas_model.specs.Changes.{lengthened, lengthened_to, widened, grown_members, grown}
use Rattle.atlas_model.specs.Cuts.{Cut, cut}
use Rattle.atlas_model.specs.Cuts.Cut.{Whole, Strip, Corner}
use Rattle.atlas_model.specs.Renaming.{renamed, renamed_tree, renamed_grant, with_name, IsOneToOne, AreNamedAlike}
use Rattle.atlas_model.specs.Renaming.{RenamingChangesNothing}
use Rattle.atlas_model.specs.Trees.{Members, Tree, Grant, live, free_boxes, ids, node_count}
use Rattle.atlas_model.specs.Trees.Members.{End, Free, Alloc, Seq}
use Rattle.std.specs.List.{Contains}
use Rattle.atlas_model.proofs.TreeLemmas.TreeBasics.{live_among, live_among-seq, free_among, free_among-seq}
use Rattle.atlas_model.proofs.TreeLemmas.TreeIds.{Contains-first, Contains-later}

-- What a tree shows.

renamed-itself : (m : Members) → renamed (λ id. id) m ≡ m
renamed-itself End = refl
renamed-itself (Free e rest) = ap (Free e) (renamed-itself rest)
renamed-itself (Alloc id e rest) = ap (Alloc id e) (renamed-itself rest)
renamed-itself (Seq e inner rest) = ap₂ (Seq e) (renamed-itself inner) (renamed-itself rest)

pub renamed-agreeing : (f g : ℕ → ℕ) (m : Members) → AreNamedAlike f g (ids m) → renamed g m ≡ renamed f m
renamed-agreeing f g End same = refl
renamed-agreeing f g (Free e rest) same = ap (Free e) (renamed-agreeing f g rest same)
renamed-agreeing f g (Alloc id e rest) same =
    ap₂ (λ k m. Alloc k e m) (same id (Contains-first id (ids rest)))
    (renamed-agreeing f g rest (λ k at. same k (Contains-later id (ids rest) k at)))
renamed-agreeing f g (Seq e inner rest) same =
    ap₂ (Seq e) (renamed-agreeing f g inner (λ k at. same k (Contains-append_left (ids inner) (ids rest) k at)))
    (renamed-agreeing f g rest (λ k at. same k (Contains-append_right (ids inner) (ids rest) k at)))

pub agreeing_renamed : (f g : ℕ → ℕ) (t : Tree) → AreNamedAlike f g (ids t.members)
    → renamed_tree g t ≡ renamed_tree f t
agreeing_renamed f g t same = ap (λ m. record { axis = t.axis; members = m }) (renamed-agreeing f g t.members same)

pub ids-renamed : (f : ℕ → ℕ) (m : Members) → ids (renamed f m) ≡ map f (ids m)
ids-renamed f End = refl
ids-renamed f (Free e rest) = ids-renamed f rest
ids-renamed f (Alloc id e rest) = ap (λ (k : List ℕ). f id ∷ k) (ids-renamed f rest)
ids-renamed f (Seq e inner rest) =
    ap₂ (λ (j k : List ℕ). j ++ k) (ids-renamed f inner) (ids-renamed f rest) ∙ sym (map-append f (ids inner) (ids rest))

pub nodes-renamed : (f : ℕ → ℕ) (m : Members) → node_count (renamed f m) ≡ node_count m
nodes-renamed f End = refl
nodes-renamed f (Free e rest) = ap (λ k. 1 + k) (nodes-renamed f rest)
nodes-renamed f (Alloc id e rest) = ap (λ k. 1 + k) (nodes-renamed f rest)
nodes-renamed f (Seq e inner rest) = ap₂ (λ j k. 1 + j + k) (nodes-renamed f inner) (nodes-renamed f rest)

live-renamed : (f : ℕ → ℕ) (axis : Axis) (o : Position) (across : ℕ) (m : Members)
    → live_among axis o across (renamed f m) ≡ map (renamed_grant f) (live_among axis o across m)
live-renamed f axis o across End = refl
live-renamed f axis o across (Free e rest) = live-renamed f axis (moved axis o e) across rest
live-renamed f axis o across (Alloc id e rest) = ap₂ (λ (g : Grant) k. g ∷ k) refl (live-renamed f axis (moved axis o e) across rest)
live-renamed f axis o across (Seq e inner rest) =
    live_among-seq axis o across e (renamed f inner) (renamed f rest)
    ∙ ap₂ (λ (j k : List Grant). j ++ k) (live-renamed f (other axis) o e inner)
    (live-renamed f axis (moved axis o e) across rest)
    ∙ sym (map-append (renamed_grant f) (live_among (other axis) o e inner) (live_among axis (moved axis o e) across rest))
    ∙ ap (map (renamed_grant f)) (sym (live_among-seq axis o across e inner rest))

free-renamed : (f : ℕ → ℕ) (axis : Axis) (o : Position) (across : ℕ) (m : Members)
    → free_among axis o across (renamed f m) ≡ free_among axis o across m
free-renamed f axis o across End = refl
free-renamed f axis o across (Free e rest) = ap₂ (λ (b : Box) k. b ∷ k) refl (free-renamed f axis (moved axis o e) across rest)
free-renamed f axis o across (Alloc id e rest) = free-renamed f axis (moved axis o e) across rest
free-renamed f axis o across (Seq e inner rest) =
    free_among-seq axis o across e (renamed f inner) (renamed f rest)
    ∙ ap₂ (λ (j k : List Box). j ++ k) (free-renamed f (other axis) o e inner)
    (free-renamed f axis (moved axis o e) across rest)
    ∙ sym (free_among-seq axis o across e inner rest)

pub live_renamed : (f : ℕ → ℕ) (size : Sides) (t : Tree)
    → live size (renamed_tree f t) ≡ map (renamed_grant f) (live size t)
live_renamed f size t = live-renamed f t.axis origin (side (other t.axis) size) t.members

pub free_renamed : (f : ℕ → ℕ) (size : Sides) (t : Tree) → free_boxes size (renamed_tree f t) ≡ free_boxes size t
free_renamed f size t = free-renamed f t.axis origin (side (other t.axis) size) t.members

-- Needs

needed-renamed : (f : ℕ → ℕ) (b : Box) (r : Sides) (axis : Axis) (o : Position) (across : ℕ) (m : Members)
    → needed b r axis o across (renamed f m) ≡ needed b r axis o across m
needed-renamed f b r axis o across End = refl
needed-renamed f b r axis o across (Free e rest) =
    ap₂ (λ j k. j + k) refl (needed-renamed f b r axis (moved axis o e) across rest)
needed-renamed f b r axis o across (Alloc id e rest) = needed-renamed f b r axis (moved axis o e) across rest
needed-renamed f b r axis o across (Seq e inner rest) =
    ap₂ (λ j k. j + k) (needed-renamed f b r (other axis) o e inner) (needed-renamed f b r axis (moved axis o e) across rest)

pub need_renamed : (f : ℕ → ℕ) (size : Sides) (b : Box) (r : Sides) (t : Tree)
    → place_need size b r (renamed_tree f t) ≡ place_need size b r t
need_renamed f size b r t = needed-renamed f b r t.axis origin (side (other t.axis) size) t.members

-- Normal forms and freeing.

renamed-free_before : (f : ℕ → ℕ) (e : ℕ) (m : Members) → renamed f (free_before e m) ≡ free_before e (renamed f m)
renamed-free_before f e End = refl
renamed-free_before f e m = refl

renamed-seq_before : (f : ℕ → ℕ) (e : ℕ) (inner m : Members)
    → renamed f (seq_before e inner m) ≡ seq_before e (renamed f inner) (renamed f m)
renamed-seq_before f e (Free k End) m = renamed-free_before f e m
renamed-seq_before f e inner m = refl

renamed-nf : (f : ℕ → ℕ) (m : Members) → renamed f (nf m) ≡ nf (renamed f m)
renamed-nf f End = refl
renamed-nf f (Free e rest) = renamed-free_before f e (nf rest) ∙ ap (free_before e) (renamed-nf f rest)
renamed-nf f (Alloc id e rest) = ap (Alloc (f id) e) (renamed-nf f rest)
renamed-nf f (Seq e inner rest) =
    renamed-seq_before f e (nf inner) (nf rest) ∙ ap₂ (seq_before e) (renamed-nf f inner) (renamed-nf f rest)

renamed-cond : (f : ℕ → ℕ) (b : Bool) (m n : Members) → renamed f (cond b m n) ≡ cond b (renamed f m) (renamed f n)
renamed-cond f true m n = refl
renamed-cond f false m n = refl

-- Marking the ids of a set is marking their names.
renamed-mark : (f : ℕ → ℕ) (s n : ℕ → Bool) (m : Members) → ((id : ℕ) → Contains (ids m) id → n (f id) ≡ s id)
    → renamed f (mark s m) ≡ mark n (renamed f m)
renamed-mark f s n End same = refl
renamed-mark f s n (Free e rest) same = ap (Free e) (renamed-mark f s n rest same)
renamed-mark f s n (Alloc id e rest) same =
    renamed-cond f (s id) (Free e (mark s rest)) (Alloc id e (mark s rest))
    ∙ ap₂ (λ b m. cond b (Free e m) (Alloc (f id) e m)) (sym (same id (Contains-first id (ids rest))))
    (renamed-mark f s n rest (λ k at. same k (Contains-later id (ids rest) k at)))
renamed-mark f s n (Seq e inner rest) same =
    ap₂ (Seq e) (renamed-mark f s n inner (λ k at. same k (Contains-append_left (ids inner) (ids rest) k at)))
    (renamed-mark f s n rest (λ k at. same k (Contains-append_right (ids inner) (ids rest) k at)))

-- Where no two ids have one name, an id is told by its name.
told_by_name : (f : ℕ → ℕ) (xs : List ℕ) (id k : ℕ) → IsOneToOne f xs → Contains xs id → Contains xs k
    → only (f id) (f k) ≡ only id k
told_by_name f xs id k one at_id at_k = search rules

pub release_renamed : (f : ℕ → ℕ) (t : Tree) (id : ℕ) → IsOneToOne f (ids t.members) → Contains (ids t.members) id
    → renamed_tree f (release (only id) t) ≡ release (only (f id)) (renamed_tree f t)
release_renamed f t id one at =
    ap (λ m. record { axis = t.axis; members = m })
    (renamed-nf f (mark (only id) t.members)
    ∙ ap nf (renamed-mark f (only id) (only (f id)) t.members (λ k. told_by_name f (ids t.members) id k one at)))

-- Growth

renamed-lengthened : (f : ℕ → ℕ) (d : ℕ) (m : Members) → renamed f (lengthened d m) ≡ lengthened d (renamed f m)
renamed-lengthened f d (Free e (Free k rest)) = ap (Free e) (renamed-lengthened f d (Free k rest))
renamed-lengthened f d (Free e (Alloc id k rest)) = ap (Free e) (renamed-lengthened f d (Alloc id k rest))
renamed-lengthened f d (Free e (Seq k inner rest)) = ap (Free e) (renamed-lengthened f d (Seq k inner rest))
renamed-lengthened f d (Alloc id e rest) = ap (Alloc (f id) e) (renamed-lengthened f d rest)
renamed-lengthened f d (Seq e inner rest) = ap (Seq e (renamed f inner)) (renamed-lengthened f d rest)
renamed-lengthened f d m = refl

renamed-lengthened_to : (f : ℕ → ℕ) (a b : ℕ) (m : Members)
    → renamed f (lengthened_to a b m) ≡ lengthened_to a b (renamed f m)
renamed-lengthened_to f a b m =
    renamed-cond f (nat_lt a b) (lengthened (b - a) m) m
    ∙ ap (λ k. cond (nat_lt a b) k (renamed f m)) (renamed-lengthened f (b - a) m)

renamed-widened : (f : ℕ → ℕ) (u n : ℕ) (axis : Axis) (m : Members)
    → renamed_tree f (widened u n axis m) ≡ widened u n axis (renamed f m)
renamed-widened f u n axis m = search (rules)

longer_renamed : (f : ℕ → ℕ) (old new : Sides) (axis : Axis) (m : Members)
    → renamed_tree f (widened (side (other axis) old) (side (other axis) new) axis (lengthened_to (side axis old) (side axis new) m))
    ≡ widened (side (other axis) old) (side (other axis) new) axis (lengthened_to (side axis old) (side axis new) (renamed f m))
longer_renamed f old new axis m =
    renamed-widened f (side (other axis) old) (side (other axis) new) axis (lengthened_to (side axis old) (side axis new) m)
    ∙ ap (widened (side (other axis) old) (side (other axis) new) axis)
    (renamed-lengthened_to f (side axis old) (side axis new) m)

renamed-grown : (f : ℕ → ℕ) (old new : Sides) (axis : Axis) (m : Members)
    → renamed_tree f (grown_members old new axis m) ≡ grown_members old new axis (renamed f m)
renamed-grown f old new axis (Free e End) = refl
renamed-grown f old new axis m = longer_renamed f old new axis m

pub grown_renamed : (f : ℕ → ℕ) (old new : Sides) (t : Tree)
    → renamed_tree f (grown old new t) ≡ grown old new (renamed_tree f t)
grown_renamed f old new t = renamed-grown f old new t.axis t.members

-- Placing

renamed-put : (g : ℕ → ℕ) (c : Cut) (axis : Axis) (e across p q id : ℕ) (m : Members)
    → renamed g (put c axis e across p q id m) ≡ put c axis e across p q (g id) (renamed g m)
renamed-put g Whole axis e across p q id m = refl
renamed-put g (Strip a) axis e across p q id m = renamed-cond g (same_axis a axis) _ _
renamed-put g (Corner a) axis e across p q id m = renamed-cond g (same_axis a axis) _ _

renamed-placed : (f g : ℕ → ℕ) (b : Box) (r : Sides) (id : ℕ) (axis : Axis) (o : Position) (across : ℕ) (m : Members)
    → ((k : ℕ) → Contains (ids m) k → g k ≡ f k)
    → renamed g (placed b r id axis o across m) ≡ placed b r (g id) axis o across (renamed f m)
renamed-placed f g b r id axis o across End same = refl
renamed-placed f g b r id axis o across (Free e rest) same =
    let later = renamed-placed f g b r id axis (moved axis o e) across rest same in
    renamed-cond g (same_box (box_at o (sized axis e across)) b) _ _
    ∙ ap₂ (cond (same_box (box_at o (sized axis e across)) b))
    (renamed-put g (cut (box_sides b) r) axis e across (side axis r) (side (other axis) r) id _
    ∙ ap (put (cut (box_sides b) r) axis e across (side axis r) (side (other axis) r) (g id)) later) (ap (Free e) later)
renamed-placed f g b r id axis o across (Alloc i e rest) same =
    ap₂ (λ k m. Alloc k e m) (same i (Contains-first i (ids rest)))
    (renamed-placed f g b r id axis (moved axis o e) across rest (λ k at. same k (Contains-later i (ids rest) k at)))
renamed-placed f g b r id axis o across (Seq e inner rest) same =
    ap₂ (Seq e)
    (renamed-placed f g b r id (other axis) o e inner
    (λ k at. same k (Contains-append_left (ids inner) (ids rest) k at)))
    (renamed-placed f g b r id axis (moved axis o e) across rest
    (λ k at. same k (Contains-append_right (ids inner) (ids rest) k at)))

pub with_name-itself : (f : ℕ → ℕ) (id name : ℕ) → with_name f id name id ≡ name
with_name-itself f id name = ap (λ b. cond b name (f id)) (eq-eqb id id refl)

pub with_name-other : (f : ℕ → ℕ) (id name k : ℕ) → (k ≡ id → ⊥) → with_name f id name k ≡ f k
with_name-other f id name k unlike = ap (λ b. cond b name (f k)) (ne_eqb k id unlike)

pub place_renamed : (f : ℕ → ℕ) (size : Sides) (t : Tree) (b : Box) (r : Sides) (id name : ℕ)
    → (Contains (ids t.members) id → ⊥)
    → renamed_tree (with_name f id name) (place size b r id t) ≡ place size b r name (renamed_tree f t)
place_renamed f size t b r id name absent =
    ap (λ m. record { axis = t.axis; members = m })
    (renamed-placed f (with_name f id name) b r id t.axis origin (side (other t.axis) size) t.members
    (λ k at. with_name-other f id name k (λ same. absent (subst (Contains (ids t.members)) same at)))
    ∙ ap (λ n. placed b r n t.axis origin (side (other t.axis) size) (renamed f t.members)) (with_name-itself f id name))

pub renaming : RenamingChangesNothing
renaming = record {
  itself = λ t. ap (λ m. record { axis = t.axis; members = m }) (renamed-itself t.members);
  own_ids = agreeing_renamed;
  names = λ f t. ids-renamed f t.members;
  members = λ f t. nodes-renamed f t.members;
  live = live_renamed;
  free = free_renamed;
  grown = grown_renamed;
  placed = place_renamed;
  released = release_renamed;
}
