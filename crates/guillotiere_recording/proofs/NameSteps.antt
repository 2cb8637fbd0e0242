-- One entry more in a walk over entries.
use Rattle.std.proofs.Common.{ℕ, ◌+◌, ◌<◌, ◌≡◌, List, [], ◌∷◌, get_or, drop, length, map, Option, Some, None, option_map, refl, sym, subst}
use Rattle.std.proofs.Common.{All}
use Rattle.std.proofs.lemmas.List.{at_drop_more, get_or_default}
use Rattle.std.proofs.lemmas.List.Elements.{All-contains}
use Rattle.guillotiere.proofs.ListLemmas.CallerLemmas.{Contains-map}
use Rattle.std.specs.Borrow.{Bor}
use Rattle.std.specs.Fn.{Mut, Called, Takes}
use Rattle.std.specs.Iterator.{CallableAtEachTurn}
use Rattle.std.specs.List.{FoldsTo}
use Rattle.guillotiere.specs.declared.Rectangle.{Rectangle}
use Rattle.guillotiere.specs.Boxes.{Box}
use Rattle.guillotiere.specs.Pixels.{rectangle_of}
use Rattle.guillotiere.specs.States.{State}
use Rattle.guillotiere.specs.Replies.{live_box}
use Rattle.guillotiere.specs.Visits.{CalledAtGrant}
use Rattle.guillotiere.specs.Walks.{first_of, IsCallableAlongGrants, IsShownArea}
use Rattle.guillotiere.specs.declared.Allocation.{Allocation}
use Rattle.guillotiere_recording.specs.declared.names.LiveName.{LiveName as Entry}
use Rattle.guillotiere_recording.specs.Names.{shown, box_or_none}

-- The rectangle of a live id is that of its box.
pub area_of : (o : Option Box) (area : Rectangle) → option_map rectangle_of o ≡ Some area
    → area ≡ rectangle_of (box_or_none o)
area_of None area is = cc
area_of (Some b) area is = cc

-- The call at one entry more.
pub visits-name : {F : Type 0} (g : Mut F (ℕ × (Bor Rectangle × Unit {0})) (Unit {0})) (f at last : F) (s : State)
    (xs : List Entry) (i : ℕ) (d : Entry)
    (name : ℕ) (area : Bor Rectangle) → i < length xs → name ≡ (get_or xs i d).name
    → option_map rectangle_of (live_box s (get_or xs i d).id) ≡ Some area.now → Called g f (name, (area, tt)) tt at
    → FoldsTo (CalledAtGrant g) at (map (shown s) (drop (i + 1) xs)) last
    → FoldsTo (CalledAtGrant g) f (map (shown s) (drop i xs)) last
visits-name g f at last s xs i d name area low is its call more =
    subst (λ l. FoldsTo (CalledAtGrant g) f l last) (sym (at_drop_more (λ ys. map (shown s) ys) xs i d low)) (
      at,
      record {
        shown = area;
        shows = area_of (live_box s (get_or xs i d).id) area.now its;
        called =
            subst (λ n. Called g f (n, (area, tt)) tt at) is call;
      },
      more,
    )

pub visits-none : {F : Type 0} (g : Mut F (ℕ × (Bor Rectangle × Unit {0})) (Unit {0})) (f : F) (s : State)
    (xs : List Entry) (i : ℕ)
    → drop i xs ≡ [] → FoldsTo (CalledAtGrant g) f (map (shown s) (drop i xs)) f
visits-none g f s xs i none = subst (λ l. FoldsTo (CalledAtGrant g) f (map (shown s) l) f) (sym none) refl

-- A callback along a list: at its first item, and after a call of it along the rest.
module _ {X F : Type 0} (R : F → X → F → Type 0) (Q : F → X → Type 0) where
  abbrev Along : F → List X → Type 0
  Along f xs = CallableAtEachTurn first_of R Q xs f

  along-first : (f : F) (x : X) (xs : List X) → Along f (x ∷ xs) → Q f x
  along-first f x xs h = h.at [] (x ∷ xs) f x xs refl refl refl

  along-rest : (f q : F) (x : X) (xs : List X) → Along f (x ∷ xs) → R f x q → Along q xs
  along-rest f q x xs h r = record { at = λ ys t v y u a b c. h.at (x ∷ ys) t v y u (xs, refl, a) (q, r, b) c }

module _ {F : Type 0} (g : Mut F (ℕ × (Bor Rectangle × Unit {0})) (Unit {0})) (s : State) (xs : List Entry) (i : ℕ) (d : Entry)
    (low : i < length xs) where
  abbrev From : F → ℕ → Type 0
  From f k = IsCallableAlongGrants g (λ (a : Allocation). IsShownArea a.rectangle) f (map (shown s) (drop k xs))

  -- A callback may be called at an entry,
  pub asks-name : (f : F) (name : ℕ) (area : Bor Rectangle) → name ≡ (get_or xs i d).name
      → option_map rectangle_of (live_box s (get_or xs i d).id) ≡ Some area.now
      → All (λ (a : Allocation). IsShownArea a.rectangle) (map (shown s) xs) → From f i → Takes g f (name, (area, tt))
  asks-name f name area is its all h =
      subst (λ n. Takes g f (n, (area, tt))) (sym is)
      (along-first (CalledAtGrant g) _ f (shown s (get_or xs i d)) (map (shown s) (drop (i + 1) xs))
      (subst (λ l. IsCallableAlongGrants g (λ (a : Allocation). IsShownArea a.rectangle) f l)
      (at_drop_more (λ ys. map (shown s) ys) xs i d low) h)
      (All-contains (λ (a : Allocation). IsShownArea a.rectangle) (map (shown s) xs) (shown s (get_or xs i d)) all
      (Contains-map (shown s) xs (get_or xs i d) (i, low, get_or_default xs i (get_or xs i d) d low))) area
      (area_of (live_box s (get_or xs i d).id) area.now its))

  -- and after that call at those that follow.
  pub asks-more : (f at : F) (name : ℕ) (area : Bor Rectangle) → name ≡ (get_or xs i d).name
      → option_map rectangle_of (live_box s (get_or xs i d).id) ≡ Some area.now → Called g f (name, (area, tt)) tt at
      → From f i → From at (i + 1)
  asks-more f at name area is its call h =
      along-rest (CalledAtGrant g) _ f at (shown s (get_or xs i d)) (map (shown s) (drop (i + 1) xs))
      (subst (λ l. IsCallableAlongGrants g (λ (a : Allocation). IsShownArea a.rectangle) f l)
      (at_drop_more (λ ys. map (shown s) ys) xs i d low) h)
      (record {
        shown = area;
        shows = area_of (live_box s (get_or xs i d).id) area.now its;
        called =
            subst (λ n. Called g f (n, (area, tt)) tt at) is call;
      })
