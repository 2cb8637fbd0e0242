-- What a walk asks of its callback: that it may be called along the list that is shown, and no more.
use Rattle.std.specs.Prelude.{ℕ, ◌≡◌, List, [], ◌∷◌, Option, Some, IsSome, MatchOption}
use Rattle.std.specs.Borrow.{Bor}
use Rattle.std.specs.Fn.{Mut, CalledAt, Takes, TakesAt}
use Rattle.std.specs.Iterator.{CallableAtEachTurn}
use Rattle.atlas_model.specs.declared.allocation.Allocation.{Allocation}
use Rattle.atlas_model.specs.declared.geometry.Rectangle.{Rectangle}
use Rattle.atlas_model.specs.Boxes.{IsNonempty}
use Rattle.atlas_model.specs.Pixels.{box_of, IsMeasurable}
use Rattle.atlas_model.specs.States.{State}
use Rattle.atlas_model.specs.Replies.{IsExact, live_box}
use Rattle.atlas_store.specs.Visits.{CalledAtGrant}

-- The first of a list, and the rest.
abbrev pub first_of : {X : Type 0} → List X → Option X → List X → Type 0
first_of xs first rest = MatchOption first (xs ≡ []) (λ x. xs ≡ x ∷ rest)

-- A callback may be called at an id and at a `&` to its rectangle.
abbrev pub TakesAtGrant : {F : Type 0} → Mut F (ℕ × (Bor Rectangle × Unit {0})) (Unit {0}) → F → Allocation → Type 0
TakesAtGrant g f x = (shown : Bor Rectangle) → shown.now ≡ x.rectangle → Takes g f (x.id, (shown, tt))

-- What a callback may rely on at a free rectangle.
pub record IsShownArea (area : Rectangle) : Type 0 where
  pub exact : IsExact area
  pub measurable : IsMeasurable area
  pub nonempty : IsNonempty (box_of area)

-- And at an id with its rectangle: the id is live.
pub record IsShownGrant (s : State) (x : Allocation) : Type 0 where
  pub live : IsSome (live_box s x.id)
  pub box : live_box s x.id ≡ Some (box_of x.rectangle)
  pub exact : IsExact x.rectangle
  pub measurable : IsMeasurable x.rectangle
  pub nonempty : IsNonempty (box_of x.rectangle)

-- f may be called at each rectangle of a list in turn, from the first on; each has P.
abbrev pub IsCallableAlong : {F : Type 0} → Mut F (Bor Rectangle × Unit {0}) (Unit {0}) → (Rectangle → Type 0)
    → F → List Rectangle → Type 0
IsCallableAlong g P f areas =
    CallableAtEachTurn first_of (λ p x q. CalledAt g p x tt q) (λ p x. P x → TakesAt g p x) areas f

-- The same at ids with their rectangles.
abbrev pub IsCallableAlongGrants : {F : Type 0} → Mut F (ℕ × (Bor Rectangle × Unit {0})) (Unit {0})
    → (Allocation → Type 0) → F → List Allocation → Type 0
IsCallableAlongGrants g P f grants =
    CallableAtEachTurn first_of (CalledAtGrant g) (λ p x. P x → TakesAtGrant g p x) grants f
