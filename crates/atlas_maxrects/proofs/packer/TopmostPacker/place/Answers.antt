use Rattle.std.proofs.Common.{◌∙◌, refl}
use Rattle.std.proofs.lemmas.Bool.{false≢true}
use Rattle.atlas_maxrects.proofs.TopmostPlaces.{places_none, places_some, stored_taken}
use Rattle.atlas_maxrects.proofs.packer.TopmostPacker.place.Goals as goal

pub returns-then-not-is_positive-clause-placed : goal.returns-then-not-is_positive-clause-placed
returns-then-not-is_positive-clause-placed g c = (λ positive. absurd (false≢true (c.if-not-is_positive.ensures.1 positive)), refl)

pub sides_in-width-requires : goal.sides_in-width-requires
sides_in-width-requires g c = c.if-not-is_positive.ensures.0 refl

pub invariant_of-self : goal.invariant_of-self
invariant_of-self g c = rw c.in_err-push-in-Some.ensures.items c.self.invariant

pub returns-in-None-clause-placed : goal.returns-in-None-clause-placed
returns-in-None-clause-placed g c =
    places_none _ _ _ _ _ _ _ c.self.view_is c.self.invariant c.deref.ensures.value c.sides_in-width.ensures.same c.in-None.ensures

pub invariant_of-self-in-Some : goal.invariant_of-self-in-Some
invariant_of-self-in-Some g c =
    rw c.in_ok-push-in-Some.ensures.items
    (stored_taken _ _ _ _ _ _ c.taken_at-taken.result _ _ c.deref.ensures.value c.deref-in-Some.ensures.value c.self.invariant
    c.in-Some.ensures.0 c.taken_at-taken.ensures c.in_ok-free-in-Some.ensures.left
    c.rectangle_in-rectangle.ensures.same c.rectangle_in-rectangle.ensures.exact)

pub returns-in_ok-push-in-Some-clause-placed : goal.returns-in_ok-push-in-Some-clause-placed
returns-in_ok-push-in-Some-clause-placed g c =
    places_some _ _ _ _ _ _ _ _ c.in-Some.corner _ c.self.view_is c.self.invariant (c.if-not-is_positive.ensures.0 refl)
    c.deref.ensures.value c.sides_in-width.ensures.same c.in-Some.ensures
    (c.rectangle_in-rectangle.ensures.same ∙ c.taken_at-taken.ensures) c.rectangle_in-rectangle.ensures.exact
    c.in_ok-push-in-Some.ensures.items
