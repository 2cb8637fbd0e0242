-- Placing grants anew, one after another.
use Rattle.std.proofs.Common.{◌≡◌, List, [], ◌∷◌, ◌++◌, refl, ap, sym, subst, ◌∙◌, inl, inr, append_assoc, arith}
use Rattle.std.proofs.lemmas.List.{append-nil}
use Rattle.atlas_model.specs.Boxes.{Box, box_at, box_sides}
use Rattle.atlas_model.specs.Changes.{place}
use Rattle.atlas_model.specs.Refits.{Rearrangement, no_changes, with_change, with_failure, refit_sides, Refits}
use Rattle.atlas_model.specs.Refits.{RefitPasses}
use Rattle.atlas_model.specs.Refits.Refitted.{IsRefitOf, IsRefitRefusal, IsPartOfRefit, followed_by}
use Rattle.atlas_model.specs.States.{State, used_in}
use Rattle.atlas_model.specs.Steps.{Step, Grants}
use Rattle.atlas_model.specs.Steps.AtlasCall.{Allocate}
use Rattle.atlas_model.specs.Steps.AtlasReply.{Allocated, NoRoom, Refused}
use Rattle.atlas_model.specs.Trees.{Grant, grant}
use Rattle.atlas_model.specs.declared.error.AtlasError.{AtlasError}
use Rattle.atlas_model.specs.declared.error.AtlasError.TheVariants.{Memory, Slots, NotLive}
use Rattle.atlas_model.proofs.TreeLemmas.TreeCounts.{place_nodes}

abbrev pub one_change : (old new : Grant) → Rearrangement
one_change old new = with_change old new no_changes

abbrev pub one_failure : Grant → Rearrangement
one_failure g = with_failure g no_changes

append_one : {X : Type 0} (xs : List X) (x : X) (ys : List X) → xs ++ x ∷ ys ≡ (xs ++ x ∷ []) ++ ys
append_one xs x ys = sym (append_assoc xs (x ∷ []) ys)

then_change : (done : Rearrangement) (old new : Grant) (rest : Rearrangement)
    → followed_by done (with_change old new rest) ≡ followed_by (followed_by done (one_change old new)) rest
then_change done old new rest = grind (arith, append_one, append-nil)

then_failure : (done : Rearrangement) (g : Grant) (rest : Rearrangement)
    → followed_by done (with_failure g rest) ≡ followed_by (followed_by done (one_failure g)) rest
then_failure done g rest = grind (arith, append-nil, append_one)

then_nothing : (done : Rearrangement) → followed_by done no_changes ≡ done
then_nothing done = grind (arith, append-nil)

-- All is placed.
pub part-end : (old now : State) (order : List Grant) (done : Rearrangement) → IsPartOfRefit old order done now []
    → IsRefitOf old order done now
part-end old now order done part = record {
  refits = subst (λ l. Refits old.size old.options old.limit old.tree order l now.tree) (then_nothing done)
      (part.refits no_changes now.tree (refl, refl));
  size = part.size;
  options = part.options;
  limit = part.limit;
  kept = part.kept;
}

-- The next grant is placed.
module _ (old now new : State) (order : List Grant) (done : Rearrangement) (g : Grant) (left : List Grant)
    (part : IsPartOfRefit old order done now (g ∷ left)) where
  module _ (h : Grant) (f : Box) (granted : Grants now (box_sides g.box) f h new) where
    same_grant : h ≡ grant h.id (box_at f.min (refit_sides now.options g))
    same_grant = λ i. record { id = h.id; box = granted.box i }

    kept-placed : now.kept ≡ used_in now → new.kept ≡ used_in new
    kept-placed is = grind (arith, place_nodes)

    part-granted : IsPartOfRefit old order (followed_by done (one_change g h)) new left
    part-granted = record {
      refits = λ rest t r.
          let here : Refits now.size now.options now.limit (place now.size f (refit_sides now.options g) h.id now.tree) left rest t =
          subst (λ s. Refits s.size s.options s.limit s.tree left rest t) granted.state r in
          subst (λ l. Refits old.size old.options old.limit old.tree order l t) (then_change done g h rest)
          (part.refits (with_change g h rest) t
          (inl (f, h.id, rest, granted.takes.pick, granted.unused, granted.room, ap (λ k. with_change g k rest) same_grant, here)));
      passes = λ p.
          let here : RefitPasses now.size now.options now.limit (place now.size f (refit_sides now.options g) h.id now.tree) left =
          subst (λ s. RefitPasses s.size s.options s.limit s.tree left) granted.state p in
          part.passes (inr (inl (f, h.id, granted.takes.pick, granted.unused, granted.room, here)));
      size = ap (λ s. s.size) granted.state ∙ part.size;
      options = ap (λ s. s.options) granted.state ∙ part.options;
      limit = ap (λ s. s.limit) granted.state ∙ part.limit;
      kept = λ is. kept-placed (part.kept is);
    }

  pub part-change : (h : Grant) → Step now (Allocate (box_sides g.box)) (Allocated h) new
      → IsPartOfRefit old order (followed_by done (one_change g h)) new left
  part-change h step = part-granted h step.0 step.1

  pub part-failure : Step now (Allocate (box_sides g.box)) NoRoom new
      → IsPartOfRefit old order (followed_by done (one_failure g)) new left
  part-failure step =
      subst (λ s. IsPartOfRefit old order (followed_by done (one_failure g)) s left) (sym step.1)
      (record {
        refits = λ rest t r.
            subst (λ l. Refits old.size old.options old.limit old.tree order l t) (then_failure done g rest)
            (part.refits (with_failure g rest) t (inr (rest, step.0, refl, r)));
        passes = λ p. part.passes (inr (inr (step.0, p)));
        size = part.size;
        options = part.options;
        limit = part.limit;
        kept = part.kept;
      })

  pub part-refusal : (error : AtlasError) → Step now (Allocate (box_sides g.box)) (Refused error) new
      → IsRefitRefusal old order error
  part-refusal Slots step = part.passes (inl (step.0, step.1.pick, step.2))
  part-refusal Memory step = tt
  part-refusal NotLive step = step
