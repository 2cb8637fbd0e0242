use Rattle.std.proofs.Common.{◌↔◌, List, All, map, sym, subst, ◌∙◌}
use Rattle.std.specs.Prelude.{IfOk, IsTrue}
use Rattle.std.proofs.lemmas.Bool.{false≢true}
use Rattle.std.proofs.lemmas.Result.{IfOk-weaker}
use Rattle.atlas_model.specs.declared.geometry.Rectangle.{Rectangle}
use Rattle.atlas_model.specs.Boxes.{AreDisjoint}
use Rattle.atlas_model.specs.Pixels.{box_of, sides_of}
use Rattle.guillotiere.specs.Apart.{IsSolidWithin}
use Rattle.guillotiere.specs.SimpleImages.{IsSimpleImage}
use Rattle.guillotiere.proofs.simple.image.is_simple.Goals as goal

pub returns-then-not-is_positive : goal.returns-then-not-is_positive
returns-then-not-is_positive g c = (
  λ e. absurd (false≢true e),
  λ s. absurd (false≢true (sym c.if-not-is_positive.true ∙ c.is_positive.ensures.1 s.positive)),
)

pub returns-then-not-is_valid : goal.returns-then-not-is_valid
returns-then-not-is_valid g c = (
  λ e. absurd (false≢true e),
  λ s. absurd (false≢true (sym c.if-not-is_valid.true ∙ c.is_valid.ensures.1 s.valid)),
)

pub returns-then-not-are_within : goal.returns-then-not-are_within
returns-then-not-are_within g c = (
  λ e. absurd (false≢true e),
  λ s. absurd (false≢true (sym c.if-not-are_within.true ∙ c.are_within.ensures.1
      (subst (All (IsSolidWithin (sides_of c.args.image.now.size))) (sym c.deref.ensures.value) s.within))),
)

pub returns : goal.returns
returns g c =
    IfOk-weaker c.are_disjoint.result (λ apart. IsTrue apart ↔ AreDisjoint (map box_of c.args.image.now.free.items))
    (λ simple. IsTrue simple ↔ IsSimpleImage c.args.image.now)
    (λ b iff. (
      λ e. record {
        positive = c.is_positive.ensures.0 c.if-not-is_positive.false;
        valid = c.is_valid.ensures.0 c.if-not-is_valid.false;
        within = subst (All (IsSolidWithin (sides_of c.args.image.now.size))) c.deref.ensures.value
            (c.are_within.ensures.0 c.if-not-are_within.false);
        apart = iff.0 e;
      },
      λ s. iff.1 s.apart,
    ))
    (subst (λ (l : List Rectangle). IfOk c.are_disjoint.result (λ apart. IsTrue apart ↔ AreDisjoint (map box_of l)))
    c.deref-2.ensures.value c.are_disjoint.ensures)
