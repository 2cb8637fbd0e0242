use Rattle.std.proofs.Common.{refl, sym, ◌∙◌, arith}
use Rattle.std.proofs.lemmas.Bool.{false≢true}
use Rattle.atlas_model.specs.Pixels.{sides_of}
use Rattle.guillotiere.specs.Apart.{IsSolidWithin}
use Rattle.guillotiere.proofs.SimpleLemmas.ApartSteps.{all-next}
use Rattle.guillotiere.proofs.SimpleLemmas.ApartWithin.{solid-within, within-lies}
use Rattle.guillotiere.proofs.simple.apart.are_within.Goals as goal

pub loop-area-preserved : goal.loop-area-preserved
loop-area-preserved c =
    all-next (IsSolidWithin (sides_of c.args.size)) c.args.boxes.now c.loop-area.area-index _ c.loop-area-test.true
    (solid-within _ c.args.size (c.is_within.ensures.0 c.if-not-is_within.false)) c.loop-area.invariant

pub returns-then-not-is_within : goal.returns-then-not-is_within
returns-then-not-is_within c = (
  λ e. absurd (false≢true e),
  λ all. absurd (false≢true (sym c.if-not-is_within.true ∙ c.is_within.ensures.1
      (within-lies _ c.args.size (all c.loop-area.area-index _ c.loop-area-test.true)))),
)

pub returns : goal.returns
returns c = (λ e k d l. c.loop-area.invariant k d (omega (arith, l, c.loop-area-test.false)), λ all. refl)
