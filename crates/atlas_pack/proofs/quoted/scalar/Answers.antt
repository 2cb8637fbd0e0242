use Rattle.std.proofs.Common.{List, ℕ, inl, inr, sym, subst, arith}
use Rattle.atlas_pack.specs.Quoted.{EndsPair}
use Rattle.atlas_pack.proofs.quoted.scalar.Goals as goal

pub returns-in_err-unit-clause-only : goal.returns-in_err-unit-clause-only
returns-in_err-unit-clause-only c code rest begins =
    elim begins [
      | inl alone ↦ absurd (c.in_err-unit.ensures.only code rest alone.0)
      | inr pair ↦ absurd (c.in_err-unit.ensures.only pair.high pair.middle pair.digits)
    ]

pub returns-then-unit-lt56320-clause-only : goal.returns-then-unit-lt56320-clause-only
returns-then-unit-lt56320-clause-only c code rest begins =
    elim begins [
      | inl alone ↦
          let read = c.in_ok-unit.ensures.only code rest alone.0 in
          let same = read.0 in
          let least = c.if-unit-ge55296.true in
          let greatest = c.if-unit-lt56320.true in
          elim alone.1 [
            | inl low ↦ absurd (omega (arith, same, least, low))
            | inr high ↦ absurd (omega (arith, same, greatest, high))
          ]
      | inr pair ↦
          let read = c.in_ok-unit.ensures.only pair.high pair.middle pair.digits in
          c.second_half.ensures.only code rest
          (subst (λ (h : ℕ). EndsPair h code c.in_ok-unit.rest.now rest) (sym read.0)
          (subst (λ (t : List ℕ). EndsPair pair.high code t rest) (sym read.1) pair.ends))
    ]
