use Rattle.std.proofs.Common.{◌<◌, arith, sym, subst}
use Rattle.std.proofs.lemmas.Nat.{one_shl, pow_below, pow_pos}
use Rattle.atlas_sheet.proofs.search.power.Goals as goal

pub returns-clause-value : goal.returns-clause-value
returns-clause-value c = one_shl c.args.exponent 32 (omega arith)

pub returns-clause-positive : goal.returns-clause-positive
returns-clause-positive c = subst (λ n. 0 < n) (sym (one_shl c.args.exponent 32 (omega arith))) (pow_pos c.args.exponent)

pub returns-clause-small : goal.returns-clause-small
returns-clause-small c = subst (λ n. n < 2147483648) (sym (one_shl c.args.exponent 32 (omega arith)))
    (pow_below c.args.exponent 31 c.requires)
