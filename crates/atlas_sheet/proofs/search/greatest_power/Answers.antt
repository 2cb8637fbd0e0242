use Rattle.std.proofs.Common.{◌*◌, ◌^◌, ◌<◌, ◌≤◌, ℤ, subst, sym, w32}
use Rattle.std.proofs.lemmas.Int.{to_z-of_z}
use Rattle.guillotiere.specs.Pixels.{natural}
use Rattle.atlas_sheet.specs.declared.allowed.Allowed.TheVariants as allowed
use Rattle.atlas_sheet.specs.Allowances.{IsGreatest}
use Rattle.atlas_sheet.proofs.Powers.{powers_greatest}
use Rattle.atlas_sheet.proofs.search.greatest_power.Goals as goal

pub returns : goal.returns
returns c =
    subst (IsGreatest (allowed.Powers c.args.greatest)) (sym c.power_size.ensures.sides)
    (powers_greatest c.exponent_in-most.result c.args.greatest
    (subst (λ (z : ℤ). 2 ^ c.exponent_in-most.result ≤ natural z) (to_z-of_z w32 c.args.greatest c.ranges.greatest)
    c.exponent_in-most.ensures.power)
    (subst (λ (z : ℤ). natural z < 2 * 2 ^ c.exponent_in-most.result) (to_z-of_z w32 c.args.greatest c.ranges.greatest)
    c.exponent_in-most.ensures.next))
