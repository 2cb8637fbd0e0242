use Rattle.std.proofs.Common.{◌*◌, ◌^◌, ◌<◌, ◌≤◌, ◌∙◌, ℤ, sym, subst, map, w32, arith}
use Rattle.std.proofs.lemmas.Int.{to_z-of_z}
use Rattle.std.proofs.lemmas.Option.{IfSome_then}
use Rattle.guillotiere.specs.Pixels.{natural, sides_of}
use Rattle.atlas_sheet.proofs.Maybes.{at_none}
use Rattle.atlas_sheet.proofs.Powers.{scan_found, scan_none, up_to_more}
use Rattle.atlas_sheet.proofs.Failures.{no_value, same_error}
use Rattle.atlas_sheet.proofs.search.scan.Goals as goal

pub loop-sum-init : goal.loop-sum-init
loop-sum-init g c = λ j below. absurd (omega arith)

pub loop-sum-preserved : goal.loop-sum-preserved
loop-sum-preserved g c =
    up_to_more (map (λ t. t.way) c.args.trials.now) c.exponent_in-most.result c.args.spacing c.args.sprites.now c.loop-sum.sum
    c.loop-sum.invariant
    (at_none c.in_ok-found.found (sym c.is_some.ensures ∙ c.if-is_some.false) c.in_ok-found.ensures.none)

pub returns-then-is_some-clause-least : goal.returns-then-is_some-clause-least
returns-then-is_some-clause-least g c =
    IfSome_then c.in_ok-found.found c.in_ok-found.ensures.packed (λ sheet packed.
    scan_found (map (λ t. t.way) c.args.trials.now) c.exponent_in-most.result c.args.spacing c.args.sprites.now c.args.greatest
    (subst (λ (z : ℤ). 2 ^ c.exponent_in-most.result ≤ natural z) (to_z-of_z w32 c.args.greatest c.ranges.greatest)
    c.exponent_in-most.ensures.power)
    (subst (λ (z : ℤ). natural z < 2 * 2 ^ c.exponent_in-most.result) (to_z-of_z w32 c.args.greatest c.ranges.greatest)
    c.exponent_in-most.ensures.next) c.loop-sum.sum (sides_of sheet.size)
    (record { way = sheet.way; order = sheet.order.items; places = sheet.places.items })
    c.loop-sum.invariant packed)

pub returns-clause-none : goal.returns-clause-none
returns-clause-none g c =
    scan_none (map (λ t. t.way) c.args.trials.now) c.exponent_in-most.result c.args.spacing c.args.sprites.now c.args.greatest
    (subst (λ (z : ℤ). 2 ^ c.exponent_in-most.result ≤ natural z) (to_z-of_z w32 c.args.greatest c.ranges.greatest)
    c.exponent_in-most.ensures.power)
    (subst (λ (z : ℤ). natural z < 2 * 2 ^ c.exponent_in-most.result) (to_z-of_z w32 c.args.greatest c.ranges.greatest)
    c.exponent_in-most.ensures.next) c.loop-sum.sum (omega arith) c.loop-sum.invariant

pub returns-in_err-found : goal.returns-in_err-found
returns-in_err-found g c =
    let r = c.from_residual in
    record {
      least = no_value r.result _ _ r.ensures.1;
      none = no_value r.result _ _ r.ensures.1;
      unless = same_error r.result _ _ r.ensures.1 c.in_err-found.ensures.unless;
    }
