use Rattle.std.proofs.Common.{◌-ℤ◌, FitsSigned, w32, rules, arith}
use Rattle.std.proofs.lemmas.Int.{to_z-of_z, ints}
use Rattle.atlas_search.proofs.SearchLemmas.BestMargins.{spare_fits, spare_value}
use Rattle.atlas_search.proofs.choice.spare.Goals as goal

pub returns : goal.returns
returns c =
    let from = c.args.from in
    let to = c.args.to in
    let side = c.args.side in
    let a : FitsSigned w32 from = search rules in
    let b : FitsSigned w32 to = search rules in
    let d : FitsSigned w32 side = search rules in
    let e : FitsSigned w32 (to -ℤ from) = omega (arith, ints) in
    let f : FitsSigned w32 (to -ℤ from -ℤ side) = omega (arith, ints) in
    simp to_z-of_z (record {
      fits = spare_fits from to side c.requires.unsigned c.requires.nonempty c.requires.positive;
      value =
          spare_value from to side c.requires.unsigned c.requires.nonempty c.requires.positive;
    })
