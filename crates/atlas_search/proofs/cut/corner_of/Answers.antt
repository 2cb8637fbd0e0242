use Rattle.std.proofs.Common.{◌+ℤ◌, FitsSigned, w32, rules, arith}
use Rattle.std.proofs.lemmas.Int.{to_z-of_z, ints}
use Rattle.atlas_search.proofs.cut.corner_of.Goals as goal

pub returns : goal.returns
returns c =
    let chosen = c.args.chosen in
    let size = c.args.size in
    let a : FitsSigned w32 chosen.min.x = search rules in
    let b : FitsSigned w32 chosen.min.y = search rules in
    let d : FitsSigned w32 size.width = search rules in
    let e : FitsSigned w32 size.height = search rules in
    let g : FitsSigned w32 chosen.max.x = search rules in
    let h : FitsSigned w32 chosen.max.y = search rules in
    let right : FitsSigned w32 (chosen.min.x +ℤ size.width) = omega (arith, ints) in
    let below : FitsSigned w32 (chosen.min.y +ℤ size.height) = omega (arith, ints) in
    simp to_z-of_z
