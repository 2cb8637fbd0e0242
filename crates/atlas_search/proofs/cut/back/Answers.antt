use Rattle.std.proofs.Common.{FitsSigned, w32, rules}
use Rattle.std.proofs.lemmas.Int.{to_z-of_z}
use Rattle.atlas_search.proofs.CutTiles.{sum_fits}
use Rattle.atlas_search.proofs.cut.back.Goals as goal

pub overflow_add-result : goal.overflow_add-result
overflow_add-result c =
    let area = c.args.area in
    let a : FitsSigned w32 area.min.x = search rules in
    let d : FitsSigned w32 c.args.extent = search rules in
    simp to_z-of_z (sum_fits area.min.x c.args.extent area.max.x a (search rules) c.requires.least
    (rw c.in-Horizontal.is at c.requires.most))

pub returns-in-Horizontal : goal.returns-in-Horizontal
returns-in-Horizontal c =
    let area = c.args.area in
    let a : FitsSigned w32 area.min.x = search rules in
    let b : FitsSigned w32 area.max.x = search rules in
    let d : FitsSigned w32 c.args.extent = search rules in
    let e : FitsSigned w32 area.min.y = search rules in
    let far = sum_fits area.min.x c.args.extent area.max.x a b c.requires.least (rw c.in-Horizontal.is at c.requires.most) in
    rw c.in-Horizontal.is (simp to_z-of_z)

pub overflow_add-result-in-Vertical : goal.overflow_add-result-in-Vertical
overflow_add-result-in-Vertical c =
    let area = c.args.area in
    let a : FitsSigned w32 area.min.y = search rules in
    let d : FitsSigned w32 c.args.extent = search rules in
    simp to_z-of_z (sum_fits area.min.y c.args.extent area.max.y a (search rules) c.requires.least (rw c.in-Vertical.is at c.requires.most))

pub returns-in-Vertical : goal.returns-in-Vertical
returns-in-Vertical c =
    let area = c.args.area in
    let a : FitsSigned w32 area.min.y = search rules in
    let b : FitsSigned w32 area.max.y = search rules in
    let d : FitsSigned w32 c.args.extent = search rules in
    let e : FitsSigned w32 area.min.x = search rules in
    let far = sum_fits area.min.y c.args.extent area.max.y a b c.requires.least (rw c.in-Vertical.is at c.requires.most) in
    rw c.in-Vertical.is (simp to_z-of_z)
