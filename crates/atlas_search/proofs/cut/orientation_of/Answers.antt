use Rattle.std.proofs.Common.{FitsSigned, w32, rules}
use Rattle.std.proofs.lemmas.Int.{to_z-of_z}
use Rattle.atlas_search.proofs.CutTiles.{difference_fits, axis_horizontal, axis_vertical}
use Rattle.atlas_search.proofs.cut.orientation_of.Goals as goal

pub returns-then-below-beside : goal.returns-then-below-beside
returns-then-below-beside c =
    let whole = c.args.whole in
    let size = c.args.size in
    let a : FitsSigned w32 whole.width = search rules in
    let b : FitsSigned w32 whole.height = search rules in
    let d : FitsSigned w32 size.width = search rules in
    let e : FitsSigned w32 size.height = search rules in
    let f = difference_fits whole.width size.width a c.requires.wide c.requires.width in
    let g = difference_fits whole.height size.height b c.requires.high c.requires.height in
    let beside = simp to_z-of_z at c.capped_area-beside.ensures in
    let below = simp to_z-of_z at c.capped_area-below.ensures in
    axis_horizontal whole size _ _ c.requires.wide c.requires.high c.requires.width c.requires.height beside below c.if-below-beside.true

pub returns-else-below-beside : goal.returns-else-below-beside
returns-else-below-beside c =
    let whole = c.args.whole in
    let size = c.args.size in
    let a : FitsSigned w32 whole.width = search rules in
    let b : FitsSigned w32 whole.height = search rules in
    let d : FitsSigned w32 size.width = search rules in
    let e : FitsSigned w32 size.height = search rules in
    let f = difference_fits whole.width size.width a c.requires.wide c.requires.width in
    let g = difference_fits whole.height size.height b c.requires.high c.requires.height in
    let beside = simp to_z-of_z at c.capped_area-beside.ensures in
    let below = simp to_z-of_z at c.capped_area-below.ensures in
    axis_vertical whole size _ _ c.requires.wide c.requires.high c.requires.width c.requires.height beside below c.if-below-beside.false
