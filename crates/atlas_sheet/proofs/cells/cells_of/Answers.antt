use Rattle.std.proofs.Common.{rules, ◌≡◌, ◌+◌, ◌*◌, ◌<◌, ◌≤◌, ◌∙◌}
use Rattle.guillotiere.specs.Pixels.{natural, sides_of}
use Rattle.atlas_sheet.proofs.Topmost.{over_is}
use Rattle.atlas_sheet.proofs.cells.cells_of.Goals as goal

pub returns-clause-cells : goal.returns-clause-cells
returns-clause-cells c =
    let across = natural c.cells_for.result in
    let down = natural c.cells_for-2.result in
    let asked = sides_of c.args.asked in
    let cell = sides_of c.args.cell in
    let wide : asked.width ≤ across * cell.width = search (rules, c.cells_for.ensures.enough) in
    let narrow : across * cell.width < asked.width + cell.width = search (rules, c.cells_for.ensures.least) in
    let high : asked.height ≤ down * cell.height = search (rules, c.cells_for-2.ensures.enough) in
    let low : down * cell.height < asked.height + cell.height = search (rules, c.cells_for-2.ensures.least) in
    let w : (sides_of c.size2.result).width ≡ across = search (rules, c.size2.ensures) in
    let h : (sides_of c.size2.result).height ≡ down = search (rules, c.size2.ensures) in
    let x = w ∙ over_is across asked.width cell.width c.requires.cell.0 wide narrow in
    let y = h ∙ over_is down asked.height cell.height c.requires.cell.1 high low in
    λ i. record { width = x i; height = y i }
