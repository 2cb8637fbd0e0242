use Rattle.std.proofs.Common.{rules, ◌≡◌, ◌+◌, ◌*◌, ◌/◌, ◌<◌, ◌≤◌, ◌∙◌, ap}
use Rattle.guillotiere.specs.Pixels.{natural, sides_of}
use Rattle.atlas_sheet.proofs.Topmost.{whole_is}
use Rattle.atlas_sheet.proofs.cells.grid_in.Goals as goal

pub returns-clause-whole : goal.returns-clause-whole
returns-clause-whole c =
    let across = natural c.whole_cells.result in
    let down = natural c.whole_cells-2.result in
    let cell = sides_of c.args.spacing.alignment in
    let room = sides_of c.inner-room.result in
    let fits : across * cell.width ≤ room.width = search (rules, c.whole_cells.ensures.fit) in
    let most : room.width < across * cell.width + cell.width = search (rules, c.whole_cells.ensures.most) in
    let stands : down * cell.height ≤ room.height = search (rules, c.whole_cells-2.ensures.fit) in
    let top : room.height < down * cell.height + cell.height = search (rules, c.whole_cells-2.ensures.most) in
    let w : (sides_of c.size2.result).width ≡ across = search (rules, c.size2.ensures) in
    let h : (sides_of c.size2.result).height ≡ down = search (rules, c.size2.ensures) in
    let x = w ∙ whole_is across room.width cell.width c.requires.aligned.0 fits most ∙
    ap (λ s. s.width / cell.width) c.inner-room.ensures.sides in
    let y = h ∙ whole_is down room.height cell.height c.requires.aligned.1 stands top ∙
    ap (λ s. s.height / cell.height) c.inner-room.ensures.sides in
    λ i. record { width = x i; height = y i }
