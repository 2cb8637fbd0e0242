use Rattle.std.proofs.Common.{◌≡◌, ◌∙◌, map, take, length, ap, subst, sym, All}
use Rattle.guillotiere.specs.declared.Size.{Size}
use Rattle.guillotiere.specs.Pixels.{sides_of}
use Rattle.atlas_sheet.specs.declared.ways.TheConstants.{WAYS}
use Rattle.atlas_sheet.specs.Fillings.{FindsFewer, IsBestFound, IsNoBetter, ways_tried}
use Rattle.atlas_sheet.specs.Settings.{spacing_of}
use Rattle.atlas_sheet.specs.Sheets.{used_area}
use Rattle.atlas_sheet.specs.Turnings.{InEach}
use Rattle.atlas_sheet.proofs.LaidWays.{first_in_one}
use Rattle.atlas_sheet.proofs.sheets.fill.Goals as goal

pub returns-clause-best : goal.returns-clause-best
returns-clause-best g c =
    let best = c.in_ok-best.best in
    let filled = c.in_ok-filled.filled in
    let ways = take (ways_tried (length c.args.sprites.now)) WAYS in
    let used : filled.used_area ≡ used_area best.places.items = c.in_ok-filled.ensures.area ∙ ap used_area c.in_ok-filled.ensures.areas in
    subst (λ (s : Size). InEach c.args.options.now c.args.sprites.now
    (λ lying. All (IsNoBetter (sides_of s) (spacing_of c.args.options.now) lying filled.used_area) ways)) (sym c.in_ok-filled.ensures.size)
    (subst (λ n. InEach c.args.options.now c.args.sprites.now
    (λ lying. All (IsNoBetter (sides_of best.size) (spacing_of c.args.options.now) lying n) ways)) (sym used) c.in_ok-best.ensures.best)

pub returns-clause-plain : goal.returns-clause-plain
returns-clause-plain g c e =
    let best = c.in_ok-best.best in
    let ways = take (ways_tried (length c.args.sprites.now)) WAYS in
    rw (c.in_ok-filled.ensures.size, c.in_ok-filled.ensures.order, c.in_ok-filled.ensures.areas)
    (first_in_one c.args.options.now c.args.sprites.now
    (λ lying. IsBestFound ways (sides_of best.size) (spacing_of c.args.options.now) lying (map (λ s. s.0) best.order.items)
    best.places.items)
    (λ lying. All (FindsFewer (sides_of best.size) (spacing_of c.args.options.now) lying (used_area best.places.items)) ways)
    (c.in_ok-best.ensures.plain e))

pub returns-clause-earliest : goal.returns-clause-earliest
returns-clause-earliest g c e =
    let best = c.in_ok-best.best in
    let filled = c.in_ok-filled.filled in
    let used : filled.used_area ≡ used_area best.places.items = c.in_ok-filled.ensures.area ∙ ap used_area c.in_ok-filled.ensures.areas in
    rw (used, c.in_ok-filled.ensures.size, c.in_ok-filled.ensures.order, c.in_ok-filled.ensures.areas) (c.in_ok-best.ensures.plain e)
