use Rattle.std.proofs.Common.{◌≡◌, rules, true, false, take, length, map, All, sym, subst}
use Rattle.guillotiere.specs.declared.Size.{Size}
use Rattle.guillotiere.specs.Pixels.{sides_of}
use Rattle.atlas_sheet.specs.declared.turnings.Turning.TheVariants as turning
use Rattle.atlas_sheet.specs.declared.ways.TheConstants.{WAYS}
use Rattle.atlas_sheet.specs.Allowances.{IsGreatest}
use Rattle.atlas_sheet.specs.Fillings.{FindsFewer, IsBestFound, IsNoBetter, ways_tried}
use Rattle.atlas_sheet.specs.Lying.{IsArranged}
use Rattle.atlas_sheet.specs.Settings.{spacing_of}
use Rattle.atlas_sheet.specs.Sheets.{used_area}
use Rattle.atlas_sheet.specs.Turnings.{InEach, InFirst}
use Rattle.atlas_sheet.proofs.LaidWays.{filled_best, full_each, full_one, fullest, taken}
use Rattle.atlas_sheet.proofs.sheets.first_filled.Goals as goal

pub returns-clause-arranged : goal.returns-clause-arranged
returns-clause-arranged g c =
    taken (IsArranged c.args.options.now c.args.sprites.now) c.in_ok-given.given c.in_ok-wide.wide c.in_ok-high.high c.fuller.result
    c.fuller-2.result
    c.fuller.ensures c.fuller-2.ensures c.in_ok-given.ensures.arranged c.in_ok-wide.ensures.arranged c.in_ok-high.ensures.arranged

pub returns-clause-size : goal.returns-clause-size
returns-clause-size g c =
    let size : c.fuller-2.result.size ≡ c.greatest_sheet-size.result =
    taken (λ a. a.size ≡ c.greatest_sheet-size.result) c.in_ok-given.given c.in_ok-wide.wide c.in_ok-high.high c.fuller.result
    c.fuller-2.result
    c.fuller.ensures c.fuller-2.ensures c.in_ok-given.ensures.size c.in_ok-wide.ensures.size c.in_ok-high.ensures.size in
    subst (λ (s : Size). IsGreatest c.args.options.now.allowed (sides_of s)) (sym size) c.greatest_sheet-size.ensures

pub returns-clause-best : goal.returns-clause-best
returns-clause-best g c =
    let sprites = c.args.sprites.now in
    let best = c.fuller-2.result in
    let ways = take (ways_tried (length sprites)) WAYS in
    let sheet = sides_of c.greatest_sheet-size.result in
    let on : c.args.options.now.turn ≡ true = search rules in
    let all = fullest c.args.options.now sprites ways sheet (λ a. map (λ s. s.0) a.order.items) (λ a. a.places.items)
    (λ a. a.lying.items) c.in_ok-given.given c.in_ok-wide.wide c.in_ok-high.high c.fuller.result best
    c.in_ok-given.ensures.laid c.in_ok-wide.ensures.laid c.in_ok-high.ensures.laid
    c.in_ok-given.ensures.found c.in_ok-wide.ensures.found c.in_ok-high.ensures.found c.fuller.ensures c.fuller-2.ensures in
    let size : best.size ≡ c.greatest_sheet-size.result =
    taken (λ a. a.size ≡ c.greatest_sheet-size.result) c.in_ok-given.given c.in_ok-wide.wide c.in_ok-high.high c.fuller.result best
    c.fuller.ensures c.fuller-2.ensures c.in_ok-given.ensures.size c.in_ok-wide.ensures.size c.in_ok-high.ensures.size in
    subst (λ (s : Size). InEach c.args.options.now sprites
    (λ lying. All (IsNoBetter (sides_of s) (spacing_of c.args.options.now) lying (used_area best.places.items)) ways)) (sym size)
    (full_each c.args.options.now sprites ways sheet (λ a. map (λ s. s.0) a.order.items) (λ a. a.places.items) true best on all)

pub returns-clause-found : goal.returns-clause-found
returns-clause-found g c =
    let sprites = c.args.sprites.now in
    let best = c.fuller-2.result in
    let ways = take (ways_tried (length sprites)) WAYS in
    let sheet = sides_of c.greatest_sheet-size.result in
    let on : c.args.options.now.turn ≡ true = search rules in
    let all = fullest c.args.options.now sprites ways sheet (λ a. map (λ s. s.0) a.order.items) (λ a. a.places.items)
    (λ a. a.lying.items) c.in_ok-given.given c.in_ok-wide.wide c.in_ok-high.high c.fuller.result best
    c.in_ok-given.ensures.laid c.in_ok-wide.ensures.laid c.in_ok-high.ensures.laid
    c.in_ok-given.ensures.found c.in_ok-wide.ensures.found c.in_ok-high.ensures.found c.fuller.ensures c.fuller-2.ensures in
    let size : best.size ≡ c.greatest_sheet-size.result =
    taken (λ a. a.size ≡ c.greatest_sheet-size.result) c.in_ok-given.given c.in_ok-wide.wide c.in_ok-high.high c.fuller.result best
    c.fuller.ensures c.fuller-2.ensures c.in_ok-given.ensures.size c.in_ok-wide.ensures.size c.in_ok-high.ensures.size in
    subst (λ (s : Size). InFirst c.args.options.now sprites
    (λ lying. IsBestFound ways (sides_of s) (spacing_of c.args.options.now) lying (map (λ s. s.0) best.order.items) best.places.items)
    (λ lying. All (FindsFewer (sides_of s) (spacing_of c.args.options.now) lying (used_area best.places.items)) ways)) (sym size)
    (full_one c.args.options.now sprites ways sheet (λ a. map (λ s. s.0) a.order.items) (λ a. a.places.items) true best on all)

pub returns-then-not-options-clause-best : goal.returns-then-not-options-clause-best
returns-then-not-options-clause-best g c =
    let a = c.in_ok-given.given in
    let sprites = c.args.sprites.now in
    let ways = take (ways_tried (length sprites)) WAYS in
    let off : c.args.options.now.turn ≡ false = search rules in
    let sheet = sides_of c.greatest_sheet-size.result in
    subst (λ (s : Size). InEach c.args.options.now sprites
    (λ lying. All (IsNoBetter (sides_of s) (spacing_of c.args.options.now) lying (used_area a.places.items)) ways))
    (sym c.in_ok-given.ensures.size)
    (full_each c.args.options.now sprites ways sheet (λ a. map (λ s. s.0) a.order.items) (λ a. a.places.items) false a off
    (filled_best c.args.options.now sprites ways sheet (λ a. map (λ s. s.0) a.order.items) (λ a. a.places.items) turning.AsGiven a
    a.lying.items
    c.in_ok-given.ensures.laid c.in_ok-given.ensures.found))

pub returns-then-not-options-clause-found : goal.returns-then-not-options-clause-found
returns-then-not-options-clause-found g c =
    let a = c.in_ok-given.given in
    let sprites = c.args.sprites.now in
    let ways = take (ways_tried (length sprites)) WAYS in
    let off : c.args.options.now.turn ≡ false = search rules in
    let sheet = sides_of c.greatest_sheet-size.result in
    subst (λ (s : Size). InFirst c.args.options.now sprites
    (λ lying. IsBestFound ways (sides_of s) (spacing_of c.args.options.now) lying (map (λ s. s.0) a.order.items) a.places.items)
    (λ lying. All (FindsFewer (sides_of s) (spacing_of c.args.options.now) lying (used_area a.places.items)) ways))
    (sym c.in_ok-given.ensures.size)
    (full_one c.args.options.now sprites ways sheet (λ a. map (λ s. s.0) a.order.items) (λ a. a.places.items) false a off
    (filled_best c.args.options.now sprites ways sheet (λ a. map (λ s. s.0) a.order.items) (λ a. a.places.items) turning.AsGiven a
    a.lying.items
    c.in_ok-given.ensures.laid c.in_ok-given.ensures.found))
