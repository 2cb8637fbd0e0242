use Rattle.std.proofs.Common.{rules, ◌≤◌, ◌<◌, ◌∙◌, add-one, arith, ap}
use Rattle.guillotiere.specs.Pixels.{sides_of}
use Rattle.atlas_sheet.specs.Sheets.{used_area}
use Rattle.atlas_sheet.proofs.BestWays.{all_tried, begin, better, kept}
use Rattle.atlas_sheet.proofs.filling.fill_by.Goals as goal
use Rattle.atlas_sheet.proofs.filling.fill_by.Goals.{then-most-area, else-most-area}

pub loop-way-init : goal.loop-way-init
loop-way-init g c = begin (sides_of c.args.size) c.args.spacing c.args.sprites.now c.args.ways.now _ _ _ c.new-2.ensures.items

pub loop-way-preserved : goal.loop-way-preserved
loop-way-preserved g c =
    let is = c.used_area-area.ensures ∙ ap used_area c.deref.ensures.value in
    elim c.if-most-area.branch [
      | then-most-area w ↦
          let le : c.loop-way.most ≤ c.used_area-area.result = search (rules, w.if-most-area) in
          rw (add-one, w.best-is, w.best_way-is, w.most-is)
          (better (sides_of c.args.size) c.args.spacing c.args.sprites.now c.args.ways.now c.loop-way.way-index _ c.loop-way.best_way
          c.loop-way.best.order.items c.in_ok-found.found.order.items c.loop-way.best.places.items c.in_ok-found.found.places.items
          c.loop-way.most c.used_area-area.result c.loop-way-test.true is c.in_ok-found.ensures.found c.loop-way.invariant
          c.in_ok-found.ensures.places le)
      | else-most-area w ↦
          let less : c.used_area-area.result < c.loop-way.most = search (rules, w.if-most-area) in
          rw (add-one, w.best-is, w.best_way-is, w.most-is)
          (kept (sides_of c.args.size) c.args.spacing c.args.sprites.now c.args.ways.now c.loop-way.way-index _ c.loop-way.best_way
          c.loop-way.best.order.items c.in_ok-found.found.order.items c.loop-way.best.places.items c.in_ok-found.found.places.items
          c.loop-way.most c.used_area-area.result c.loop-way-test.true is c.in_ok-found.ensures.found c.loop-way.invariant
          less)
    ]

pub returns-clause-places : goal.returns-clause-places
returns-clause-places g c = c.loop-way.invariant.good (omega (arith, c.loop-way-test.false, c.requires.ways))

pub returns-clause-best : goal.returns-clause-best
returns-clause-best g c =
    all_tried (sides_of c.args.size) c.args.spacing c.args.sprites.now c.args.ways.now c.loop-way.way-index c.loop-way.best_way
    c.loop-way.best.order.items c.loop-way.best.places.items c.loop-way.most c.loop-way-test.false c.requires.ways c.loop-way.invariant
