use Rattle.std.proofs.Common.{map, refl, arith}
use Rattle.atlas_model.specs.Pixels.{options_of, sides_of}
use Rattle.atlas_search.proofs.SearchLemmas.FewLists.{few-searched, fits-far}
use Rattle.atlas_search.proofs.SearchLemmas.ItemPicks.{area-read, best-found, free-inside, none-found, none-from, no_room-of_items}
use Rattle.atlas_search.proofs.SearchLemmas.ItemPicks.{pick-of_items}
use Rattle.atlas_search.proofs.search.pick_few.Goals as goal

pub loop-least-init : goal.loop-least-init
loop-least-init g c =
    fits-far (options_of c.args.options.now) c.args.table.now.heads (map g.E.Entry.item c.args.entries.now) (sides_of c.args.size)
    c.requires.listed c.place_for-own.result c.place_for-own.ensures.row c.place_for-own.ensures.column c.max-greater.result
    c.max-greater.ensures

pub bounds-entries-at : goal.bounds-entries-at
bounds-entries-at g c =
    let o = options_of c.args.options.now in
    let es = map g.E.Entry.item c.args.entries.now in
    let r = sides_of c.args.size in
    let is = c.in-Some.ensures.some in
    let own = c.place_for-own in
    let searched = few-searched o es c.end_after-end.result r own.result.row own.result.column c.max-greater.result c.large.result
    c.new-best.result c.search_few.new.best c.requires.listed.valid c.requires.positive own.ensures.row own.ensures.column
    c.max-greater.ensures c.large.ensures c.new-best.ensures (c.search_few.ensures o r c.requires.listed) in
    let best = best-found o es r c.end_after-end.result c.search_few.new.best c.in-Some.at _ searched is.0 is.1 refl in
    free-inside g.E.Entry.item c.args.entries.now c.in-Some.at.number best.standing.free

pub offset_bounds-entries-at : goal.offset_bounds-entries-at
offset_bounds-entries-at g c = omega (arith, bounds-entries-at g c)

pub returns-in-Some-clause-picked : goal.returns-in-Some-clause-picked
returns-in-Some-clause-picked g c =
    let o = options_of c.args.options.now in
    let es = map g.E.Entry.item c.args.entries.now in
    let r = sides_of c.args.size in
    let is = c.in-Some.ensures.some in
    let own = c.place_for-own in
    let searched = few-searched o es c.end_after-end.result r own.result.row own.result.column c.max-greater.result c.large.result
    c.new-best.result c.search_few.new.best c.requires.listed.valid c.requires.positive own.ensures.row own.ensures.column
    c.max-greater.ensures c.large.ensures c.new-best.ensures (c.search_few.ensures o r c.requires.listed) in
    let free = (best-found o es r c.end_after-end.result c.search_few.new.best c.in-Some.at _ searched is.0 is.1 refl).standing.free in
    let area = area-read g.E.Entry.item c.args.entries.now c.in-Some.at.number c.index-entries-at.result c.rectangle-rectangle.result free
    c.index-entries-at.is c.rectangle-rectangle.ensures in
    let best = best-found o es r c.end_after-end.result c.search_few.new.best c.in-Some.at c.rectangle-rectangle.result searched is.0 is.1
    area in
    pick-of_items o es r c.args.table.now.heads c.requires.listed c.loop-least.least c.end_after-end.result _ c.end_after-end.ensures.class
    c.loop-least.invariant best

pub returns-in-Some-clause-standing : goal.returns-in-Some-clause-standing
returns-in-Some-clause-standing g c =
    let o = options_of c.args.options.now in
    let es = map g.E.Entry.item c.args.entries.now in
    let r = sides_of c.args.size in
    let is = c.in-Some.ensures.some in
    let own = c.place_for-own in
    let searched = few-searched o es c.end_after-end.result r own.result.row own.result.column c.max-greater.result c.large.result
    c.new-best.result c.search_few.new.best c.requires.listed.valid c.requires.positive own.ensures.row own.ensures.column
    c.max-greater.ensures c.large.ensures c.new-best.ensures (c.search_few.ensures o r c.requires.listed) in
    let free = (best-found o es r c.end_after-end.result c.search_few.new.best c.in-Some.at _ searched is.0 is.1 refl).standing.free in
    let area = area-read g.E.Entry.item c.args.entries.now c.in-Some.at.number c.index-entries-at.result c.rectangle-rectangle.result free
    c.index-entries-at.is c.rectangle-rectangle.ensures in
    (best-found o es r c.end_after-end.result c.search_few.new.best c.in-Some.at c.rectangle-rectangle.result searched is.0 is.1
    area).standing

pub loop-least-preserved : goal.loop-least-preserved
loop-least-preserved g c =
    let o = options_of c.args.options.now in
    let es = map g.E.Entry.item c.args.entries.now in
    let r = sides_of c.args.size in
    let own = c.place_for-own in
    let searched = few-searched o es c.end_after-end.result r own.result.row own.result.column c.max-greater.result c.large.result
    c.new-best.result c.search_few.new.best c.requires.listed.valid c.requires.positive own.ensures.row own.ensures.column
    c.max-greater.ensures c.large.ensures c.new-best.ensures (c.search_few.ensures o r c.requires.listed) in
    none-found o es r c.end_after-end.result c.search_few.new.best searched (c.found.ensures.none c.in_default.is)

pub returns-clause-none : goal.returns-clause-none
returns-clause-none g c _ =
    let o = options_of c.args.options.now in
    let es = map g.E.Entry.item c.args.entries.now in
    no_room-of_items o es (sides_of c.args.size) (none-from o es (sides_of c.args.size) c.loop-least.least c.loop-least-test.false
    c.loop-least.invariant)
