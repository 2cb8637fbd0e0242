use Rattle.std.proofs.Common.{map}
use Rattle.atlas_model.specs.Pixels.{options_of}
use Rattle.atlas_search.proofs.SearchLemmas.SearchesBefore.{added-apart, added-beyond, searched}
use Rattle.atlas_search.proofs.search.search_before.Goals as goal

pub returns-then-has_equal_side-clause-best : goal.returns-then-has_equal_side-clause-best
returns-then-has_equal_side-clause-best g c r b begun =
    let o = options_of c.args.options.now in
    let es = map g.E.Entry.item c.args.entries.now in
    let t = c.search_column.new.best in
    searched o c.args.table.now.heads es c.args.own r b.least b.columns b.rows b.search c.args.end c.args.in_row c.args.in_column
    c.args.best.now c.search_row.new.best t t c.requires.row c.requires.column b.of_row b.of_column begun
    (c.search_row.ensures o c.args.end r b.search.listed) (c.search_column.ensures o c.args.end r b.search.listed)
    (added-apart o c.args.table.now.heads es c.args.own r b.least b.columns b.rows b.search c.args.end t
    (c.has_equal_side.ensures.0 c.if-has_equal_side.true))

pub returns-clause-best : goal.returns-clause-best
returns-clause-best g c r b begun =
    let o = options_of c.args.options.now in
    let es = map g.E.Entry.item c.args.entries.now in
    let t = c.search_column.new.best in
    let u = c.search_rows.new.best in
    searched o c.args.table.now.heads es c.args.own r b.least b.columns b.rows b.search c.args.end c.args.in_row c.args.in_column
    c.args.best.now c.search_row.new.best t u c.requires.row c.requires.column b.of_row b.of_column begun
    (c.search_row.ensures o c.args.end r b.search.listed) (c.search_column.ensures o c.args.end r b.search.listed)
    (added-beyond o c.args.table.now.heads es c.args.own r b.least b.columns b.rows b.search c.args.end
    c.rows_with.result c.from-others.result c.below.result t u
    c.rows_with.ensures c.from-others.ensures c.below.ensures (c.search_rows.ensures r))
