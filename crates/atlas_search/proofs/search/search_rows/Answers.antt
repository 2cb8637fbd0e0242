use Rattle.std.proofs.Common.{map, refl, arith}
use Rattle.atlas_model.specs.Pixels.{options_of}
use Rattle.atlas_search.proofs.SearchLemmas.AddedLists.{added-of}
use Rattle.atlas_search.proofs.SearchLemmas.AddedLines.{rows-begin, rows-go_on, rest-marked}
use Rattle.atlas_search.proofs.SearchLemmas.NearColumns.{added-row}
use Rattle.atlas_search.proofs.SearchLemmas.SearchesBefore.{below-marked, from-marked, marked-below, marked-from}
use Rattle.atlas_search.proofs.search.search_rows.Goals as goal

pub loop-row-init : goal.loop-row-init
loop-row-init g c = (
  (λ k h. h),
  λ r past. rows-begin (options_of c.args.options.now) (map g.E.Entry.item c.args.entries.now) c.args.end r c.args.first c.args.rows
      c.args.best.now,
)

pub search_larger-requires-clause-listed : goal.search_larger-requires-clause-listed
search_larger-requires-clause-listed g c = (options_of c.args.options.now, c.requires.listed)

pub loop-row-preserved : goal.loop-row-preserved
loop-row-preserved g c =
    let l = c.loop-row in
    let k = c.in-Some.row in
    let o = options_of c.args.options.now in
    let es = map g.E.Entry.item c.args.entries.now in
    let inside = l.invariant.0 k c.in-Some.ensures.first.0 in
    let before = c.requires.rows k inside in (
      λ j h. l.invariant.0 j (rest-marked l.left c.take_first.new.self k j c.in-Some.ensures.rest h),
      λ r after.
          rows-go_on o es c.args.end r c.args.table.now.heads k c.args.first c.args.rows l.left
          c.take_first.new.self
          c.below-columns.result c.args.best.now l.best c.search_larger.new.best c.requires.listed c.in-Some.ensures.rest
          (λ j past before used. marked-below c.from.result c.below-columns.result c.args.end j c.below-columns.ensures
          (marked-from c.row.result c.from.result c.args.first j c.from.ensures (grind (arith, c.row.ensures.used, used, before)) past)
          before)
          (l.invariant.1 r after)
          (added-row o c.args.table.now.heads es c.requires.listed c.args.end r k c.below-columns.result c.columns_near-near.result l.best
          c.columns_near-near.ensures
          (λ j h. (before, (below-marked c.from.result c.below-columns.result c.args.end j c.below-columns.ensures h).1))
          c.search_larger.new.best
          (c.search_larger.ensures o c.args.end r c.requires.listed
          (λ j h. (
            before,
            (below-marked c.from.result c.below-columns.result c.args.end j c.below-columns.ensures
                (c.columns_near-near.ensures.inside j h)).1,
          ))
          (λ j h.
          let within = (below-marked c.from.result c.below-columns.result c.args.end j c.below-columns.ensures
          (c.columns_near-near.ensures.inside j h)).0 in
          let from = (from-marked c.row.result c.from.result c.args.first j c.from.ensures within).1 in
          ((after k inside).0, omega (arith, (after k inside).1, from))))),
    )

pub returns : goal.returns
returns g c r after =
    let l = c.loop-row in
    added-of (options_of c.args.options.now) (map g.E.Entry.item c.args.entries.now) c.args.end r _ _ c.args.best.now l.best
    (λ i j v. (v, c.in_default.ensures.none refl i)) (l.invariant.1 r after)
