use Rattle.std.proofs.Common.{map, refl}
use Rattle.atlas_search.proofs.SearchLemmas.AddedLists.{added-of}
use Rattle.atlas_search.proofs.SearchLemmas.AddedLines.{row-begins, row-goes_on, rest-marked}
use Rattle.atlas_search.proofs.search.search_row.Goals as goal

pub loop-column-init : goal.loop-column-init
loop-column-init g c =
    ((λ k h. h), λ o end r a w. row-begins o (map g.E.Entry.item c.args.entries.now) end r c.args.row c.args.columns c.args.best.now)

pub loop-column-preserved : goal.loop-column-preserved
loop-column-preserved g c =
    let l = c.loop-column in
    let k = c.in-Some.column in (
      λ j h. l.invariant.0 j (rest-marked l.left c.take_first.new.self k j c.in-Some.ensures.rest h),
      λ o end r a w.
          row-goes_on o (map g.E.Entry.item c.args.entries.now) end r c.args.row k c.args.columns l.left c.take_first.new.self
          c.args.best.now l.best c.search_list.new.best c.in-Some.ensures.rest
          (l.invariant.1 o end r a w) (c.search_list.ensures o end r a (w k (l.invariant.0 k c.in-Some.ensures.first.0))),
    )

pub returns : goal.returns
returns g c o end r a w =
    let l = c.loop-column in
    added-of o (map g.E.Entry.item c.args.entries.now) end r _ _ c.args.best.now l.best (λ i j v. (v, c.in_default.ensures.none refl j))
    (l.invariant.1 o end r a w)
