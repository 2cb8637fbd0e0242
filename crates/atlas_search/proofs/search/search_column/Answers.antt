use Rattle.std.proofs.Common.{map, refl}
use Rattle.atlas_search.proofs.SearchLemmas.AddedLists.{added-of}
use Rattle.atlas_search.proofs.SearchLemmas.AddedLines.{column-begins, column-goes_on, rest-marked}
use Rattle.atlas_search.proofs.search.search_column.Goals as goal

pub loop-row-init : goal.loop-row-init
loop-row-init g c =
    ((λ k h. h), λ o end r a w. column-begins o (map g.E.Entry.item c.args.entries.now) end r c.args.column c.args.rows c.args.best.now)

pub loop-row-preserved : goal.loop-row-preserved
loop-row-preserved g c =
    let l = c.loop-row in
    let k = c.in-Some.row in (
      λ j h. l.invariant.0 j (rest-marked l.left c.take_first.new.self k j c.in-Some.ensures.rest h),
      λ o end r a w.
          column-goes_on o (map g.E.Entry.item c.args.entries.now) end r c.args.column k c.args.rows l.left c.take_first.new.self
          c.args.best.now l.best c.search_list.new.best c.in-Some.ensures.rest
          (l.invariant.1 o end r a w) (c.search_list.ensures o end r a (w k (l.invariant.0 k c.in-Some.ensures.first.0))),
    )

pub returns : goal.returns
returns g c o end r a w =
    let l = c.loop-row in
    added-of o (map g.E.Entry.item c.args.entries.now) end r _ _ c.args.best.now l.best (λ i j v. (v, c.in_default.ensures.none refl i))
    (l.invariant.1 o end r a w)
