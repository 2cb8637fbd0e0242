use Rattle.std.proofs.Common.{map, refl, subst, sym}
use Rattle.atlas_search.specs.declared.link.Link.{Link}
use Rattle.atlas_search.specs.declared.bands.Place.{Place}
use Rattle.atlas_model.specs.Boxes.{Sides}
use Rattle.atlas_search.specs.Heaps.{members}
use Rattle.atlas_search.specs.Showing.{IsListShowable}
use Rattle.atlas_search.proofs.SearchLemmas.AddedLists.{added-list, added-of, all-larger, showable}
use Rattle.atlas_search.proofs.SearchLemmas.AddedLines.{row-begins, row-goes_on, rest-marked}
use Rattle.atlas_search.proofs.search.search_larger.Goals as goal

pub loop-column-init : goal.loop-column-init
loop-column-init g c = (
  (λ k h. h),
  λ o end r a w after. row-begins o (map g.E.Entry.item c.args.entries.now) end r c.args.row c.args.columns c.args.best.now,
)

pub show_larger-requires : goal.show_larger-requires
show_larger-requires g c =
    let es = map g.E.Entry.item c.args.entries.now in
    let any : Sides = record { width = 0; height = 0 } in
    let place : Place = record { row = c.args.row; column = c.in-Some.column } in
    let list = showable c.requires.listed.0 es 0 any c.args.table.now.heads c.requires.listed.1 place c.requires.row
    (c.requires.columns _ (c.loop-column.invariant.0 _ c.in-Some.ensures.first.0)) in
    (list.0, subst (λ (l : Link). IsListShowable es l.number list.0) (sym c.stored_head.ensures) list.1)

pub loop-column-preserved : goal.loop-column-preserved
loop-column-preserved g c =
    let l = c.loop-column in
    let es = map g.E.Entry.item c.args.entries.now in
    let heads = c.args.table.now.heads in
    let k = c.in-Some.column in
    let place : Place = record { row = c.args.row; column = k } in
    let inside = l.invariant.0 k c.in-Some.ensures.first.0 in (
      λ j h. l.invariant.0 j (rest-marked l.left c.take_first.new.self k j c.in-Some.ensures.rest h),
      λ o end r a w after.
          let list = showable o es end r heads a place c.requires.row (c.requires.columns k inside) in
          let larger = all-larger o es end r heads a place c.requires.row (c.requires.columns k inside) (w k inside) (members list.0) list.2
          (after k inside) in
          let shown = c.show_larger.ensures list.0 r
          (subst (λ (h : Link). IsListShowable es h.number list.0) (sym c.stored_head.ensures) list.1) larger in
          row-goes_on o es end r c.args.row k c.args.columns l.left c.take_first.new.self c.args.best.now l.best c.show_larger.new.best
          c.in-Some.ensures.rest (l.invariant.1 o end r a w after)
          (added-list o es end r heads a place c.requires.row (c.requires.columns k inside) (w k inside) (members list.0) list.2 l.best
          c.show_larger.new.best shown),
    )

pub returns : goal.returns
returns g c o end r a w after =
    let l = c.loop-column in
    added-of o (map g.E.Entry.item c.args.entries.now) end r _ _ c.args.best.now l.best (λ i j v. (v, c.in_default.ensures.none refl j))
    (l.invariant.1 o end r a w after)
