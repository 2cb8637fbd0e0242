use Rattle.std.proofs.Common.{map, subst, sym}
use Rattle.std.proofs.lemmas.Option.{IfSome_then}
use Rattle.atlas_search.specs.declared.bands.Place.{Place}
use Rattle.atlas_search.specs.declared.link.Link.{Link}
use Rattle.atlas_model.specs.Boxes.{Sides}
use Rattle.atlas_search.specs.Heaps.{members}
use Rattle.atlas_search.specs.Showing.{IsListShowable}
use Rattle.atlas_search.proofs.SearchLemmas.AddedLists.{added-list, showable}
use Rattle.atlas_search.proofs.SearchLemmas.HeapSearches.{list-alone, list-read, list-solid}
use Rattle.atlas_search.proofs.SearchLemmas.SearchesBefore.{below-marked, searched-alone}
use Rattle.atlas_search.proofs.search.pick_alone.Goals as goal

pub show_entry-requires : goal.show_entry-requires
show_entry-requires g c =
    let es = map g.E.Entry.item c.args.entries.now in
    let any : Sides = record { width = 0; height = 0 } in
    let column = c.in-Some.column in
    let place : Place = record { row = c.args.own.row; column = column } in
    let list = showable c.requires.listed.0 es 0 any c.args.table.now.heads c.requires.listed.1 place c.requires.row
    (c.requires.columns column c.in-Some.ensures.first.0) in
    list-solid g.E.Entry.item c.args.entries.now c.stored_head-top.result.number list.0
    (subst (λ (l : Link). IsListShowable es l.number list.0) (sym c.stored_head-top.ensures) list.1) c.if-top-entries.false
    c.index-entries-top.result c.index-entries-top.is

pub returns-then-has_equal_side : goal.returns-then-has_equal_side
returns-then-has_equal_side g c =
    let xs = c.args.entries.now in
    let es = map g.E.Entry.item xs in
    let heads = c.args.table.now.heads in
    let column = c.in-Some.column in
    let first = c.in-Some.ensures.first.0 in
    let place : Place = record { row = c.args.own.row; column = column } in
    let top = c.stored_head-top.result.number in
    let best = c.show_entry.new.best in
    IfSome_then c.found.result c.found.ensures.some (λ at found o end r lr lc before begun.
    let below = (below-marked before.columns c.args.in_row end column before.of_row first).1 in
    let list = showable o es end r heads before.search.listed place c.requires.row (c.requires.columns column first) in
    let shows = subst (λ (l : Link). IsListShowable es l.number list.0) (sym c.stored_head-top.ensures) list.1 in
    let x = c.index-entries-top.result in
    let shown = list-alone g.E.Entry.item xs top list.0 shows c.if-top-entries.false x c.index-entries-top.is r c.args.begun best
    (λ up d low high heap routed. c.show_entry.ensures.all c.if-show_entry.false es
    (list-read g.E.Entry.item xs top list.0 shows c.if-top-entries.false x c.index-entries-top.is) up d low high heap routed r) in
    record {
      search = best;
      searched = searched-alone o heads es c.args.own r before.least before.columns before.rows before.search end c.args.in_row
          c.args.in_column c.take_first.new.self c.or.result column c.args.begun best lr lc before.of_row before.of_column
          c.in-Some.ensures.rest c.or.ensures (c.is_empty.ensures.empty c.if-not-is_empty.false) begun
          (added-list o es end r heads before.search.listed place c.requires.row (c.requires.columns column first) (lr, below)
          (members list.0) list.2 c.args.begun best shown)
          (c.has_equal_side.ensures.0 c.if-has_equal_side.true);
      is_at = found.0;
      some = found.1;
    })
