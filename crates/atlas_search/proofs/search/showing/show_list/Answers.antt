use Rattle.std.proofs.Common.{map, ap, ◌∙◌, arith, rules}
use Rattle.std.proofs.lemmas.List.{length-map}
use Rattle.atlas_search.specs.Forks.{cell_of}
use Rattle.atlas_search.proofs.SearchLemmas.Cells.{by-cut, halves-of}
use Rattle.atlas_search.proofs.SearchLemmas.HeapSearches.{heap-empty, heap-fork, heap-shown}
use Rattle.atlas_search.proofs.SearchLemmas.HeapSearches.{list-alone, list-as_heap, list-read}
use Rattle.atlas_search.proofs.SearchLemmas.HeapSearches.{list-solid, list-solid_area}
use Rattle.atlas_search.proofs.search.showing.show_list.Goals as goal

pub returns-then-top-entries : goal.returns-then-top-entries
returns-then-top-entries g c = λ h s.
    heap-empty (map g.E.Entry.item c.args.entries.now) s.up c.args.top.number h (omega (arith, s.short)) s.heap
    (omega (arith, c.if-top-entries.true, length-map c.args.entries.now g.E.Entry.item)) c.args.best.now

pub exact_size-requires : goal.exact_size-requires
exact_size-requires g c =
    list-solid_area g.E.Entry.item c.args.entries.now c.args.top.number c.requires.0 c.requires.1 c.if-top-entries.false
    c.index-entries-top.result c.index-entries-top.is c.rectangle.result c.rectangle.ensures

pub show_entry-requires : goal.show_entry-requires
show_entry-requires g c =
    list-solid g.E.Entry.item c.args.entries.now c.args.top.number c.requires.0 c.requires.1 c.if-top-entries.false
    c.index-entries-top.result
    c.index-entries-top.is

pub is_cut_wide-requires : goal.is_cut_wide-requires
is_cut_wide-requires g c =
    (list-as_heap g.E.Entry.item c.args.entries.now c.args.top.number c.requires.0 c.requires.1 c.if-top-entries.false
    c.index-entries-top.result c.index-entries-top.is c.rectangle.result c.rectangle.ensures (search rules) (search rules)
    c.around-cell.result (c.around-cell.ensures ∙ ap cell_of c.exact_size.ensures.sides)).is_cell

pub halves-halves-requires : goal.halves-halves-requires
halves-halves-requires g c =
    (list-as_heap g.E.Entry.item c.args.entries.now c.args.top.number c.requires.0 c.requires.1 c.if-top-entries.false
    c.index-entries-top.result c.index-entries-top.is c.rectangle.result c.rectangle.ensures (search rules) (search rules)
    c.around-cell.result (c.around-cell.ensures ∙ ap cell_of c.exact_size.ensures.sides)).is_cell

pub show_halves-requires-clause-fork : goal.show_halves-requires-clause-fork
show_halves-requires-clause-fork g c =
    let s = list-as_heap g.E.Entry.item c.args.entries.now c.args.top.number c.requires.0 c.requires.1 c.if-top-entries.false
    c.index-entries-top.result c.index-entries-top.is c.rectangle.result c.rectangle.ensures (search rules) (search rules)
    c.around-cell.result (c.around-cell.ensures ∙ ap cell_of c.exact_size.ensures.sides) in (
      c.around-cell.result,
      _,
      _,
      _,
      halves-of c.around-cell.result c.is_cut_wide.result c.halves-halves.result.low c.halves-halves.result.high
          (by-cut c.around-cell.result c.is_cut_wide.result c.is_cut_wide.ensures.wide c.is_cut_wide.ensures.tall)
          c.halves-halves.ensures.low c.halves-halves.ensures.high,
      heap-fork g.E.Entry.item c.args.entries.now c.around-cell.result c.args.top.number c.requires.0 s c.if-top-entries.false
          c.index-entries-top.result c.index-entries-top.is (c.show_entry.ensures.fork c.if-show_entry.true).0,
    )

pub returns-then-show_entry : goal.returns-then-show_entry
returns-then-show_entry g c = λ h l q.
    let xs = c.args.entries.now in
    let x = c.index-entries-top.result in
    let s = list-as_heap g.E.Entry.item c.args.entries.now c.args.top.number h l c.if-top-entries.false
    c.index-entries-top.result c.index-entries-top.is c.rectangle.result c.rectangle.ensures (search rules) (search rules)
    c.around-cell.result (c.around-cell.ensures ∙ ap cell_of c.exact_size.ensures.sides) in
    let f = c.show_entry.ensures.fork c.if-show_entry.true in
    heap-shown g.E.Entry.item xs c.around-cell.result c.args.top.number h s c.if-top-entries.false x c.index-entries-top.is q
    c.args.best.now c.show_entry.new.best c.show_halves.new.best
    (f.1 (map g.E.Entry.item xs)
    (list-read g.E.Entry.item xs c.args.top.number h l c.if-top-entries.false x c.index-entries-top.is) q)
    (c.show_halves.ensures c.around-cell.result _ _ _
    (halves-of c.around-cell.result c.is_cut_wide.result c.halves-halves.result.low c.halves-halves.result.high
    (by-cut c.around-cell.result c.is_cut_wide.result c.is_cut_wide.ensures.wide c.is_cut_wide.ensures.tall)
    c.halves-halves.ensures.low c.halves-halves.ensures.high)
    (heap-fork g.E.Entry.item xs c.around-cell.result c.args.top.number h s c.if-top-entries.false x
    c.index-entries-top.is f.0))

pub returns-else-show_entry : goal.returns-else-show_entry
returns-else-show_entry g c = λ h s q.
    let xs = c.args.entries.now in
    list-alone g.E.Entry.item xs c.args.top.number h s c.if-top-entries.false c.index-entries-top.result c.index-entries-top.is q
    c.args.best.now c.show_entry.new.best
    (λ up d l r heap routed. c.show_entry.ensures.all c.if-show_entry.false (map g.E.Entry.item xs)
    (list-read g.E.Entry.item xs c.args.top.number h s c.if-top-entries.false c.index-entries-top.result c.index-entries-top.is)
    up d l r heap routed q)
