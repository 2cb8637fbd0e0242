use Rattle.std.proofs.Common.{map, ap, sym, ◌∙◌, arith, rules}
use Rattle.std.proofs.lemmas.List.{length-map}
use Rattle.atlas_search.specs.Forks.{cell_of}
use Rattle.atlas_search.proofs.SearchLemmas.Cells.{by-cut, halves-of}
use Rattle.atlas_search.proofs.SearchLemmas.HeapSearches.{entry-alike, heap-empty, heap-ended, heap-fork, heap-shown}
use Rattle.atlas_search.proofs.SearchLemmas.HeapSearches.{list-alone, list-as_heap, list-looked, list-passed, list-read}
use Rattle.atlas_search.proofs.SearchLemmas.HeapSearches.{list-solid_area}
use Rattle.atlas_search.proofs.search.showing.show_larger.Goals as goal

pub returns-then-top-entries : goal.returns-then-top-entries
returns-then-top-entries g c = λ h r s larger.
    heap-empty (map g.E.Entry.item c.args.entries.now) s.up c.args.top.number h (omega (arith, s.short)) s.heap
    (omega (arith, c.if-top-entries.true, length-map c.args.entries.now g.E.Entry.item)) c.args.best.now r

pub corner-corner-requires : goal.corner-corner-requires
corner-corner-requires g c =
    (list-solid_area g.E.Entry.item c.args.entries.now c.args.top.number c.requires.0 c.requires.1 c.if-top-entries.false
    c.index-entries-top.result c.index-entries-top.is c.rectangle-area.result c.rectangle-area.ensures).unsigned

pub look_larger-requires-clause-unsigned : goal.look_larger-requires-clause-unsigned
look_larger-requires-clause-unsigned g c =
    (list-solid_area g.E.Entry.item c.args.entries.now c.args.top.number c.requires.0 c.requires.1 c.if-top-entries.false
    c.index-entries-top.result c.index-entries-top.is c.rectangle-area.result c.rectangle-area.ensures).unsigned

pub look_larger-requires-clause-nonempty : goal.look_larger-requires-clause-nonempty
look_larger-requires-clause-nonempty g c =
    (list-solid_area g.E.Entry.item c.args.entries.now c.args.top.number c.requires.0 c.requires.1 c.if-top-entries.false
    c.index-entries-top.result c.index-entries-top.is c.rectangle-area.result c.rectangle-area.ensures).nonempty

pub exact_size-requires : goal.exact_size-requires
exact_size-requires g c =
    list-solid_area g.E.Entry.item c.args.entries.now c.args.top.number c.requires.0 c.requires.1 c.if-top-entries.false
    c.index-entries-top.result c.index-entries-top.is c.rectangle-area.result c.rectangle-area.ensures

pub returns-then-passes_larger : goal.returns-then-passes_larger
returns-then-passes_larger g c = λ h r l larger.
    list-passed g.E.Entry.item c.args.entries.now c.args.top.number h l c.if-top-entries.false c.index-entries-top.result
    c.index-entries-top.is r c.args.best.now larger c.rectangle-area.result c.rectangle-area.ensures (search rules)
    c.corner-corner.result c.corner-corner.ensures.corner
    (λ is_large. c.passes_larger.ensures c.if-passes_larger.true is_large r)

pub returns-then-ends_in : goal.returns-then-ends_in
returns-then-ends_in g c = λ h r l larger.
    let item = g.E.Entry.item in
    let xs = c.args.entries.now in
    let x = c.index-entries-top.result in
    let s = list-as_heap item xs c.args.top.number h l c.if-top-entries.false x c.index-entries-top.is c.rectangle-area.result
    c.rectangle-area.ensures (search rules) (search rules) c.around-cell.result
    (c.around-cell.ensures ∙ ap cell_of c.exact_size.ensures.sides) in
    heap-ended item xs c.around-cell.result c.args.top.number h s c.if-top-entries.false x c.index-entries-top.is r
    c.args.best.now c.look_larger.new.self
    (list-looked item xs c.args.top.number h l c.if-top-entries.false x c.index-entries-top.is r c.args.best.now c.look_larger.new.self
    larger c.rectangle-area.result c.rectangle-area.ensures c.look_larger.ensures)
    c.rectangle-area.result c.rectangle-area.ensures (search rules) c.corner-corner.result c.corner-corner.ensures.corner
    (λ is_large. c.ends_in.ensures c.if-ends_in.true is_large r)

pub is_cut_wide-requires : goal.is_cut_wide-requires
is_cut_wide-requires g c =
    (list-as_heap g.E.Entry.item c.args.entries.now c.args.top.number c.requires.0 c.requires.1 c.if-top-entries.false
    c.index-entries-top.result c.index-entries-top.is c.rectangle-area.result c.rectangle-area.ensures (search rules) (search rules)
    c.around-cell.result (c.around-cell.ensures ∙ ap cell_of c.exact_size.ensures.sides)).is_cell

pub halves-halves-requires : goal.halves-halves-requires
halves-halves-requires g c =
    (list-as_heap g.E.Entry.item c.args.entries.now c.args.top.number c.requires.0 c.requires.1 c.if-top-entries.false
    c.index-entries-top.result c.index-entries-top.is c.rectangle-area.result c.rectangle-area.ensures (search rules) (search rules)
    c.around-cell.result (c.around-cell.ensures ∙ ap cell_of c.exact_size.ensures.sides)).is_cell

pub show_halves-requires-clause-fork : goal.show_halves-requires-clause-fork
show_halves-requires-clause-fork g c =
    let s = list-as_heap g.E.Entry.item c.args.entries.now c.args.top.number c.requires.0 c.requires.1 c.if-top-entries.false
    c.index-entries-top.result c.index-entries-top.is c.rectangle-area.result c.rectangle-area.ensures (search rules) (search rules)
    c.around-cell.result (c.around-cell.ensures ∙ ap cell_of c.exact_size.ensures.sides) in (
      c.around-cell.result,
      _,
      _,
      _,
      halves-of c.around-cell.result c.is_cut_wide.result c.halves-halves.result.low c.halves-halves.result.high
          (by-cut c.around-cell.result c.is_cut_wide.result c.is_cut_wide.ensures.wide c.is_cut_wide.ensures.tall)
          c.halves-halves.ensures.low c.halves-halves.ensures.high,
      heap-fork g.E.Entry.item c.args.entries.now c.around-cell.result c.args.top.number c.requires.0 s c.if-top-entries.false
          c.index-entries-top.result c.index-entries-top.is (sym c.is_fork.ensures ∙ c.if-is_fork.true),
    )

pub returns-else-ends_in : goal.returns-else-ends_in
returns-else-ends_in g c = λ h r l larger.
    let item = g.E.Entry.item in
    let xs = c.args.entries.now in
    let x = c.index-entries-top.result in
    let s = list-as_heap item xs c.args.top.number h l c.if-top-entries.false x c.index-entries-top.is c.rectangle-area.result
    c.rectangle-area.ensures (search rules) (search rules) c.around-cell.result
    (c.around-cell.ensures ∙ ap cell_of c.exact_size.ensures.sides) in
    heap-shown item xs c.around-cell.result c.args.top.number h s c.if-top-entries.false x c.index-entries-top.is r
    c.args.best.now c.look_larger.new.self c.show_halves.new.best
    (list-looked item xs c.args.top.number h l c.if-top-entries.false x c.index-entries-top.is r c.args.best.now c.look_larger.new.self
    larger c.rectangle-area.result c.rectangle-area.ensures c.look_larger.ensures)
    (c.show_halves.ensures c.around-cell.result _ _ _
    (halves-of c.around-cell.result c.is_cut_wide.result c.halves-halves.result.low c.halves-halves.result.high
    (by-cut c.around-cell.result c.is_cut_wide.result c.is_cut_wide.ensures.wide c.is_cut_wide.ensures.tall)
    c.halves-halves.ensures.low c.halves-halves.ensures.high)
    (heap-fork item xs c.around-cell.result c.args.top.number h s c.if-top-entries.false x
    c.index-entries-top.is (sym c.is_fork.ensures ∙ c.if-is_fork.true)))

pub returns-else-is_fork : goal.returns-else-is_fork
returns-else-is_fork g c = λ h r l larger.
    let item = g.E.Entry.item in
    let xs = c.args.entries.now in
    let x = c.index-entries-top.result in
    list-alone item xs c.args.top.number h l c.if-top-entries.false x c.index-entries-top.is r c.args.best.now c.look_larger.new.self
    (λ up d low high heap routed.
    entry-alike (map item xs) (item x) c.args.top.number
    (list-read item xs c.args.top.number h l c.if-top-entries.false x c.index-entries-top.is) c.rectangle-area.result
    c.rectangle-area.ensures up d low high heap routed r c.args.best.now c.look_larger.new.self
    (sym c.is_fork.ensures ∙ c.if-is_fork.false)
    (list-looked item xs c.args.top.number h l c.if-top-entries.false x c.index-entries-top.is r c.args.best.now c.look_larger.new.self
    larger c.rectangle-area.result c.rectangle-area.ensures c.look_larger.ensures))
