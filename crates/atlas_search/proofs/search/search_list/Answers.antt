use Rattle.std.proofs.Common.{map, subst, sym}
use Rattle.atlas_search.specs.declared.link.Link.{Link}
use Rattle.atlas_model.specs.Boxes.{Sides}
use Rattle.atlas_search.specs.Heaps.{members}
use Rattle.atlas_search.specs.Showing.{IsListShowable}
use Rattle.atlas_search.proofs.SearchLemmas.AddedLists.{added-list, showable}
use Rattle.atlas_search.proofs.search.search_list.Goals as goal

pub show_list-requires : goal.show_list-requires
show_list-requires g c =
    let es = map g.E.Entry.item c.args.entries.now in
    let any : Sides = record { width = 0; height = 0 } in
    let list = showable c.requires.listed.0 es 0 any c.args.table.now.heads c.requires.listed.1 c.args.place c.requires.row
    c.requires.column in
    (list.0, subst (λ (l : Link). IsListShowable es l.number list.0) (sym c.stored_head.ensures) list.1)

pub returns : goal.returns
returns g c o end r a w =
    let es = map g.E.Entry.item c.args.entries.now in
    let list = showable o es end r c.args.table.now.heads a c.args.place c.requires.row c.requires.column in
    let shown = c.show_list.ensures list.0 (subst (λ (l : Link). IsListShowable es l.number list.0) (sym c.stored_head.ensures) list.1) in
    added-list o es end r c.args.table.now.heads a c.args.place c.requires.row c.requires.column w (members list.0) list.2 c.args.best.now
    c.show_list.new.best (shown r)
