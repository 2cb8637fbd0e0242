use Rattle.std.proofs.Common.{map, ◌<◌, ◌+◌, ◌/◌, ◌%◌, min, ap, sym, ◌∙◌, subst, arith}
use Rattle.std.proofs.lemmas.List.{length-map}
use Rattle.atlas_search.specs.declared.bands.Place.{Place}
use Rattle.atlas_search.specs.declared.best.Best.{Best}
use Rattle.atlas_search.specs.declared.link.Link.{Link}
use Rattle.atlas_model.specs.Boxes.{Sides}
use Rattle.atlas_search.specs.Heaps.{members}
use Rattle.atlas_search.specs.Lookups.{HasAdded}
use Rattle.atlas_search.specs.Showing.{IsListShowable}
use Rattle.atlas_search.proofs.SearchLemmas.AddedLists.{added-list, showable}
use Rattle.atlas_search.proofs.SearchLemmas.FewLists.{IsAmong, few-begin, few-end, few-passed, few-shown}
use Rattle.atlas_search.proofs.search.search_few.Goals.{then-max-end, else-max-end}
use Rattle.atlas_search.proofs.search.search_few.Goals as goal

pub loop-i-init : goal.loop-i-init
loop-i-init g c o r a =
    few-begin o (map g.E.Entry.item c.args.entries.now) c.args.end r c.args.table.now.heads a c.requires.end c.args.best.now

pub show_list-requires : goal.show_list-requires
show_list-requires g c =
    let es = map g.E.Entry.item c.args.entries.now in
    let any : Sides = record { width = 0; height = 0 } in
    let n = c.list_of_few-list.result in
    let place : Place = record { row = n / 52; column = n % 52 } in
    let row : n / 52 < 52 = omega (arith, c.if-max-end.true, c.max.ensures, c.requires.end) in
    let column : n % 52 < 52 = omega arith in
    let list = showable c.requires.listed.0 es 0 any c.args.table.now.heads c.requires.listed.1 place row column in
    (list.0, subst (λ (l : Link). IsListShowable es l.number list.0) (sym c.head.ensures) list.1)

pub loop-i-preserved : goal.loop-i-preserved
loop-i-preserved g c o r a =
    let es = map g.E.Entry.item c.args.entries.now in
    let heads = c.args.table.now.heads in
    let n = c.list_of_few-list.result in
    let before = c.loop-i.invariant o r a in
    elim c.if-max-end.branch [
      | then-max-end w ↦
          let place : Place = record { row = n / 52; column = n % 52 } in
          let row : n / 52 < c.args.end = omega (arith, w.if-max-end.true, c.max.ensures) in
          let column : n % 52 < c.args.end = omega (arith, w.if-max-end.true, c.max.ensures) in
          let list = showable o es c.args.end r heads a place (omega (arith, row, c.requires.end)) (omega arith) in
          let shown = w.show_list.ensures list.0 (subst (λ (l : Link). IsListShowable es l.number list.0) (sym w.head.ensures) list.1) in
          subst (λ (b : Best). HasAdded o es c.args.end r (IsAmong heads c.args.end (c.loop-i.i + 1)) c.args.best.now b) (sym w.best-is)
          (few-shown o es c.args.end r heads a c.requires.end c.loop-i.i n (c.list_of_few-list.ensures c.requires.grown) c.args.best.now
          c.loop-i.best w.show_list.new.best before
          (added-list o es c.args.end r heads a place (omega (arith, row, c.requires.end)) (omega arith) (row, column)
          (members list.0) list.2
          c.loop-i.best w.show_list.new.best (shown r)))
      | else-max-end w ↦
          subst (λ (b : Best). HasAdded o es c.args.end r (IsAmong heads c.args.end (c.loop-i.i + 1)) c.args.best.now b) (sym w.best-is)
          (few-passed o es c.args.end r heads a c.requires.end c.loop-i.i n (c.list_of_few-list.ensures c.requires.grown) c.args.best.now
          c.loop-i.best c.loop-i.best before (λ row column. omega (arith, row, column, w.if-max-end.false, c.max.ensures)))
    ]

pub returns : goal.returns
returns g c o r a =
    few-end o (map g.E.Entry.item c.args.entries.now) c.args.end r c.args.table.now.heads a c.requires.end c.requires.few c.min-i-end.result
    c.loop-i.i (c.min-i-end.ensures ∙ ap (λ n. min 8 n) (sym (length-map c.args.entries.now g.E.Entry.item)))
    c.loop-i-test.false c.args.best.now c.loop-i.best (c.loop-i.invariant o r a)
