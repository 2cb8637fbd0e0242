use Rattle.std.proofs.Common.{map, ap, sym, ◌∙◌, subst}
use Rattle.atlas_model.specs.Boxes.{Sides}
use Rattle.atlas_search.specs.declared.cells.Cell.{Cell}
use Rattle.atlas_search.specs.Forks.{IsIn, half}
use Rattle.atlas_search.specs.Items.{item_sides, item_at}
use Rattle.atlas_search.proofs.HeapLemmas.Forking.{fork-is, forks-high, forks-low, sort-inside, sort-parts, sort-solid, sort-top}
use Rattle.atlas_search.proofs.HeapLemmas.Forking.{sort-within}
use Rattle.atlas_search.proofs.heap.sorting.make_fork.Goals as goal

pub is_fork-requires : goal.is_fork-requires
is_fork-requires g c =
    let r = c.requires.sorted in
    sort-inside g.E.Entry.item c.args.entries.now c.args.cell c.args.top.number r.0 r.1 c.requires.some r.2

pub returns-then-is_fork-clause-forked : goal.returns-then-is_fork-clause-forked
returns-then-is_fork-clause-forked g c at h can =
    fork-is (map g.E.Entry.item c.args.entries.now) c.args.cell c.args.top.number at h c.requires.some
    (sym c.is_fork.ensures ∙ c.if-is_fork.true) can

pub links_at-requires : goal.links_at-requires
links_at-requires g c =
    let r = c.requires.sorted in
    sort-inside g.E.Entry.item c.args.entries.now c.args.cell c.args.top.number r.0 r.1 c.requires.some r.2

pub size_at-size-requires-clause-inside : goal.size_at-size-requires-clause-inside
size_at-size-requires-clause-inside g c =
    let r = c.requires.sorted in
    sort-inside g.E.Entry.item c.args.entries.now c.args.cell c.args.top.number r.0 r.1 c.requires.some r.2

pub size_at-size-requires-clause-solid : goal.size_at-size-requires-clause-solid
size_at-size-requires-clause-solid g c =
    let r = c.requires.sorted in
    sort-solid (map g.E.Entry.item c.args.entries.now) c.args.cell c.args.top.number r.0 r.1 c.requires.some r.2

pub close-rest-requires : goal.close-rest-requires
close-rest-requires g c =
    let r = c.requires.sorted in
    let es = map g.E.Entry.item c.args.entries.now in
    let t = sort-top es c.args.cell c.args.top.number r.0 r.1 c.requires.some r.2 in
    (t.0, t.1, sort-parts es c.args.cell c.args.top.number r.0 t.0 t.1 t.3)

pub half_of-requires-clause-cell : goal.half_of-requires-clause-cell
half_of-requires-clause-cell g c = c.requires.sorted.2.cell

pub half_of-requires-clause-inside : goal.half_of-requires-clause-inside
half_of-requires-clause-inside g c =
    let r = c.requires.sorted in
    subst (λ (s : Sides). IsIn s c.args.cell) (sym c.size_at-size.ensures.sides)
    (sort-within (map g.E.Entry.item c.args.entries.now) c.args.cell c.args.top.number r.0 r.1 c.requires.some r.2)

pub returns-then-half_of-clause-forked : goal.returns-then-half_of-clause-forked
returns-then-half_of-clause-forked g c at h can =
    let es = map g.E.Entry.item c.args.entries.now in
    let some = c.requires.some in
    let into = c.half_of in
    forks-low es c.args.cell c.args.top.number at h some can (map g.E.Entry.item c.close-rest.new.entries)
    (map g.E.Entry.item c.put.new.entries)
    c.close-rest.result.number c.links_at.result.up.number c.requires.split (sym c.is_fork.ensures ∙ c.if-is_fork.false)
    c.close-rest.ensures.melded c.close-rest.ensures.areas c.links_at.ensures.up c.put.ensures.put
    (subst (λ (d : Cell). IsIn (item_sides (item_at es c.args.top.number)) d)
    (into.ensures.cell ∙ ap (λ b. half b c.args.cell) c.if-half_of.true)
    (subst (λ (s : Sides). IsIn s into.result.cell) c.size_at-size.ensures.sides into.ensures.inside))

pub returns-else-half_of-clause-forked : goal.returns-else-half_of-clause-forked
returns-else-half_of-clause-forked g c at h can =
    let es = map g.E.Entry.item c.args.entries.now in
    let some = c.requires.some in
    let into = c.half_of in
    forks-high es c.args.cell c.args.top.number at h some can (map g.E.Entry.item c.close-rest.new.entries)
    (map g.E.Entry.item c.put-else-half_of.new.entries)
    c.close-rest.result.number c.links_at.result.up.number c.requires.split (sym c.is_fork.ensures ∙ c.if-is_fork.false)
    c.close-rest.ensures.melded c.close-rest.ensures.areas c.links_at.ensures.up c.put-else-half_of.ensures.put
    (subst (λ (d : Cell). IsIn (item_sides (item_at es c.args.top.number)) d)
    (into.ensures.cell ∙ ap (λ b. half b c.args.cell) c.if-half_of.false)
    (subst (λ (s : Sides). IsIn s into.result.cell) c.size_at-size.ensures.sides into.ensures.inside))
