use Rattle.std.proofs.Common.{map, ◌==◌, Bool, [], sym, ◌∙◌, subst}
use Rattle.atlas_model.specs.Boxes.{Sides}
use Rattle.atlas_search.specs.Bests.{HasSeen}
use Rattle.atlas_search.specs.Lookups.{IsSearch}
use Rattle.atlas_model.specs.Choice.{class_of}
use Rattle.atlas_model.specs.Pixels.{options_of, sides_of}
use Rattle.atlas_search.proofs.SearchLemmas.Bests.{asked}
use Rattle.atlas_search.proofs.SearchLemmas.ItemPicks.{none-from, no_room-of_items}
use Rattle.atlas_search.proofs.SearchLemmas.FewLists.{from-none, grown-of}
use Rattle.atlas_search.proofs.SearchLemmas.Windows.{fits-reaching, large-law, search-begins}
use Rattle.atlas_search.proofs.search.pick.Goals as goal

pub returns-then-is_grown-clause-none : goal.returns-then-is_grown-clause-none
returns-then-is_grown-clause-none g c _ =
    let o = options_of c.args.options.now in
    let es = map g.E.Entry.item c.args.entries.now in
    let r = sides_of c.args.size in
    let own = c.place_for-own in
    let grown = sym c.is_grown.ensures.grown ∙ c.if-is_grown.true in
    no_room-of_items o es r (none-from o es r c.least_from-least.result c.if-least-lt-BANDS.false
    (fits-reaching o c.args.table.now.heads es r c.requires.listed own.result own.ensures.row own.ensures.column
    c.least_from-least.result (c.least_from-least.ensures.reached grown)))

pub pick_from-requires-clause-search : goal.pick_from-requires-clause-search
pick_from-requires-clause-search g c =
    let o = options_of c.args.options.now in
    let es = map g.E.Entry.item c.args.entries.now in
    let heads = c.args.table.now.heads in
    let r = sides_of c.args.size in
    let own = c.place_for-own in
    let least = c.least_from-least in
    let grown = grown-of c.args.table.now.is_grown least.result (λ no. least.ensures.few no (from-none c.row.result
    c.from-columns.result own.result.column c.from-columns.ensures (c.row.ensures.few no))) c.if-least-lt-BANDS.true in
    subst (λ (q : Sides). IsSearch o heads es own.result q least.result c.from-columns.result c.from-rows.result)
    (sym (asked c.new-begun.result _ r [] c.new-begun.ensures))
    (search-begins o heads es r c.requires.listed own.result own.ensures.row own.ensures.column least.result c.row.result
    c.from-columns.result c.column.result c.from-rows.result (least.ensures.reached grown) (c.row.ensures.used grown)
    c.from-columns.ensures (c.column.ensures.used grown) c.from-rows.ensures)

pub pick_from-requires-clause-seen : goal.pick_from-requires-clause-seen
pick_from-requires-clause-seen g c =
    let o = options_of c.args.options.now in
    let r = sides_of c.args.size in
    let own = c.place_for-own in
    let large = large-law o r own.result.row own.result.column c.max-greater.result c.large.result c.requires.listed.valid
    c.requires.positive own.ensures.row own.ensures.column c.max-greater.ensures c.large.ensures in
    let begun = c.new-begun in
    subst (λ (q : Sides). HasSeen begun.result (class_of o q == 2) q []) (sym (asked begun.result _ r [] begun.ensures))
    (subst (λ (b : Bool). HasSeen begun.result b r []) large begun.ensures)
