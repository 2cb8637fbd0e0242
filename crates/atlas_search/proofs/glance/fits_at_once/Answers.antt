use Rattle.std.proofs.Common.{map, arith}
use Rattle.std.proofs.lemmas.Int.{ints}
use Rattle.atlas_model.specs.Pixels.{options_of, sides_of}
use Rattle.atlas_search.specs.Bands.{number_of}
use Rattle.atlas_search.proofs.SearchLemmas.FirstBoxes.{beyond-fits, first-fits, first-solid}
use Rattle.atlas_search.proofs.glance.fits_at_once.Goals as goal

pub returns-then-has_beyond : goal.returns-then-has_beyond
returns-then-has_beyond g c = λ _ free are.
    beyond-fits (options_of c.args.options.now) c.args.table.now.heads (map g.E.Entry.item c.args.entries.now) c.requires.listed
    (sides_of c.args.size) free are c.place_for-own.result c.place_for-own.ensures.row c.place_for-own.ensures.column
    (c.has_beyond.ensures c.if-has_beyond.true)

pub margin_in-requires-clause-unsigned : goal.margin_in-requires-clause-unsigned
margin_in-requires-clause-unsigned g c =
    (first-solid (options_of c.args.options.now) c.args.table.now.heads g.E.Entry.item c.args.entries.now c.requires.listed
    (number_of c.place_for-own.result)
    (omega (arith, c.place_for-own.ensures.row_inside, c.place_for-own.ensures.column_inside)) c.stored_head-top.result
    c.stored_head-top.ensures c.if-top-entries.true c.index-entries-top.result c.rectangle.result c.index-entries-top.is
    c.rectangle.ensures).unsigned

pub margin_in-requires-clause-nonempty : goal.margin_in-requires-clause-nonempty
margin_in-requires-clause-nonempty g c =
    (first-solid (options_of c.args.options.now) c.args.table.now.heads g.E.Entry.item c.args.entries.now c.requires.listed
    (number_of c.place_for-own.result)
    (omega (arith, c.place_for-own.ensures.row_inside, c.place_for-own.ensures.column_inside)) c.stored_head-top.result
    c.stored_head-top.ensures c.if-top-entries.true c.index-entries-top.result c.rectangle.result c.index-entries-top.is
    c.rectangle.ensures).nonempty

pub returns-then-top-entries : goal.returns-then-top-entries
returns-then-top-entries g c = λ fits.
    first-fits (options_of c.args.options.now) c.args.table.now.heads g.E.Entry.item c.args.entries.now c.requires.listed
    (number_of c.place_for-own.result)
    (omega (arith, c.place_for-own.ensures.row_inside, c.place_for-own.ensures.column_inside)) c.stored_head-top.result
    c.stored_head-top.ensures c.if-top-entries.true c.index-entries-top.result c.rectangle.result c.index-entries-top.is
    c.rectangle.ensures
    (sides_of c.args.size) (c.margin_in.ensures.fits.0 (grind (arith, ints, fits)))
