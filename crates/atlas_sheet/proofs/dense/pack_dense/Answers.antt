use Rattle.std.proofs.lemmas.Option.{IfSome_then}
use Rattle.atlas_sheet.proofs.DenseSheets.{whole_apart, whole_count, whole_inside, whole_packed, whole_upright}
use Rattle.atlas_sheet.proofs.dense.pack_dense.Goals as goal

pub denser-requires-clause-whole : goal.denser-requires-clause-whole
denser-requires-clause-whole g c =
    whole_packed c.args.options.now c.args.sprites.now c.in_ok-first.first
    c.in_ok-first.ensures.allowed c.in_ok-first.ensures.shown c.in_ok-first.ensures.area c.in_ok-first.ensures.larger
    c.in_ok-first.ensures.first
    c.in_ok-first.ensures.earliest

pub returns-clause-allowed : goal.returns-clause-allowed
returns-clause-allowed g c = IfSome_then c.in_ok-found.found c.in_ok-found.ensures.whole (λ sheet whole. whole.allowed)

pub returns-clause-count : goal.returns-clause-count
returns-clause-count g c = IfSome_then c.in_ok-found.found c.in_ok-found.ensures.whole (λ sheet whole. whole_count whole)

pub returns-clause-each : goal.returns-clause-each
returns-clause-each g c = IfSome_then c.in_ok-found.found c.in_ok-found.ensures.whole (λ sheet whole. whole.each)

pub returns-clause-padded : goal.returns-clause-padded
returns-clause-padded g c = IfSome_then c.in_ok-found.found c.in_ok-found.ensures.whole (λ sheet whole. whole.apart)

pub returns-clause-inside : goal.returns-clause-inside
returns-clause-inside g c = IfSome_then c.in_ok-found.found c.in_ok-found.ensures.whole (λ sheet whole. whole_inside whole)

pub returns-clause-apart : goal.returns-clause-apart
returns-clause-apart g c = IfSome_then c.in_ok-found.found c.in_ok-found.ensures.whole (λ sheet whole. whole_apart whole)

pub returns-clause-upright : goal.returns-clause-upright
returns-clause-upright g c off =
    IfSome_then c.in_ok-found.found c.in_ok-found.ensures.whole (λ sheet whole. whole_upright whole off)

pub returns-clause-area : goal.returns-clause-area
returns-clause-area g c = IfSome_then c.in_ok-found.found c.in_ok-found.ensures.whole (λ sheet whole. whole.area)

pub returns-clause-order : goal.returns-clause-order
returns-clause-order g c = IfSome_then c.in_ok-found.found c.in_ok-found.ensures.whole (λ sheet whole. whole.numbers)

pub returns-clause-larger : goal.returns-clause-larger
returns-clause-larger g c = IfSome_then c.in_ok-found.found c.in_ok-found.ensures.whole (λ sheet whole. whole.larger)

pub returns-clause-way : goal.returns-clause-way
returns-clause-way g c = IfSome_then c.in_ok-found.found c.in_ok-found.ensures.whole (λ sheet whole. whole.way)
