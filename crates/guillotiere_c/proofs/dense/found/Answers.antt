use Rattle.std.proofs.Common.{◌∙◌, rules, map}
use Rattle.guillotiere_c.specs.Numbers.{size_in}
use Rattle.guillotiere_c.proofs.Packings.{densely_none, packed_densely}
use Rattle.guillotiere_c.proofs.dense.found.Goals as goal

pub returns-clause-packed : goal.returns-clause-packed
returns-clause-packed c =
    let told = c.in_ok-sheet.ensures in
    packed_densely c.args.options.now _ (map size_in c.args.sprites.now) (λ s. s.size) (λ s. s.order.items) (λ s. s.places.items)
    c.in_ok-sheet.sheet (search rules) told.allowed told.each told.padded told.larger told.way told.least

pub returns-clause-none : goal.returns-clause-none
returns-clause-none c =
    densely_none c.args.options.now _ (map size_in c.args.sprites.now) c.in_ok-sheet.sheet
    (c.deref.ensures.value ∙ c.in_ok-sizes.ensures.sizes) c.in_ok-sheet.ensures.none c.in_ok-sheet.ensures.full
