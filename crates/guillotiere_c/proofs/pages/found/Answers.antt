use Rattle.std.proofs.Common.{rules, map}
use Rattle.guillotiere_c.specs.Numbers.{size_in}
use Rattle.guillotiere_c.proofs.Packings.{packed_pages}
use Rattle.guillotiere_c.proofs.pages.found.Goals as goal

pub returns-clause-packed : goal.returns-clause-packed
returns-clause-packed c =
    let told = c.in_ok-pages.ensures in
    packed_pages c.args.options.now _ (map size_in c.args.sprites.now) (λ p. p.sizes.items) (λ p. p.places.items)
    c.in_ok-pages.pages (search rules) told.each told.apart told.used told.greatest told.pages
