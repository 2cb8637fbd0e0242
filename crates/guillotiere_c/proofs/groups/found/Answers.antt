use Rattle.std.proofs.Common.{rules, map}
use Rattle.guillotiere_c.specs.Numbers.{size_in}
use Rattle.guillotiere_c.specs.SheetGroups.{group_in}
use Rattle.guillotiere_c.proofs.Packings.{packed_groups}
use Rattle.guillotiere_c.proofs.groups.found.Goals as goal

pub returns-clause-packed : goal.returns-clause-packed
returns-clause-packed c =
    let told = c.in_ok-pages.ensures in
    packed_groups c.args.options.now _ (map size_in c.args.sprites.now) _ (map group_in c.args.groups.now)
    (λ p. p.sizes.items) (λ p. p.places.items) c.in_ok-pages.pages (search rules) (search rules)
    told.each told.apart told.used told.allowed told.together told.pages told.sheets told.plain
