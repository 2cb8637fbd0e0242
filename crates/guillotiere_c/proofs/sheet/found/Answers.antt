use Rattle.std.proofs.Common.{◌∙◌, rules, List, map, IfNone, subst}
use Rattle.guillotiere.specs.declared.Size.{Size}
use Rattle.guillotiere_c.specs.Numbers.{size_in}
use Rattle.guillotiere_c.specs.Packing.{HasNoSheet}
use Rattle.guillotiere_c.proofs.Packings.{packed}
use Rattle.guillotiere_c.proofs.sheet.found.Goals as goal

pub returns-clause-packed : goal.returns-clause-packed
returns-clause-packed c =
    let told = c.in_ok-sheet.ensures in
    packed c.args.options.now _ (map size_in c.args.sprites.now) (λ s. s.size) (λ s. s.order.items) (λ s. s.places.items)
    c.in_ok-sheet.sheet (search rules) told.allowed told.shown told.first told.earliest told.larger

pub returns-clause-none : goal.returns-clause-none
returns-clause-none c =
    subst (λ (sizes : List Size). IfNone c.in_ok-sheet.sheet (HasNoSheet c.args.options.now sizes))
    (c.deref.ensures.value ∙ c.in_ok-sizes.ensures.sizes) c.in_ok-sheet.ensures.none
