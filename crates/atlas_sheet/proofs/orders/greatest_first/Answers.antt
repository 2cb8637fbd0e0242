use Rattle.std.proofs.Common.{rules}
use Rattle.std.proofs.lemmas.Fn.{always_returns_same}
use Rattle.atlas_sheet.proofs.GreatestFirst.{greatest_first, reversed_key}
use Rattle.atlas_sheet.proofs.orders.greatest_first.Goals as goal

pub returns-clause-greatest : goal.returns-clause-greatest
returns-clause-greatest g c =
    greatest_first c.args.key c.args.sprites.now _ _ (search rules)
    (c.in_ok-sort_by_key.ensures.sorted (reversed_key c.args.key) (always_returns_same _ _ _
    (λ a r h called. (search rules, search rules))))
    (c.in_ok-sort_by_key.ensures.stable (reversed_key c.args.key) (always_returns_same _ _ _
    (λ a r h called. (search rules, search rules))))
