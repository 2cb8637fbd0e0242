use Rattle.std.proofs.Common.{rules}
use Rattle.std.proofs.lemmas.Fn.{always_returns_same}
use Rattle.atlas_sheet.proofs.GreatestFirst.{highest_first, reversed_rank}
use Rattle.atlas_sheet.proofs.dense.by_height.Goals as goal

pub returns-clause-by : goal.returns-clause-by
returns-clause-by g c =
    highest_first c.args.sprites.now _ _ (search rules) (search rules)
    (c.in_ok-sort_by_key.ensures.sorted reversed_rank (always_returns_same _ _ _ (λ a r h called. (search rules, search rules))))
    (c.in_ok-sort_by_key.ensures.stable reversed_rank (always_returns_same _ _ _ (λ a r h called. (search rules, search rules))))
