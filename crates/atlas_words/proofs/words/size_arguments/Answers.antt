use Rattle.std.proofs.Common.{◌≡◌, [], length, Some, rules, ap}
use Rattle.atlas_words.proofs.PartedWords.{size_begins, same_end}
use Rattle.atlas_words.proofs.words.size_arguments.Goals as goal

pub returns-in_err-size-clause-only : goal.returns-in_err-size-clause-only
returns-in_err-size-clause-only c size spells =
    let begins = size_begins size [] _ spells in
    absurd (c.in_err-size.ensures.only size begins.0 begins.1)

pub returns-then-is_empty-clause-only : goal.returns-then-is_empty-clause-only
returns-then-is_empty-clause-only c size spells =
    let begins = size_begins size [] _ spells in
    let is = c.in_ok-size.ensures.only size begins.0 begins.1 in
    ap (λ s. Some s) is.0

pub returns-else-is_empty-clause-only : goal.returns-else-is_empty-clause-only
returns-else-is_empty-clause-only c size spells =
    let begins = size_begins size [] _ spells in
    let is = c.in_ok-size.ensures.only size begins.0 begins.1 in
    let none : length c.in_ok-size.rest.now ≡ 0 = same_end _ begins.0 is.1 begins.2 in
    absurd (search rules)
