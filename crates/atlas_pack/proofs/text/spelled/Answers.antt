use Rattle.std.proofs.Common.{◌≡◌, IfOk, rules}
use Rattle.atlas_pack.specs.Texts.{spelled}
use Rattle.atlas_pack.proofs.Spelled.{known_again}
use Rattle.atlas_pack.proofs.text.spelled.Goals as goal

pub returns-then-needs_quotes-clause-again : goal.returns-then-needs_quotes-clause-again
returns-then-needs_quotes-clause-again c =
    let value : IfOk c.quote.result (λ text. text.items ≡ spelled c.args.name.now) = search rules in
    known_again c.args.name.now _ c.quote.result value

pub returns-clause-again : goal.returns-clause-again
returns-clause-again c =
    let value : IfOk c.from_slice.result (λ text. text.items ≡ spelled c.args.name.now) = search rules in
    known_again c.args.name.now _ c.from_slice.result value
