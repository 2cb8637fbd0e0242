use Rattle.std.proofs.Common.{sym}
use Rattle.atlas_cache.proofs.ListLemmas.{last, none-last}
use Rattle.atlas_cache.proofs.cache.holding.oldest.Goals as goal

pub returns-in_err-number-clause-none : goal.returns-in_err-number-clause-none
returns-in_err-number-clause-none g c =
    rw c.from_residual.ensures (none-last c.args.entries.now.entries (sym c.in_err-number.ensures.last))

pub returns-clause-last : goal.returns-clause-last
returns-clause-last g c =
    (last c.in_ok-number.number c.entry.result c.args.entries.now.entries c.prove_kept.ensures.numbers
    (sym c.in_ok-number.ensures.last) c.entry.ensures).was
