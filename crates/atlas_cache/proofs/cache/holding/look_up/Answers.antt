use Rattle.std.proofs.Common.{sym}
use Rattle.atlas_cache.proofs.ListLemmas.{found, not-found}
use Rattle.atlas_cache.proofs.cache.holding.look_up.Goals as goal

pub returns-in_err-number-clause-none : goal.returns-in_err-number-clause-none
returns-in_err-number-clause-none g c =
    rw c.from_residual.ensures
    (not-found g.K.PartialEq.eq c.args.key.now c.args.entries.now.entries (sym c.in_err-number.ensures.number))

pub returns-clause-found : goal.returns-clause-found
returns-clause-found g c = record {
  at = c.entry.ensures;
  here = found g.K.PartialEq.eq c.args.key.now c.in_ok-number.number c.entry.result c.args.entries.now.entries
      c.prove_kept.ensures.numbers (sym c.in_ok-number.ensures.number) c.entry.ensures;
}
