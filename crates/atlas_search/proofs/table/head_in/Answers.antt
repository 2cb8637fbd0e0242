use Rattle.std.proofs.Common.{sym, arith}
use Rattle.atlas_search.proofs.SearchLemmas.FewHeads.{few-first, from-none}
use Rattle.atlas_search.proofs.table.head_in.Goals as goal

pub returns-then-only-i : goal.returns-then-only-i
returns-then-only-i c =
    sym (few-first c.args.only.now c.args.number c.loop-i.i c.requires
    (record { inside = omega (arith, c.loop-i-test.true, c.told-only); is = c.if-only-i.true; before = c.loop-i.invariant }))

pub returns : goal.returns
returns c =
    sym (from-none c.args.only.now 0 c.args.number (λ n l. c.loop-i.invariant n (omega (arith, l, c.told-only, c.loop-i-test.false))))
