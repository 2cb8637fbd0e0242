use Rattle.std.proofs.Common.{arith}
use Rattle.atlas_search.proofs.SearchLemmas.FewHeads.{few-here, few-other}
use Rattle.atlas_search.proofs.table.set_head_in.Goals as goal

pub returns-clause-head : goal.returns-clause-head
returns-clause-head c =
    let i = c.loop-i.invariant in
    few-here c.args.only.now c.loop-i.only c.args.number c.args.first c.told-only i.0 c.requires.number c.requires.few
    (λ n l. i.1 n (omega (arith, l, c.loop-i-test.false))) (λ n l. i.2 n (omega (arith, l, c.loop-i-test.false)))
    (λ n l. i.3 n (omega (arith, l, c.loop-i-test.false)))

pub returns-clause-heads : goal.returns-clause-heads
returns-clause-heads c j apart =
    let i = c.loop-i.invariant in
    few-other c.args.only.now c.loop-i.only c.args.number c.args.first c.told-only i.0 c.requires.number c.requires.few
    (λ n l. i.1 n (omega (arith, l, c.loop-i-test.false))) (λ n l. i.2 n (omega (arith, l, c.loop-i-test.false)))
    (λ n l. i.3 n (omega (arith, l, c.loop-i-test.false))) j apart
