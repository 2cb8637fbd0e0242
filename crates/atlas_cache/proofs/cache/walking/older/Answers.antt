use Rattle.std.proofs.Common.{sym}
use Rattle.atlas_entries.specs.Entries.{numbers}
use Rattle.atlas_cache.proofs.WalkLemmas.{next-some, no-next, numbers-split, split}
use Rattle.atlas_cache.proofs.cache.walking.older.Goals as goal

pub returns-in_default-clause-none : goal.returns-in_default-clause-none
returns-in_default-clause-none g c = λ e at.
    let n = c.args.number in
    let es = c.args.entries.now.entries in
    let p = split n e es at in
    no-next n e es p
    (sym (c.in_default.ensures.next (numbers p.newer) (numbers p.older) (numbers-split n e es p)))

pub returns-clause-next : goal.returns-clause-next
returns-clause-next g c = λ e at.
    let n = c.args.number in
    let es = c.args.entries.now.entries in
    let p = split n e es at in
    let next = rw c.in-Some.is at c.older.ensures.next in
    next-some n e es p c.in-Some.next c.entry.result c.prove_kept.ensures.numbers
    (sym (next (numbers p.newer) (numbers p.older) (numbers-split n e es p))) c.entry.ensures
