use Rattle.std.proofs.Common.{sym}
use Rattle.atlas_cache.proofs.WalkLemmas.{first-none, first-rest, first-some}
use Rattle.atlas_cache.proofs.cache.walking.newest.Goals as goal

pub returns-in_default-clause-none : goal.returns-in_default-clause-none
returns-in_default-clause-none g c = first-none c.args.entries.now.entries (sym c.in_default.ensures.first)

pub returns-clause-first : goal.returns-clause-first
returns-clause-first g c =
    let first = rw c.in-Some.is at c.newest.ensures.first in
    first-some c.in-Some.number c.entry.result c.args.entries.now.entries (sym first) c.entry.ensures

pub returns-clause-rest : goal.returns-clause-rest
returns-clause-rest g c =
    let first = rw c.in-Some.is at c.newest.ensures.first in
    first-rest c.in-Some.number c.entry.result c.args.entries.now.entries (sym first) c.entry.ensures
