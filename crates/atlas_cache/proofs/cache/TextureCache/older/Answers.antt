use Rattle.std.proofs.Common.{refl, Some}
use Rattle.atlas_cache.proofs.CacheLemmas.{bordered-at}
use Rattle.atlas_cache.proofs.cache.TextureCache.older.Goals as goal

pub place_of-requires : goal.place_of-requires
place_of-requires g c =
    let here = rw c.in-Some-older.is at c.older.ensures.here in
    rw c.options.ensures.options (bordered-at _ _ c.self.inside.entries.entries c.in-Some-older.entry c.self.invariant.bordered here)

pub returns-clause-next : goal.returns-clause-next
returns-clause-next g c =
    let found = rw c.in-Some.is at c.look_up.ensures.found in
    let next = rw c.in-Some-older.is at c.older.ensures.next in
    rw (← c.self.view_is, found.here, c.place_of.ensures, c.options.ensures.options)
    (record { next = Some c.in-Some-older.entry; after = next c.in-Some.field-0-1 found.at; shown = refl })
