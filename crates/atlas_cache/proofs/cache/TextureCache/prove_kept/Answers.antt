use Rattle.atlas_cache.specs.Caches.{entries_of}
use Rattle.atlas_entries.specs.Entries.{lying}
use Rattle.atlas_cache.proofs.ApartLemmas.{apart, within}
use Rattle.atlas_cache.proofs.KeyLemmas.{own_keys}
use Rattle.atlas_cache.proofs.NumberLemmas.{numbers_below, own_numbers}
use Rattle.atlas_cache.proofs.cache.TextureCache.prove_kept.Goals as goal

pub returns-clause-kept : goal.returns-clause-kept
returns-clause-kept g c = rw (← c.self.view_is) c.self.invariant

pub returns-clause-apart : goal.returns-clause-apart
returns-clause-apart g c =
    let held = c.self.invariant.held in
    rw (← c.self.view_is)
    (apart c.self.inside.rooms.pages c.prove_kept.ensures.apart (lying (entries_of c.self.inside.entries.entries)) held.live held.once)

pub returns-clause-within : goal.returns-clause-within
returns-clause-within g c =
    rw (← c.self.view_is)
    (within c.self.inside.rooms.pages c.prove_kept.ensures.within (lying (entries_of c.self.inside.entries.entries))
    c.self.invariant.held.live)

pub returns-clause-keys : goal.returns-clause-keys
returns-clause-keys g c =
    rw (← c.self.view_is) (own_keys g.K.PartialEq.eq c.self.inside.entries.entries c.prove_kept-2.ensures.keys)

pub returns-clause-numbers : goal.returns-clause-numbers
returns-clause-numbers g c =
    rw (← c.self.view_is)
    (own_numbers c.self.inside.entries.entries c.prove_kept-2.ensures.numbers c.prove_kept-2.ensures.own)

pub returns-clause-below : goal.returns-clause-below
returns-clause-below g c =
    rw (← c.self.view_is)
    (numbers_below c.self.inside.entries.made c.self.inside.entries.entries c.prove_kept-2.ensures.made
    c.prove_kept-2.ensures.own)
