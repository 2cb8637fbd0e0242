use Rattle.std.proofs.Common.{ap, arith, length, refl, ◌≡◌, ◌+◌, ◌∷◌, ◌++◌}
use Rattle.atlas_cache.specs.Caches.{CacheState, entries_of}
use Rattle.atlas_cache.specs.Changes.{Uses}
use Rattle.atlas_entries.specs.Entries.{without_number}
use Rattle.atlas_entries.specs.declared.entries.Entry.{Entry}
use Rattle.atlas_cache.proofs.BlankLemmas.{length-less}
use Rattle.atlas_cache.proofs.CacheLemmas.{bordered-at, touched-is, used}
use Rattle.atlas_cache.proofs.KeyLemmas.{own_keys}
use Rattle.atlas_cache.proofs.ListLemmas.{parts}
use Rattle.atlas_cache.proofs.PictureLemmas.{uses_same}
use Rattle.atlas_cache.proofs.ReadyLemmas.{still_ready}
use Rattle.atlas_cache.proofs.RoomLemmas.PageReserves.{none_used}
use Rattle.atlas_cache.proofs.cache.TextureCache.get.Goals as goal

pub place_of-requires : goal.place_of-requires
place_of-requires g c =
    let found = rw c.in-Some.is at c.look_up.ensures.found in
    rw c.options.ensures.options (bordered-at _ _ c.self.inside.entries.entries c.in-Some.entry c.self.invariant.bordered found.at)

pub invariant_of-self-2 : goal.invariant_of-self-2
invariant_of-self-2 g c =
    let found = rw c.in-Some.is at c.look_up.ensures.found in
    let it = c.self.inside in
    let n = c.in-Some.number in
    let e = c.in-Some.entry in
    let was = c.self.invariant in
    let p = parts n it.entries.entries e found.at in
    let k = used it.rooms.pages it.rooms.options.padding it.frame e (entries_of it.entries.entries)
    (entries_of (without_number n it.entries.entries)) p was.held was.bordered was.frames in
    rw (c.touch.ensures.entries, touched-is n it.frame it.entries.entries e found.at)
    (record { held = k.held; bordered = k.bordered; frames = k.frames })

pub returns-clause-uses : goal.returns-clause-uses
returns-clause-uses g c =
    let found = rw c.in-Some.is at c.look_up.ensures.found in
    let it = c.self.inside in
    let n = c.in-Some.number in
    let e = c.in-Some.entry in
    let p = parts n it.entries.entries e found.at in
    let front : Entry g.row.K.Denot = record e { frame = it.frame } in
    rw (← c.self.view_is, found.here, c.touch.ensures.entries, touched-is n it.frame it.entries.entries e found.at) (record {
      newer = p.newer;
      older = p.older;
      was = p.was;
      is = ap (λ r. front ∷ r) p.rests;
      pages = refl;
      numbers = c.touch.ensures.made;
      reserved = c.touch.ensures.reserved;
      options = refl;
      frame = refl;
    })

pub returns-clause-told : goal.returns-clause-told
returns-clause-told g c =
    let found = rw c.in-Some.is at c.look_up.ensures.found in
    let eq = g.K.PartialEq.eq in
    let it = c.self.inside in
    let n = c.in-Some.number in
    let e = c.in-Some.entry in
    let p = parts n it.entries.entries e found.at in
    let front : Entry g.row.K.Denot = record e { frame = it.frame } in
    let s : CacheState g.row.K.Denot = record {
      options = it.rooms.options;
      pages = it.rooms.pages;
      entries = entries_of it.entries.entries;
      numbers = it.entries.made;
      reserved = it.entries.reserved;
      frame = it.frame;
      counts = it.counts;
    } in
    let t : CacheState g.row.K.Denot =
    record s {
      entries = entries_of c.touch.new.self.entries;
      numbers = c.touch.new.self.made;
      reserved = c.touch.new.self.reserved;
      counts = record it.counts { hits = c.count-self-inside-2.result };
    } in
    let uses : Uses e s t = record {
      newer = p.newer;
      older = p.older;
      was = p.was;
      is = rw (c.touch.ensures.entries, touched-is n it.frame it.entries.entries e found.at) (ap (λ r. front ∷ r) p.rests);
      pages = refl;
      numbers = c.touch.ensures.made;
      reserved = c.touch.ensures.reserved;
      options = refl;
      frame = refl;
    } in
    rw (← c.self.view_is) (uses_same eq g.met.K.Eq.laws e s t (own_keys eq it.entries.entries c.prove_kept.ensures.keys) uses)

pub returns-in_default-clause-stays_ready : goal.returns-in_default-clause-stays_ready
returns-in_default-clause-stays_ready g c =
    rw (← c.self.view_is) (still_ready _ _ (none_used 0 c.self.inside.rooms.pages) (omega arith) (omega arith) (λ full. record {
      all = full.all;
      largest = full.largest;
    }))

pub returns-clause-stays_ready : goal.returns-clause-stays_ready
returns-clause-stays_ready g c =
    let found = rw c.in-Some.is at c.look_up.ensures.found in
    let it = c.self.inside in
    let n = c.in-Some.number in
    let e = c.in-Some.entry in
    let p = parts n it.entries.entries e found.at in
    let less = length-less p.newer e p.older in
    let now : length (entries_of c.touch.new.self.entries) ≡ length (p.newer ++ p.older) + 1 =
    rw (c.touch.ensures.entries, touched-is n it.frame it.entries.entries e found.at) (omega (arith, ap length p.rests)) in
    rw (← c.self.view_is) (still_ready _ _ (none_used 0 it.rooms.pages) (omega (arith, c.touch.ensures.reserved))
    (omega (arith, less, ap length p.was, now)) (λ full. record { all = full.all; largest = full.largest }))
