use Rattle.std.proofs.Common.{refl}
use Rattle.atlas_cache.specs.Caches.{entries_of}
use Rattle.atlas_entries.specs.Entries.{without_number}
use Rattle.atlas_cache.proofs.BatchLemmas.{first-none-all}
use Rattle.atlas_cache.proofs.CacheLemmas.{bordered-at, rest_bordered, rest_falls}
use Rattle.atlas_cache.proofs.ListLemmas.{parts}
use Rattle.atlas_cache.proofs.cache.TextureCache.drop_first.Goals as goal

pub returns-in_default-clause-stops : goal.returns-in_default-clause-stops
returns-in_default-clause-stops g c = λ _.
    rw (← c.self.view_is) (first-none-all (entries_of c.self.inside.entries.entries) c.in_default.ensures.none)

pub take_out-requires-clause-here : goal.take_out-requires-clause-here
take_out-requires-clause-here g c = rw c.in-Some.is at c.newest.ensures.here

pub place_of-place-requires : goal.place_of-place-requires
place_of-place-requires g c =
    let here = rw c.in-Some.is at c.newest.ensures.here in
    rw (c.options.ensures.options, c.take_out.ensures.options)
    (bordered-at _ _ c.self.inside.entries.entries c.in-Some.entry c.self.invariant.bordered here)

pub invariant_of-self : goal.invariant_of-self
invariant_of-self g c =
    let here = rw c.in-Some.is at c.newest.ensures.here in
    let it = c.self.inside in
    let n = c.in-Some.number in
    let e = c.in-Some.entry in
    let was = c.self.invariant in
    let es = entries_of it.entries.entries in
    let rest = entries_of (without_number n it.entries.entries) in
    let p = parts n it.entries.entries e here in
    record {
      held = c.take_out.ensures.held;
      bordered = rw (c.take_out.ensures.options, c.take_out.ensures.without)
          (rest_bordered it.rooms.pages it.rooms.options.padding it.frame e es rest p was.bordered);
      frames = rw c.take_out.ensures.without
          (rest_falls it.rooms.pages it.rooms.options.padding it.frame e es rest p was.frames);
    }

pub returns-clause-drops : goal.returns-clause-drops
returns-clause-drops g c = λ _.
    let it = c.self.inside in
    let first = rw c.in-Some.is at c.newest.ensures.rest in
    rw (← c.self.view_is) (record {
      entry = c.in-Some.entry;
      first = rw c.take_out.ensures.without first;
      listed = rw (c.place_of-place.ensures, c.options.ensures.options, c.take_out.ensures.options) at c.push_reserved.ensures.items;
      numbers = c.take_out.ensures.made;
      reserved = c.take_out.ensures.reserved;
      sizes = c.take_out.ensures.sizes;
      slots = c.take_out.ensures.slots;
      options = c.take_out.ensures.options;
      frame = refl;
      counts = rw c.count-self-inside.ensures refl;
    })
