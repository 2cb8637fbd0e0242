use Rattle.std.proofs.Common.{◌≡◌, ◌∙◌, ◌++◌, ap, arith, length, refl}
use Rattle.atlas_cache.specs.Caches.{CacheState, entries_of}
use Rattle.atlas_cache.specs.Changes.{Removes}
use Rattle.atlas_entries.specs.Entries.{without_number}
use Rattle.atlas_cache.proofs.CacheLemmas.{bordered-at, rest_bordered, rest_falls}
use Rattle.atlas_cache.proofs.KeyLemmas.{found_named, own_keys}
use Rattle.atlas_cache.proofs.ListLemmas.{parts}
use Rattle.atlas_cache.proofs.PictureLemmas.{removes_tell}
use Rattle.atlas_cache.proofs.BlankLemmas.{length-less}
use Rattle.atlas_cache.proofs.ReadyLemmas.{full_stays, reserves_left, still_ready}
use Rattle.atlas_cache.proofs.RoomLemmas.PageReserves.{allowed_left, slots_left}
use Rattle.atlas_cache.proofs.cache.TextureCache.remove.Goals as goal

pub take_out-requires-clause-here : goal.take_out-requires-clause-here
take_out-requires-clause-here g c =
    let found = rw c.in-Some.is at c.look_up.ensures.found in found.at

pub place_of-requires : goal.place_of-requires
place_of-requires g c =
    let found = rw c.in-Some.is at c.look_up.ensures.found in
    rw (c.options.ensures.options, c.take_out.ensures.options)
    (bordered-at _ _ c.self.inside.entries.entries c.in-Some.gone c.self.invariant.bordered found.at)

pub invariant_of-self : goal.invariant_of-self
invariant_of-self g c =
    let found = rw c.in-Some.is at c.look_up.ensures.found in
    let it = c.self.inside in
    let n = c.in-Some.number in
    let e = c.in-Some.gone in
    let was = c.self.invariant in
    let es = entries_of it.entries.entries in
    let rest = entries_of (without_number n it.entries.entries) in
    let p = parts n it.entries.entries e found.at in
    record {
      held = c.take_out.ensures.held;
      bordered = rw (c.take_out.ensures.options, c.take_out.ensures.without)
          (rest_bordered it.rooms.pages it.rooms.options.padding it.frame e es rest p was.bordered);
      frames = rw c.take_out.ensures.without
          (rest_falls it.rooms.pages it.rooms.options.padding it.frame e es rest p was.frames);
    }

pub returns-clause-removes : goal.returns-clause-removes
returns-clause-removes g c =
    let found = rw c.in-Some.is at c.look_up.ensures.found in
    let it = c.self.inside in
    let p = parts c.in-Some.number it.entries.entries c.in-Some.gone found.at in
    rw (← c.self.view_is, found.here, c.take_out.ensures.without) (record {
      newer = p.newer;
      older = p.older;
      was = p.was;
      is = p.rests;
      leaves = c.take_out.ensures.leaves;
      numbers = c.take_out.ensures.made;
      reserved = c.take_out.ensures.reserved;
      sizes = c.take_out.ensures.sizes;
      slots = c.take_out.ensures.slots;
      options = c.take_out.ensures.options;
      frame = refl;
      counts = refl;
    })

pub returns-clause-told : goal.returns-clause-told
returns-clause-told g c =
    let found = rw c.in-Some.is at c.look_up.ensures.found in
    let eq = g.K.PartialEq.eq in
    let laws = g.met.K.Eq.laws in
    let it = c.self.inside in
    let e = c.in-Some.gone in
    let p = parts c.in-Some.number it.entries.entries e found.at in
    let s : CacheState g.row.K.Denot = record {
      options = it.rooms.options;
      pages = it.rooms.pages;
      entries = entries_of it.entries.entries;
      numbers = it.entries.made;
      reserved = it.entries.reserved;
      frame = it.frame;
      counts = it.counts;
    } in
    let t : CacheState g.row.K.Denot = record s {
      options = c.take_out.new.rooms.options;
      pages = c.take_out.new.rooms.pages;
      entries = entries_of c.take_out.new.entries.entries;
      numbers = c.take_out.new.entries.made;
      reserved = c.take_out.new.entries.reserved;
    } in
    let removes : Removes e s t = rw c.take_out.ensures.without (record {
      newer = p.newer;
      older = p.older;
      was = p.was;
      is = p.rests;
      leaves = c.take_out.ensures.leaves;
      numbers = c.take_out.ensures.made;
      reserved = c.take_out.ensures.reserved;
      sizes = c.take_out.ensures.sizes;
      slots = c.take_out.ensures.slots;
      options = c.take_out.ensures.options;
      frame = refl;
      counts = refl;
    }) in
    let own = own_keys eq it.entries.entries c.prove_kept.ensures.keys in
    let named = laws.symm e.key c.args.key.now ∙ found_named eq c.args.key.now e (entries_of it.entries.entries) found.here in
    rw (← c.self.view_is) (removes_tell eq laws c.args.key.now e s t own named removes)

pub returns-clause-ready : goal.returns-clause-ready
returns-clause-ready g c =
    rw (← c.self.view_is)
    (λ n. slots_left 0 n n c.self.inside.rooms.pages c.take_out.new.rooms.pages (omega arith) c.take_out.ensures.slots)

pub returns-clause-full : goal.returns-clause-full
returns-clause-full g c =
    full_stays c.args.self.now _ (rw (← c.self.view_is) c.take_out.ensures.options) (rw (← c.self.view_is) c.take_out.ensures.sizes)

pub returns-clause-reserves : goal.returns-clause-reserves
returns-clause-reserves g c =
    let found = rw c.in-Some.is at c.look_up.ensures.found in
    let it = c.self.inside in
    let p = parts c.in-Some.number it.entries.entries c.in-Some.gone found.at in
    let less = length-less p.newer c.in-Some.gone p.older in
    let now : length (entries_of c.take_out.new.entries.entries) ≡ length (p.newer ++ p.older) =
    rw c.take_out.ensures.without (ap length p.rests) in
    rw (← c.self.view_is) (λ n room.
    reserves_left n n room room 0 _ _ c.take_out.ensures.slots (omega arith) (omega (arith, c.take_out.ensures.reserved))
    (omega (arith, less, ap length p.was, now)))

pub returns-clause-allowed : goal.returns-clause-allowed
returns-clause-allowed g c =
    rw (← c.self.view_is)
    (λ n. allowed_left 0 n n c.self.inside.rooms.pages c.take_out.new.rooms.pages (omega arith) c.take_out.ensures.slots)

pub returns-clause-stays_ready : goal.returns-clause-stays_ready
returns-clause-stays_ready g c =
    let found = rw c.in-Some.is at c.look_up.ensures.found in
    let it = c.self.inside in
    let p = parts c.in-Some.number it.entries.entries c.in-Some.gone found.at in
    let less = length-less p.newer c.in-Some.gone p.older in
    let now : length (entries_of c.take_out.new.entries.entries) ≡ length (p.newer ++ p.older) =
    rw c.take_out.ensures.without (ap length p.rests) in
    rw (← c.self.view_is) (still_ready _ _ c.take_out.ensures.slots (omega (arith, c.take_out.ensures.reserved))
    (omega (arith, less, ap length p.was, now)) (full_stays _ _ c.take_out.ensures.options c.take_out.ensures.sizes))
