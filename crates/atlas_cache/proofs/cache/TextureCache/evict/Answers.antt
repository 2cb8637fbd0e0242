use Rattle.std.proofs.Common.{ap, length, refl, arith, ◌≡◌, ◌++◌}
use Rattle.atlas_cache.specs.Caches.{entries_of}
use Rattle.atlas_entries.specs.Entries.{without_number}
use Rattle.atlas_cache.specs.declared.changes.CacheChange.TheVariants.{Evicted}
use Rattle.atlas_cache.proofs.CacheLemmas.{bordered-at, rectangle-live, rest_bordered, rest_falls}
use Rattle.atlas_cache.proofs.BlankLemmas.{all-in-use, falls-here, length-less}
use Rattle.atlas_cache.proofs.ListLemmas.{parts}
use Rattle.atlas_cache.proofs.RoomLemmas.KeptPages.{as_many, page_of}
use Rattle.atlas_cache.proofs.ReadyLemmas.{full_stays, reserves_left}
use Rattle.atlas_cache.proofs.RoomLemmas.PageReserves.{none_used}
use Rattle.atlas_cache.proofs.cache.TextureCache.evict.Goals as goal

pub returns-in_default-clause-stops : goal.returns-in_default-clause-stops
returns-in_default-clause-stops g c = λ _.
    let none = c.in_default.ensures.none in rw (← c.self.view_is, none) tt

pub returns-then-entry-self-clause-stops : goal.returns-then-entry-self-clause-stops
returns-then-entry-self-clause-stops g c = λ _.
    let it = c.self.inside in
    let w = rw c.in-Some.is at c.oldest_lying.ensures.last in
    let falls = rw w.was at c.self.invariant.frames in
    rw (← c.self.view_is, w.was) (all-in-use it.frame w.newer c.in-Some.entry w.older w.lies w.blank falls c.if-entry-self.true)

pub take_out-requires-clause-here : goal.take_out-requires-clause-here
take_out-requires-clause-here g c = let w = rw c.in-Some.is at c.oldest_lying.ensures.last in rw c.oldest_lying.ensures.stays w.at

pub place_of-place-requires : goal.place_of-place-requires
place_of-place-requires g c =
    let w = rw c.in-Some.is at c.oldest_lying.ensures.last in
    rw (c.options.ensures.options, c.take_out.ensures.options)
    (bordered-at _ _ c.self.inside.entries.entries c.in-Some.entry c.self.invariant.bordered w.at)

pub invariant_of-self : goal.invariant_of-self
invariant_of-self g c = rw c.oldest_lying.ensures.stays c.self.invariant

pub invariant_of-self-2 : goal.invariant_of-self-2
invariant_of-self-2 g c =
    let without = rw c.oldest_lying.ensures.stays at c.take_out.ensures.without in
    let w = rw c.in-Some.is at c.oldest_lying.ensures.last in
    let it = c.self.inside in
    let n = c.in-Some.number in
    let e = c.in-Some.entry in
    let was = c.self.invariant in
    let es = entries_of it.entries.entries in
    let rest = entries_of (without_number n it.entries.entries) in
    let p = parts n it.entries.entries e w.at in
    record {
      held = c.take_out.ensures.held;
      bordered = rw (c.take_out.ensures.options, without)
          (rest_bordered it.rooms.pages it.rooms.options.padding it.frame e es rest p was.bordered);
      frames = rw without
          (rest_falls it.rooms.pages it.rooms.options.padding it.frame e es rest p was.frames);
    }

pub returns-clause-does : goal.returns-clause-does
returns-clause-does g c = λ _.
    let without = rw c.oldest_lying.ensures.stays at c.take_out.ensures.without in
    let it = c.self.inside in
    let e = c.in-Some.entry in
    let w = rw c.in-Some.is at c.oldest_lying.ensures.last in
    let falls = rw w.was at c.self.invariant.frames in
    let least = falls-here it.frame w.newer e w.older falls in
    let full = rw (← c.self.view_is) at c.requires.full in
    rw (← c.self.view_is) (record {
      change = Evicted e.key c.place_of-place.result;
      listed = c.push_reserved.ensures.items;
      does = record {
        goes = record {
          full = full;
          entry = e;
          newer = w.newer;
          older = w.older;
          was = w.was;
          is = rw without w.others;
          lies = w.lies;
          named = refl;
          shows = rw (c.place_of-place.ensures, c.options.ensures.options, c.take_out.ensures.options) refl;
          unused = omega (arith, least, c.if-entry-self.false);
          leaves = c.take_out.ensures.leaves;
          numbers = rw c.oldest_lying.ensures.stays at c.take_out.ensures.made;
          reserved = rw c.oldest_lying.ensures.stays at c.take_out.ensures.reserved;
          sizes = c.take_out.ensures.sizes;
          slots = c.take_out.ensures.slots;
          options = c.take_out.ensures.options;
          frame = refl;
          counts = rw c.count-self-inside.ensures refl;
        };
        oldest = w.blank;
      };
    })

pub returns-clause-less : goal.returns-clause-less
returns-clause-less g c = λ _.
    let without = rw c.oldest_lying.ensures.stays at c.take_out.ensures.without in
    let w = rw c.in-Some.is at c.oldest_lying.ensures.last in
    rw (← c.self.view_is, c.take_out.ensures.options, c.take_out.ensures.sizes, without, w.others, w.was)
    (omega (arith, length-less w.newer c.in-Some.entry w.older))

pub returns-clause-there : goal.returns-clause-there
returns-clause-there g c =
    let it = c.self.inside in
    let e = c.in-Some.entry in
    let w = rw c.in-Some.is at c.oldest_lying.ensures.last in
    let live = rectangle-live it.rooms.pages c.in-Some.number it.entries.entries e c.self.invariant.held w.at w.lies in
    let within = page_of it.rooms.pages e.page e.id live in
    omega (arith, as_many it.rooms.pages c.take_out.new.rooms.pages c.take_out.ensures.sizes, within)

pub returns-clause-others : goal.returns-clause-others
returns-clause-others g c = rw (← c.self.view_is) c.take_out.ensures.leaves.others

pub returns-in_default-clause-reserves : goal.returns-in_default-clause-reserves
returns-in_default-clause-reserves g c = rw (c.oldest_lying.ensures.stays, ← c.self.view_is) (λ n had. had)

pub returns-then-entry-self-clause-reserves : goal.returns-then-entry-self-clause-reserves
returns-then-entry-self-clause-reserves g c = rw (c.oldest_lying.ensures.stays, ← c.self.view_is) (λ n had. had)

pub returns-clause-reserves : goal.returns-clause-reserves
returns-clause-reserves g c =
    let without = rw c.oldest_lying.ensures.stays at c.take_out.ensures.without in
    let reserved = rw c.oldest_lying.ensures.stays at c.take_out.ensures.reserved in
    let w = rw c.in-Some.is at c.oldest_lying.ensures.last in
    let fewer = length-less w.newer c.in-Some.entry w.older in
    let was = ap length w.was in
    let is : length (entries_of c.take_out.new.entries.entries) ≡ length (w.newer ++ w.older) =
    rw without (ap length w.others) in
    rw (← c.self.view_is) (λ n had.
    reserves_left n n _ _ 0 _ _ c.take_out.ensures.slots (omega arith) (omega (arith, reserved))
    (omega (arith, fewer, was, is, c.push_reserved.ensures.len, c.push_reserved.ensures.capacity, c.requires.room)) had)

pub returns-clause-full : goal.returns-clause-full
returns-clause-full g c =
    full_stays c.args.self.now _ (rw (← c.self.view_is) c.take_out.ensures.options) (rw (← c.self.view_is) c.take_out.ensures.sizes)
    c.requires.full

pub returns-in_default-clause-slots : goal.returns-in_default-clause-slots
returns-in_default-clause-slots g c = rw (← c.self.view_is) (none_used 0 c.self.inside.rooms.pages)

pub returns-then-entry-self-clause-slots : goal.returns-then-entry-self-clause-slots
returns-then-entry-self-clause-slots g c = rw (← c.self.view_is) (none_used 0 c.self.inside.rooms.pages)

pub returns-clause-slots : goal.returns-clause-slots
returns-clause-slots g c = rw (← c.self.view_is) c.take_out.ensures.slots
