use Rattle.std.proofs.Common.{◌≡◌, ap, arith, refl, rules, Err, None, Ok}
use Rattle.atlas_cache.specs.Caches.{entries_of}
use Rattle.atlas_entries.specs.Entries.{lying}
use Rattle.atlas_cache.specs.declared.changes.CacheChange.TheVariants.{PageGrown}
use Rattle.atlas_cache.proofs.HoldingLemmas.{stays}
use Rattle.atlas_cache.proofs.ReadyLemmas.{error_is, reserves_left}
use Rattle.atlas_cache.proofs.RoomLemmas.PageReserves.{none_used}
use Rattle.atlas_cache.proofs.StandLemmas.{used-up}
use Rattle.atlas_cache.proofs.cache.TextureCache.make_room.Goals as goal

pub invariant_of-self-in-Some : goal.invariant_of-self-in-Some
invariant_of-self-in-Some g c =
    let was = c.self.invariant in
    rw c.in_ok-page.ensures.options (record {
      held = stays c.self.inside.rooms.pages c.grow_page.new.self.pages c.in_ok-page.ensures.same
          (lying (entries_of c.self.inside.entries.entries)) was.held;
      bordered = was.bordered;
      frames = was.frames;
    })

pub invariant_of-self-in-Some-2 : goal.invariant_of-self-in-Some-2
invariant_of-self-in-Some-2 g c =
    let was = c.self.invariant in
    let none = c.in_ok-page.ensures.nothing (ap Ok c.in_default.is) in
    let same = rw none at c.in_ok-page-2.ensures.same in
    rw (c.in_ok-page-2.ensures.options, none) (record {
      held = stays c.self.inside.rooms.pages c.add_page.new.self.pages same (lying (entries_of c.self.inside.entries.entries)) was.held;
      bordered = was.bordered;
      frames = was.frames;
    })

pub returns-in_err-reserve-clause-reserves : goal.returns-in_err-reserve-clause-reserves
returns-in_err-reserve-clause-reserves g c = λ full n had.
    reserves_left n n _ _ 0 _ _ (none_used 0 _) (omega arith) (omega arith)
    (omega (arith, c.reserve.ensures.len, c.reserve.ensures.capacity)) had

pub returns-in_err-reserve-clause-memory : goal.returns-in_err-reserve-clause-memory
returns-in_err-reserve-clause-memory g c = λ full some is. omega (arith, some, c.in_err-reserve.ensures.full)

pub returns-in_err-page-clause-reserves : goal.returns-in_err-page-clause-reserves
returns-in_err-page-clause-reserves g c = λ full n had.
    let it = rw (← c.self.view_is) at full in let no = c.in_err-page.ensures.none.1 it.largest in cc

pub returns-in_err-page-clause-memory : goal.returns-in_err-page-clause-memory
returns-in_err-page-clause-memory g c = λ full some is.
    let it = rw (← c.self.view_is) at full in let no = c.in_err-page.ensures.none.1 it.largest in cc

pub returns-in_err-page-clause-full : goal.returns-in_err-page-clause-full
returns-in_err-page-clause-full g c = λ full.
    let it = rw (← c.self.view_is) at full in let no = c.in_err-page.ensures.none.1 it.largest in cc

pub returns-in-Some-clause-reserves : goal.returns-in-Some-clause-reserves
returns-in-Some-clause-reserves g c = λ full n had.
    let it = rw (← c.self.view_is) at full in let no = c.in_ok-page.ensures.none.1 it.largest in cc

pub returns-in-Some-clause-full : goal.returns-in-Some-clause-full
returns-in-Some-clause-full g c = λ full.
    let it = rw (← c.self.view_is) at full in let no = c.in_ok-page.ensures.none.1 it.largest in cc

pub returns-in_err-page-2-clause-reserves : goal.returns-in_err-page-2-clause-reserves
returns-in_err-page-2-clause-reserves g c = λ full n had.
    let it = rw (← c.self.view_is) at full in
    let same = c.in_ok-page.ensures.nothing (ap Ok c.in_default.is) in
    let none = rw same at c.in_err-page-2.ensures.none in let no = none.1 it.all in cc

pub returns-in_err-page-2-clause-memory : goal.returns-in_err-page-2-clause-memory
returns-in_err-page-2-clause-memory g c = λ full some is.
    let it = rw (← c.self.view_is) at full in
    let same = c.in_ok-page.ensures.nothing (ap Ok c.in_default.is) in
    let none = rw same at c.in_err-page-2.ensures.none in let no = none.1 it.all in cc

pub returns-in_err-page-2-clause-full : goal.returns-in_err-page-2-clause-full
returns-in_err-page-2-clause-full g c = λ full.
    let it = rw (← c.self.view_is) at full in
    let same = c.in_ok-page.ensures.nothing (ap Ok c.in_default.is) in
    let none = rw same at c.in_err-page-2.ensures.none in let no = none.1 it.all in cc

pub returns-in-Some-2-clause-reserves : goal.returns-in-Some-2-clause-reserves
returns-in-Some-2-clause-reserves g c = λ full n had.
    let it = rw (← c.self.view_is) at full in
    let same = c.in_ok-page.ensures.nothing (ap Ok c.in_default.is) in
    let none = rw same at c.in_ok-page-2.ensures.none in let no = none.1 it.all in cc

pub returns-in-Some-2-clause-full : goal.returns-in-Some-2-clause-full
returns-in-Some-2-clause-full g c = λ full.
    let it = rw (← c.self.view_is) at full in
    let same = c.in_ok-page.ensures.nothing (ap Ok c.in_default.is) in
    let none = rw same at c.in_ok-page-2.ensures.none in let no = none.1 it.all in cc

pub returns-clause-reserves : goal.returns-clause-reserves
returns-clause-reserves g c =
    let one = c.in_ok-page.ensures.nothing (ap Ok c.in_default.is) in
    let two = c.in_ok-page-2.ensures.nothing (ap Ok c.in_default-2.is) in
    let goes = rw (two, one) at c.evict.ensures.reserves in
    rw (← c.self.view_is) (λ full n had. goes n (
    reserves_left n n _ _ 0 _ _ (none_used 0 _) (omega arith) (omega arith)
    (omega (arith, c.reserve.ensures.len, c.reserve.ensures.capacity)) had))

pub returns-in_err-page-clause-short : goal.returns-in_err-page-clause-short
returns-in_err-page-clause-short g c = λ is.
    let same : c.from_residual-in_err-page.result ≡ Err c.in_err-page.field-0.0 = search rules in
    rw c.in_err-page.ensures.refused
    (c.in_err-page.ensures.short (ap Err (error_is c.in_err-page.field-0.0 c.from_residual-in_err-page.result same is)))

pub returns-in_err-reserve-clause-slots : goal.returns-in_err-reserve-clause-slots
returns-in_err-reserve-clause-slots g c = λ full. none_used 0 c.args.self.now.pages

pub returns-in_err-page-clause-slots : goal.returns-in_err-page-clause-slots
returns-in_err-page-clause-slots g c = λ full.
    let it = rw (← c.self.view_is) at full in let no = c.in_err-page.ensures.none.1 it.largest in cc

pub returns-in_err-page-clause-ample : goal.returns-in_err-page-clause-ample
returns-in_err-page-clause-ample g c = λ full is.
    let it = rw (← c.self.view_is) at full in let no = c.in_err-page.ensures.none.1 it.largest in cc

pub returns-in-Some-clause-slots : goal.returns-in-Some-clause-slots
returns-in-Some-clause-slots g c = λ full.
    let it = rw (← c.self.view_is) at full in let no = c.in_ok-page.ensures.none.1 it.largest in cc

pub returns-in_err-page-2-clause-slots : goal.returns-in_err-page-2-clause-slots
returns-in_err-page-2-clause-slots g c = λ full.
    let it = rw (← c.self.view_is) at full in
    let same = c.in_ok-page.ensures.nothing (ap Ok c.in_default.is) in
    let none = rw same at c.in_err-page-2.ensures.none in let no = none.1 it.all in cc

pub returns-in_err-page-2-clause-ample : goal.returns-in_err-page-2-clause-ample
returns-in_err-page-2-clause-ample g c = λ full is.
    let it = rw (← c.self.view_is) at full in
    let same = c.in_ok-page.ensures.nothing (ap Ok c.in_default.is) in
    let none = rw same at c.in_err-page-2.ensures.none in let no = none.1 it.all in cc

pub returns-in-Some-2-clause-slots : goal.returns-in-Some-2-clause-slots
returns-in-Some-2-clause-slots g c = λ full.
    let it = rw (← c.self.view_is) at full in
    let same = c.in_ok-page.ensures.nothing (ap Ok c.in_default.is) in
    let none = rw same at c.in_ok-page-2.ensures.none in let no = none.1 it.all in cc

pub returns-clause-slots : goal.returns-clause-slots
returns-clause-slots g c = λ full.
    let one = c.in_ok-page.ensures.nothing (ap Ok c.in_default.is) in
    let two = c.in_ok-page-2.ensures.nothing (ap Ok c.in_default-2.is) in
    rw (← c.self.view_is) (rw (two, one) at c.evict.ensures.slots)

pub returns-in-Some-clause-does : goal.returns-in-Some-clause-does
returns-in-Some-clause-does g c = λ _.
    rw (← c.self.view_is) (record {
      change = PageGrown c.in-Some.page c.in-Some.size;
      listed = rw c.in_ok-reserve.ensures.items at c.push_reserved.ensures.items;
      does = record {
        first = rw c.in-Some.is at c.in_ok-page.ensures.first;
        step = rw c.in-Some.is at c.in_ok-page.ensures.step;
        sizes = rw c.in-Some.is at c.in_ok-page.ensures.sizes;
        same = c.in_ok-page.ensures.same;
        slots = c.in_ok-page.ensures.slots;
        others = rw c.in-Some.is at c.in_ok-page.ensures.others;
        keeps = record {
          entries = refl;
          numbers = refl;
          reserved = refl;
          options = c.in_ok-page.ensures.options;
          frame = refl;
          counts = refl;
        };
      };
    })

pub returns-clause-stops : goal.returns-clause-stops
returns-clause-stops g c = λ is.
    let none : c.evict.result ≡ None = cc in
    let one = c.in_ok-page.ensures.nothing (ap Ok c.in_default.is) in
    let largest = c.in_ok-page.ensures.none.0 (ap Ok c.in_default.is) in
    let last = rw one at c.in_ok-page-2.ensures.none in
    let all = last.0 (ap Ok c.in_default-2.is) in
    used-up c.args.asked c.args.self.now (rw (← c.self.view_is) (record { all = all; largest = largest })) c.requires
    (rw (← c.self.view_is) (c.evict.ensures.stops none)) (rw (← c.self.view_is) c.prove_pages.ensures.kept)
    (rw (← c.self.view_is) c.prove_pages.ensures.numbered)

pub returns-in_err-page-clause-lacks : goal.returns-in_err-page-clause-lacks
returns-in_err-page-clause-lacks g c = λ is.
    let same : c.from_residual-in_err-page.result ≡ Err c.in_err-page.field-0.0 = search rules in
    rw c.in_err-page.ensures.refused
    (c.in_err-page.ensures.lacks (ap Err (error_is c.in_err-page.field-0.0 c.from_residual-in_err-page.result same is)))
