use Rattle.std.proofs.Common.{ap, sym, refl, subst, ◌∙◌, ◌≡◌, ◌+◌, Err, Ok, Some, inl, inr, arith, rules}
use Rattle.std.proofs.lemmas.Option.{slice_get_within}
use Rattle.atlas_entries.proofs.AppendedLists.{append-none}
use Rattle.atlas_cache.proofs.LoopLemmas.{inserted, nothing_yet, one_absent, one_more_change, one_options, then_there}
use Rattle.atlas_cache.proofs.RoomLemmas.KeptPages.{only_changed}
use Rattle.atlas_cache.proofs.RoomLemmas.PageReserves.{both_used, none_used, short_before}
use Rattle.atlas_cache.proofs.StandLemmas.{led-unused, never-without}
use Rattle.atlas_cache.specs.Caches.{entries_of, CacheState}
use Rattle.atlas_cache.specs.Changes.{InsertsThere}
use Rattle.atlas_cache.specs.declared.inserted.Inserted.TheVariants.{FrameFull, Placed}
use Rattle.atlas_cache.proofs.ReadyLemmas.{error_is, full_stays, one_fewer}
use Rattle.atlas_cache.specs.Reserving.{room_in}
use Rattle.atlas_cache.proofs.VacatedLemmas.{looks_as}
use Rattle.atlas_cache.proofs.cache.TextureCache.insert_uncounted.Goals as goal

pub loop-place-init : goal.loop-place-init
loop-place-init g c = record {
  reached = nothing_yet _ _ _ (sym (append-none _));
  absent = c.requires.absent;
  capacity = omega arith;
  options = refl;
  inside = rw (← c.self.view_is) (omega (arith, c.len-to.ensures.pages));
  others = rw (← c.self.view_is) (λ k s is room.
      (omega arith, omega (arith, c.len-to.ensures.pages, slice_get_within c.self.inside.rooms.pages k s is)));
  full = λ full. full;
  keeps = λ keeps. keeps;
  reserves = λ n keeps had. had;
  slots = λ keeps. none_used 0 c.args.self.now.pages;
}

pub returns-in_err-place-clause-reserves : goal.returns-in_err-place-clause-reserves
returns-in_err-place-clause-reserves g c =
    let same : c.from_residual.result ≡ Err c.in_err-place.field-0.0 = search rules in
    λ n had keeps.
    let left = c.in_err-place.ensures.reserves n (room_in c.loop-place.changes) (c.loop-place.invariant.reserves (n + 1) keeps had) in
    (λ is. left.0 (ap Err (error_is c.in_err-place.field-0.0 c.from_residual.result same is)), left.1)

pub returns-in_err-place-clause-full : goal.returns-in_err-place-clause-full
returns-in_err-place-clause-full g c = λ full.
    let looks = c.in_err-place.ensures.refused in
    full_stays c.loop-place.self c.add.new.self looks.keeps.options looks.sizes (c.loop-place.invariant.full full)

pub returns-in-Some-clause-reserves : goal.returns-in-Some-clause-reserves
returns-in-Some-clause-reserves g c = λ n had keeps.
    let left = c.in_ok-place.ensures.reserves n (room_in c.loop-place.changes) (c.loop-place.invariant.reserves (n + 1) keeps had) in
    (λ is. cc, left.1)

pub returns-in-Some-clause-full : goal.returns-in-Some-clause-full
returns-in-Some-clause-full g c = λ full.
    let adds = rw c.in-Some.is at c.in_ok-place.ensures.adds in
    full_stays c.loop-place.self c.add.new.self adds.options adds.sizes (c.loop-place.invariant.full full)

pub returns-in_err-place-clause-short : goal.returns-in_err-place-clause-short
returns-in_err-place-clause-short g c = λ is.
    let same : c.from_residual.result ≡ Err c.in_err-place.field-0.0 = search rules in
    c.in_err-place.ensures.short (ap Err (error_is c.in_err-place.field-0.0 c.from_residual.result same is))

pub returns-in_err-place-clause-slots : goal.returns-in_err-place-clause-slots
returns-in_err-place-clause-slots g c = λ keeps.
    both_used 0 4 4 c.args.self.now.pages c.loop-place.self.pages c.add.new.self.pages (omega arith) (c.loop-place.invariant.slots keeps)
    c.add.ensures.slots

pub returns-in-Some-clause-slots : goal.returns-in-Some-clause-slots
returns-in-Some-clause-slots g c = λ keeps.
    both_used 0 4 4 c.args.self.now.pages c.loop-place.self.pages c.add.new.self.pages (omega arith) (c.loop-place.invariant.slots keeps)
    c.add.ensures.slots

pub returns-in_err-place-clause-already : goal.returns-in_err-place-clause-already
returns-in_err-place-clause-already g c = λ keeps is.
    let same : c.from_residual.result ≡ Err c.in_err-place.field-0.0 = search rules in
    short_before 4 c.args.self.now.pages c.loop-place.self.pages (c.loop-place.invariant.slots keeps)
    (c.in_err-place.ensures.already (ap Err (error_is c.in_err-place.field-0.0 c.from_residual.result same is)))

pub returns-in_err-place-clause-inserts : goal.returns-in_err-place-clause-inserts
returns-in_err-place-clause-inserts g c =
    let told : c.from_residual.result ≡ Err c.in_err-place.field-0.0 = search rules in
    rw told (inserted c.args.asked c.args.key c.args.size (Err c.in_err-place.field-0.0) c.args.changes.now.items c.loop-place.changes.items
    c.args.self.now c.loop-place.self c.add.new.self c.loop-place.invariant.reached c.in_err-place.ensures.refused)

pub returns-in-Some-clause-inserts : goal.returns-in-Some-clause-inserts
returns-in-Some-clause-inserts g c =
    inserted c.args.asked c.args.key c.args.size (Ok (Placed c.in-Some.place)) c.args.changes.now.items c.loop-place.changes.items
    c.args.self.now c.loop-place.self c.add.new.self c.loop-place.invariant.reached (rw c.in-Some.is at c.in_ok-place.ensures.adds)

pub insert_cleared-requires-clause-none : goal.insert_cleared-requires-clause-none
insert_cleared-requires-clause-none g c =
    rw (c.in_ok-place.ensures.none (ap Ok c.in_default.is)) (c.in_ok-place.ensures.full (ap Ok c.in_default.is))

pub returns-in_err-answer-clause-inserts : goal.returns-in_err-answer-clause-inserts
returns-in_err-answer-clause-inserts g c =
    let same = c.in_ok-place.ensures.none (ap Ok c.in_default.is) in
    let told : c.from_residual-in_err-answer.result ≡ Err c.in_err-answer.field-0.0 = search rules in
    let there = subst (λ (u : CacheState g.row.K.Denot). InsertsThere c.args.asked c.args.key c.args.size (Err c.in_err-answer.field-0.0)
    c.loop-place.changes.items c.insert_cleared.new.changes.items u c.insert_cleared.new.self) same c.in_err-answer.ensures.refused in
    rw told (then_there c.args.asked c.args.key c.args.size (Err c.in_err-answer.field-0.0) c.args.changes.now.items
    c.loop-place.changes.items c.insert_cleared.new.changes.items c.args.self.now c.loop-place.self c.insert_cleared.new.self
    c.loop-place.invariant.reached there)

pub returns-in_err-answer-clause-reserves : goal.returns-in_err-answer-clause-reserves
returns-in_err-answer-clause-reserves g c =
    let told : c.from_residual-in_err-answer.result ≡ Err c.in_err-answer.field-0.0 = search rules in
    λ n had keeps.
    let same = c.in_ok-place.ensures.none (ap Ok c.in_default.is) in
    let goes = rw same at c.in_err-answer.ensures.reserves in
    let left = goes n (c.loop-place.invariant.reserves (n + 1) keeps had) in
    (λ is. left.0 (ap Err (error_is c.in_err-answer.field-0.0 c.from_residual-in_err-answer.result told is)), left.1)

pub returns-in_err-answer-clause-slots : goal.returns-in_err-answer-clause-slots
returns-in_err-answer-clause-slots g c = λ keeps.
    let same = c.in_ok-place.ensures.none (ap Ok c.in_default.is) in
    let uses = rw same at c.insert_cleared.ensures.slots in
    both_used 0 4 4 c.args.self.now.pages c.loop-place.self.pages c.insert_cleared.new.self.pages (omega arith)
    (c.loop-place.invariant.slots keeps) uses

pub returns-in_err-answer-clause-already : goal.returns-in_err-answer-clause-already
returns-in_err-answer-clause-already g c = λ keeps is.
    let same = c.in_ok-place.ensures.none (ap Ok c.in_default.is) in
    let told : c.from_residual-in_err-answer.result ≡ Err c.in_err-answer.field-0.0 = search rules in
    let short = rw same at c.in_err-answer.ensures.already in
    short_before 4 c.args.self.now.pages c.loop-place.self.pages (c.loop-place.invariant.slots keeps)
    (short (ap Err (error_is c.in_err-answer.field-0.0 c.from_residual-in_err-answer.result told is)))

pub returns-in-Some-2-clause-inserts : goal.returns-in-Some-2-clause-inserts
returns-in-Some-2-clause-inserts g c =
    let same = c.in_ok-place.ensures.none (ap Ok c.in_default.is) in
    let was = rw c.in-Some-2.is at c.in_ok-answer.ensures.inserts in
    let there = subst (λ (u : CacheState g.row.K.Denot). InsertsThere c.args.asked c.args.key c.args.size (Ok c.in-Some-2.answer)
    c.loop-place.changes.items c.insert_cleared.new.changes.items u c.insert_cleared.new.self) same was in
    then_there c.args.asked c.args.key c.args.size (Ok c.in-Some-2.answer) c.args.changes.now.items
    c.loop-place.changes.items c.insert_cleared.new.changes.items c.args.self.now c.loop-place.self c.insert_cleared.new.self
    c.loop-place.invariant.reached there

pub returns-in-Some-2-clause-room : goal.returns-in-Some-2-clause-room
returns-in-Some-2-clause-room g c = λ none is.
    let same = c.in_ok-place.ensures.none (ap Ok c.in_default.is) in
    let was = c.loop-place.invariant.reached in
    let now = led-unused c.args.asked was.made c.args.self.now c.loop-place.self was.leads none in
    let never = rw same at c.in_ok-answer.ensures.room in
    let answer : c.in-Some-2.answer ≡ FrameFull = cc in
    never now (ap Ok (c.in-Some-2.is ∙ ap Some answer))

pub returns-in-Some-2-clause-reserves : goal.returns-in-Some-2-clause-reserves
returns-in-Some-2-clause-reserves g c = λ n had keeps.
    let same = c.in_ok-place.ensures.none (ap Ok c.in_default.is) in
    let goes = rw same at c.insert_cleared.ensures.reserves in
    let left = goes n (c.loop-place.invariant.reserves (n + 1) keeps had) in
    (λ is. cc, left.1)

pub returns-in-Some-2-clause-slots : goal.returns-in-Some-2-clause-slots
returns-in-Some-2-clause-slots g c = λ keeps.
    let same = c.in_ok-place.ensures.none (ap Ok c.in_default.is) in
    let uses = rw same at c.insert_cleared.ensures.slots in
    both_used 0 4 4 c.args.self.now.pages c.loop-place.self.pages c.insert_cleared.new.self.pages (omega arith)
    (c.loop-place.invariant.slots keeps) uses

pub make_room-requires : goal.make_room-requires
make_room-requires g c =
    let same = c.in_ok-place.ensures.none (ap Ok c.in_default.is) in
    let still = c.in_ok-answer.ensures.stays (ap Ok c.in_default-2.is) in
    rw (still.0, same) (c.in_ok-place.ensures.full (ap Ok c.in_default.is))

pub returns-in_err-page-clause-inserts : goal.returns-in_err-page-clause-inserts
returns-in_err-page-clause-inserts g c =
    let told : c.from_residual-in_err-page.result ≡ Err c.in_err-page.field-0.0 = search rules in
    let same = c.in_ok-place.ensures.none (ap Ok c.in_default.is) in
    let still = c.in_ok-answer.ensures.stays (ap Ok c.in_default-2.is) in
    let stays = c.in_err-page.ensures.refused in
    rw (told, stays.1, still.1)
    (inserted c.args.asked c.args.key c.args.size (Err c.in_err-page.field-0.0) c.args.changes.now.items c.loop-place.changes.items
    c.args.self.now c.loop-place.self c.make_room.new.self c.loop-place.invariant.reached
    (looks_as c.loop-place.self c.make_room.new.self (stays.0 ∙ still.0 ∙ same)))

pub returns-in_err-page-clause-reserves : goal.returns-in_err-page-clause-reserves
returns-in_err-page-clause-reserves g c =
    let told : c.from_residual-in_err-page.result ≡ Err c.in_err-page.field-0.0 = search rules in
    λ n had keeps.
    let was = c.loop-place.invariant in
    let same = c.in_ok-place.ensures.none (ap Ok c.in_default.is) in
    let still = c.in_ok-answer.ensures.stays (ap Ok c.in_default-2.is) in
    let both = still.0 ∙ same in
    let none = c.in_ok-place.ensures.full (ap Ok c.in_default.is) in
    let full = was.keeps keeps none in
    let ready = rw (both, same) at (c.in_ok-answer.ensures.ready (ap Ok c.in_default-2.is)) in
    let now = ready (n + 1) (was.reserves (n + 1) keeps had) in
    let never = rw both at c.in_err-page.ensures.memory in
    let goes = rw both at c.make_room.ensures.reserves in (
      λ is. never full (omega (arith, now.changes))
          (ap Err (error_is c.in_err-page.field-0.0 c.from_residual-in_err-page.result told is)),
      one_fewer n _ _ (goes full (n + 1) now),
    )

pub returns-in_err-page-clause-slots : goal.returns-in_err-page-clause-slots
returns-in_err-page-clause-slots g c = λ keeps.
    let was = c.loop-place.invariant in
    let same = c.in_ok-place.ensures.none (ap Ok c.in_default.is) in
    let still = c.in_ok-answer.ensures.stays (ap Ok c.in_default-2.is) in
    let both = still.0 ∙ same in
    let none = c.in_ok-place.ensures.full (ap Ok c.in_default.is) in
    let goes = rw both at c.make_room.ensures.slots in
    both_used 0 0 4 c.args.self.now.pages c.loop-place.self.pages c.make_room.new.self.pages (omega arith) (was.slots keeps)
    (goes (was.keeps keeps none))

pub returns-in_err-page-clause-already : goal.returns-in_err-page-clause-already
returns-in_err-page-clause-already g c =
    let told : c.from_residual-in_err-page.result ≡ Err c.in_err-page.field-0.0 = search rules in
    λ keeps is.
    let same = c.in_ok-place.ensures.none (ap Ok c.in_default.is) in
    let still = c.in_ok-answer.ensures.stays (ap Ok c.in_default-2.is) in
    let none = c.in_ok-place.ensures.full (ap Ok c.in_default.is) in
    let both = still.0 ∙ same in
    let never = rw both at c.in_err-page.ensures.ample in
    absurd (never (c.loop-place.invariant.keeps keeps none)
    (ap Err (error_is c.in_err-page.field-0.0 c.from_residual-in_err-page.result told is)))

pub returns-in_default-3-clause-inserts : goal.returns-in_default-3-clause-inserts
returns-in_default-3-clause-inserts g c =
    let same = c.in_ok-place.ensures.none (ap Ok c.in_default.is) in
    let still = c.in_ok-answer.ensures.stays (ap Ok c.in_default-2.is) in
    let both = still.0 ∙ same in
    let no = ap Ok c.in_default-3.is in
    let stays = c.in_ok-page.ensures.stays no in
    let done = rw both at c.in_ok-page.ensures.stops in
    rw (stays.1, stays.0, still.1, both) (inserted c.args.asked c.args.key c.args.size (Ok FrameFull) c.args.changes.now.items
    c.loop-place.changes.items c.args.self.now c.loop-place.self c.loop-place.self c.loop-place.invariant.reached (refl, done no))

pub returns-in_default-3-clause-room : goal.returns-in_default-3-clause-room
returns-in_default-3-clause-room g c = λ none _.
    let was = c.loop-place.invariant in
    let same = c.in_ok-place.ensures.none (ap Ok c.in_default.is) in
    let still = c.in_ok-answer.ensures.stays (ap Ok c.in_default-2.is) in
    let no = ap Ok c.in_default-3.is in
    let stays = c.in_ok-page.ensures.stays no in
    let done = c.in_ok-page.ensures.stops no in
    never-without c.args.asked c.args.size was.reached.made c.args.self.now c.loop-place.self c.insert_cleared.new.self
    (record {
      options = c.self-in-loop-place.inside.rooms.options;
      pages = c.self-in-loop-place.inside.rooms.pages;
      entries = entries_of c.self-in-loop-place.inside.entries.entries;
      numbers = c.self-in-loop-place.inside.entries.made;
      reserved = c.self-in-loop-place.inside.entries.reserved;
      frame = c.self-in-loop-place.inside.frame;
      counts = c.self-in-loop-place.inside.counts;
    }) was.reached.leads none (still.0 ∙ same) done (c.self-in-loop-place.view_is ∙ stays.0) was.options c.requires.stands c.requires.asked
    c.prove_pages.ensures.kept.usable c.self-in-loop-place.invariant.held c.prove_pages.ensures.kept

pub returns-in_default-3-clause-reserves : goal.returns-in_default-3-clause-reserves
returns-in_default-3-clause-reserves g c = λ n had keeps.
    let was = c.loop-place.invariant in
    let same = c.in_ok-place.ensures.none (ap Ok c.in_default.is) in
    let still = c.in_ok-answer.ensures.stays (ap Ok c.in_default-2.is) in
    let both = still.0 ∙ same in
    let none = c.in_ok-place.ensures.full (ap Ok c.in_default.is) in
    let ready = rw (both, same) at (c.in_ok-answer.ensures.ready (ap Ok c.in_default-2.is)) in
    let goes = rw both at c.make_room.ensures.reserves in
    let left = one_fewer n _ _ (goes (was.keeps keeps none) (n + 1) (ready (n + 1) (was.reserves (n + 1) keeps had))) in
    (λ is. cc, left)

pub returns-in_default-3-clause-slots : goal.returns-in_default-3-clause-slots
returns-in_default-3-clause-slots g c = λ keeps.
    let was = c.loop-place.invariant in
    let same = c.in_ok-place.ensures.none (ap Ok c.in_default.is) in
    let still = c.in_ok-answer.ensures.stays (ap Ok c.in_default-2.is) in
    let both = still.0 ∙ same in
    let none = c.in_ok-place.ensures.full (ap Ok c.in_default.is) in
    let goes = rw both at c.make_room.ensures.slots in
    both_used 0 0 4 c.args.self.now.pages c.loop-place.self.pages _ (omega arith) (was.slots keeps) (goes (was.keeps keeps none))

pub loop-place-preserved : goal.loop-place-preserved
loop-place-preserved g c =
    let was = c.loop-place.invariant in
    let same = c.in_ok-place.ensures.none (ap Ok c.in_default.is) in
    let still = c.in_ok-answer.ensures.stays (ap Ok c.in_default-2.is) in
    let both = still.0 ∙ same in
    let full = c.in_ok-place.ensures.full (ap Ok c.in_default.is) in
    let does = rw c.in-Some-3.is at c.in_ok-page.ensures.does in
    let one = rw (both, still.1) at (does refl) in
    let there = rw c.in-Some-3.is at c.in_ok-page.ensures.there in
    let stay = rw (c.in-Some-3.is, both) at c.in_ok-page.ensures.others in
    let ready = rw (both, same) at (c.in_ok-answer.ensures.ready (ap Ok c.in_default-2.is)) in
    let t = c.loop-place.self in
    let u = c.make_room.new.self in
    let now = c.loop-place.changes.items in
    let new = c.make_room.new.changes.items in
    record {
      reached = one_more_change c.args.asked c.args.changes.now.items now new c.args.self.now t u was.reached full one;
      absent = one_absent g.K.PartialEq.eq c.args.key now new t u one was.absent;
      capacity = omega (arith, was.capacity, c.insert_cleared.ensures.capacity, c.make_room.ensures.capacity);
      options = one_options now new t u one ∙ was.options;
      inside = omega (arith, there);
      others = only_changed c.args.asked t.pages u.pages c.in-Some-3.page full stay;
      full = λ f. let stays = rw both at c.make_room.ensures.full in stays (was.full f);
      keeps = λ k _. let stays = rw both at c.make_room.ensures.full in stays (was.keeps k full);
      reserves = λ n k had.
          let goes = rw both at c.make_room.ensures.reserves in
          goes (was.keeps k full) n (ready n (was.reserves n k had));
      slots = λ k.
          let goes = rw both at c.make_room.ensures.slots in
          both_used 0 0 0 c.args.self.now.pages t.pages u.pages (omega arith) (was.slots k) (goes (was.keeps k full));
    }

pub returns-in_err-place-clause-lacks : goal.returns-in_err-place-clause-lacks
returns-in_err-place-clause-lacks g c = λ is.
    let same : c.from_residual.result ≡ Err c.in_err-place.field-0.0 = search rules in
    inl (c.in_err-place.ensures.lacks (ap Err (error_is c.in_err-place.field-0.0 c.from_residual.result same is)))

pub returns-in_err-answer-clause-lacks : goal.returns-in_err-answer-clause-lacks
returns-in_err-answer-clause-lacks g c = λ is.
    let told : c.from_residual-in_err-answer.result ≡ Err c.in_err-answer.field-0.0 = search rules in
    inl (c.in_err-answer.ensures.lacks (ap Err (error_is c.in_err-answer.field-0.0 c.from_residual-in_err-answer.result told is)))

pub returns-in_err-page-clause-lacks : goal.returns-in_err-page-clause-lacks
returns-in_err-page-clause-lacks g c = λ is.
    let told : c.from_residual-in_err-page.result ≡ Err c.in_err-page.field-0.0 = search rules in
    let same = c.in_ok-place.ensures.none (ap Ok c.in_default.is) in
    let still = c.in_ok-answer.ensures.stays (ap Ok c.in_default-2.is) in
    let short = c.in_err-page.ensures.lacks (ap Err (error_is c.in_err-page.field-0.0 c.from_residual-in_err-page.result told is)) in
    let stays = c.in_err-page.ensures.refused in
    inr (rw (stays.0, still.0, same) (c.in_ok-place.ensures.full (ap Ok c.in_default.is)), short)

pub returns-in_err-answer-clause-short : goal.returns-in_err-answer-clause-short
returns-in_err-answer-clause-short g c = λ is.
    let told : c.from_residual-in_err-answer.result ≡ Err c.in_err-answer.field-0.0 = search rules in
    c.in_err-answer.ensures.short (ap Err (error_is c.in_err-answer.field-0.0 c.from_residual-in_err-answer.result told is))
