use Rattle.std.proofs.Common.{◌≡◌, ◌∙◌, ◌∷◌, ◌++◌, ap, arith, length, Ok, refl, subst, sym}
use Rattle.guillotiere.specs.Pixels.{box_of}
use Rattle.atlas_cache.specs.Caches.{entries_of}
use Rattle.atlas_cache.specs.Changes.{ClearsBox}
use Rattle.atlas_cache.specs.Vacating.{state_with}
use Rattle.atlas_entries.specs.Entries.{Table}
use Rattle.atlas_cache.proofs.BlankLemmas.{all-in-use}
use Rattle.atlas_cache.proofs.ClearingLemmas.{split-same}
use Rattle.atlas_cache.proofs.ClearedLemmas.{cleared_on-room}
use Rattle.atlas_cache.proofs.ReadyLemmas.{full_stays, reserves_left}
use Rattle.atlas_cache.proofs.RoomLemmas.KeptPages.{as_many}
use Rattle.atlas_cache.proofs.StandLemmas.{none-shown, used-up}
use Rattle.atlas_cache.proofs.VacatedLemmas.{page-there, cleared-reserved, cleared-slots, falls-outside, on_err}
use Rattle.atlas_cache.proofs.WalkLemmas.{entries-append}
use Rattle.atlas_cache.proofs.cache.TextureCache.vacate.Goals as goal
use Rattle.atlas_cache.proofs.ListLemmas.{length-listed}

pub returns-in_default-clause-crowded : goal.returns-in_default-clause-crowded
returns-in_default-clause-crowded g c = λ _.
    let none = c.in_default.ensures.none in
    used-up c.args.asked c.args.self.now c.requires.full c.requires.none (rw (← c.self.view_is, none) tt)
    (rw (← c.self.view_is) c.prove_pages.ensures.kept) (rw (← c.self.view_is) c.prove_pages.ensures.numbered)

pub returns-then-oldest-self-clause-crowded : goal.returns-then-oldest-self-clause-crowded
returns-then-oldest-self-clause-crowded g c = λ _.
    let it = c.self.inside in
    let w = rw c.in-Some.is at c.oldest_lying.ensures.last in
    let falls = rw w.was at c.self.invariant.frames in
    used-up c.args.asked c.args.self.now c.requires.full c.requires.none
    (rw (← c.self.view_is, w.was) (all-in-use it.frame w.newer c.in-Some.oldest w.older w.lies w.blank falls c.if-oldest-self.true))
    (rw (← c.self.view_is) c.prove_pages.ensures.kept) (rw (← c.self.view_is) c.prove_pages.ensures.numbered)

pub find_vacancy-found-requires-clause-none : goal.find_vacancy-found-requires-clause-none
find_vacancy-found-requires-clause-none g c =
    none-shown c.args.asked c.self.inside.rooms.pages c.self.inside.rooms.options c.prove_pages.ensures.kept
    (rw (← c.self.view_is) at c.requires.none)

pub returns-in_default-found-2-clause-crowded : goal.returns-in_default-found-2-clause-crowded
returns-in_default-found-2-clause-crowded g c = λ _.
    let none = rw c.oldest_lying.ensures.stays at (c.in-Ok.ensures.crowded (ap Ok c.in_default-found-2.is)) in
    record { none = c.requires.none; full = c.requires.full; crowded = rw (← c.self.view_is) none }

pub returns-in_err-reserve-clause-refused : goal.returns-in_err-reserve-clause-refused
returns-in_err-reserve-clause-refused g c =
    on_err c.from_residual.result _ (rw (c.oldest_lying.ensures.stays, ← c.self.view_is) refl, c.in_err-reserve.ensures.items)

pub clear-requires-clause-unused : goal.clear-requires-clause-unused
clear-requires-clause-unused g c = λ newer older was counted.
    let found = rw c.in-Ok.is at c.find_vacancy-found.ensures.found in
    let there = rw c.in-Some-found.is at found in
    let v = there.1 in
    let same = split-same 0 (box_of c.in-Some-found.vacancy.area) 0 newer older v.newer (v.last ∷ v.older)
    (sym was ∙ v.was) (omega (arith, counted, v.counted)) in
    rw same.1 v.unused

pub invariant_of-self-2 : goal.invariant_of-self-2
invariant_of-self-2 g c =
    let found = rw c.in-Ok.is at c.find_vacancy-found.ensures.found in
    let there = rw c.in-Some-found.is at found in
    let v = there.1 in
    let cl = c.clear.ensures.cleared v.newer (v.last ∷ v.older) v.was (omega (arith, v.counted)) in
    let parts = ap entries_of v.was ∙ entries-append v.newer v.last v.older in
    let falls = rw (← c.oldest_lying.ensures.stays, parts) at c.self.invariant.frames in
    record {
      held = c.clear.ensures.held;
      bordered = c.clear.ensures.bordered;
      frames = rw cl.left
          (falls-outside c.in-Some-found.vacancy.page (box_of c.in-Some-found.vacancy.area) c.self.inside.frame (entries_of v.newer)
          (entries_of (v.last ∷ v.older)) falls);
    }

pub returns-clause-room : goal.returns-clause-room
returns-clause-room g c = λ page is.
    let at : c.in-Some-found.vacancy.page ≡ page = cc in
    let found = rw c.in-Ok.is at c.find_vacancy-found.ensures.found in
    let there = rw (c.in-Some-found.is) at found in
    let v = there.1 in
    let box = box_of c.in-Some-found.vacancy.area in
    let k = c.in-Some-found.vacancy.page in
    let cl = c.clear.ensures.cleared v.newer (v.last ∷ v.older) v.was (omega (arith, v.counted)) in
    let parts = ap entries_of v.was ∙ entries-append v.newer v.last v.older in
    let base = page-there c.self.inside.rooms.pages k there.0 in
    let held = rw (← c.oldest_lying.ensures.stays, parts) at c.self.invariant.held in
    let made = subst (λ (t : Table g.row.K.Denot). ClearsBox k box cl.made
    (state_with c.self.inside.rooms t c.self.inside.frame c.self.inside.counts)
    (state_with c.clear.new.rooms c.clear.new.entries c.self.inside.frame c.clear.new.counts))
    c.oldest_lying.ensures.stays cl.clears in
    let none = rw (← c.self.view_is) at c.requires.none in
    let was = subst (λ (t : Table g.row.K.Denot). entries_of t.entries ≡ entries_of v.newer ++ v.last.1 ∷ entries_of v.older)
    c.oldest_lying.ensures.stays parts in
    let room = cleared_on-room c.args.asked c.self.inside.rooms.pages k box (entries_of v.newer) (entries_of (v.last ∷ v.older))
    (λ w w_at. (c.prove_pages.ensures.kept.each k w w_at).sound) held
    (λ past. omega (arith, past, there.0, c.prove_pages.ensures.numbered)) c.requires.positive v.room base.0 c.clear.new.rooms.pages base.1
    (λ w w_at. let f = cl.freed base.0 w base.1 w_at in record { tree = f.0; size = f.1; options = f.2 }) in
    rw (← at, ← c.self.view_is) (record {
      made = cl.made;
      listed = cl.listed ∙ ap (λ cs. cs ++ cl.made) c.in_ok-reserve.ensures.items;
      vacates = record {
        none = none;
        page = k;
        box = box;
        newer = entries_of v.newer;
        last = v.last.1;
        older = entries_of v.older;
        was = was;
        unused = v.unused;
        least = v.least;
        room = v.room;
        clears = made;
        left = cl.left;
      };
      there = omega (arith, there.0, as_many c.self.inside.rooms.pages c.clear.new.rooms.pages c.clear.ensures.sizes);
      room = room;
      others = cl.others;
      full = full_stays c.args.self.now _ (rw (← c.self.view_is) c.clear.ensures.options) (rw (← c.self.view_is) c.clear.ensures.sizes)
          c.requires.full;
      slots = cleared-slots k box cl.made _ _ made;
    })

pub returns-clause-reserves : goal.returns-clause-reserves
returns-clause-reserves g c =
    let found = rw c.in-Ok.is at c.find_vacancy-found.ensures.found in
    let there = rw c.in-Some-found.is at found in
    let v = there.1 in
    let cl = c.clear.ensures.cleared v.newer (v.last ∷ v.older) v.was (omega (arith, v.counted)) in
    let k = c.in-Some-found.vacancy.page in
    let box = box_of c.in-Some-found.vacancy.area in
    let made = subst (λ (t : Table g.row.K.Denot). ClearsBox k box cl.made
    (state_with c.self.inside.rooms t c.self.inside.frame c.self.inside.counts)
    (state_with c.clear.new.rooms c.clear.new.entries c.self.inside.frame c.clear.new.counts))
    c.oldest_lying.ensures.stays cl.clears in
    let same = ap (λ (t : Table g.row.K.Denot). length t.entries) c.oldest_lying.ensures.stays in
    rw (← c.self.view_is) (λ n had.
    reserves_left n n _ _ 0 _ _ (cleared-slots k box cl.made _ _ made) (omega arith)
    (omega (arith, cleared-reserved k box cl.made _ _ made))
    (omega (
      arith,
      same,
      c.clear.ensures.length,
      c.clear.ensures.capacity,
      c.reserve.ensures.capacity,
      c.in_ok-reserve.ensures.len,
      length-listed c.clear.new.entries.entries,
      length-listed c.self.inside.entries.entries,
    )) had)
