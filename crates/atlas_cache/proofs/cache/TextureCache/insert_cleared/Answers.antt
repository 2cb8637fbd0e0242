use Rattle.std.proofs.Common.{◌≡◌, ◌+◌, ap, arith, Err, Ok, rules, subst, sym}
use Rattle.atlas_cache.specs.Reserving.{room_in}
use Rattle.atlas_cache.specs.declared.inserted.Inserted.TheVariants.{FrameFull, Placed}
use Rattle.atlas_cache.proofs.InsertLemmas.{cleared_stays}
use Rattle.atlas_cache.proofs.ReadyLemmas.{error_is, full_stays, one_fewer}
use Rattle.atlas_cache.proofs.RoomLemmas.PageReserves.{both_used, none_used, short_before}
use Rattle.atlas_cache.proofs.RoomLemmas.KeptPages.{only_changed}
use Rattle.guillotiere.specs.declared.Size.{Size}
use Rattle.atlas_cache.specs.Changes.{IsExhausted}
use Rattle.atlas_cache.proofs.StandLemmas.{has-room}
use Rattle.atlas_cache.proofs.VacatedLemmas.{cleared-absent, looks_as, made_there, nothing_there, room-there}
use Rattle.atlas_cache.proofs.cache.TextureCache.insert_cleared.Goals as goal

pub add-requires-clause-absent : goal.add-requires-clause-absent
add-requires-clause-absent g c =
    let m = c.in_ok-vacate.ensures.room c.in-Room.page (ap Ok c.in-Room.is) in
    cleared-absent g.K.PartialEq.eq c.args.key m.vacates.page m.vacates.box m.made _ _ m.vacates.clears c.requires.absent

pub add-requires-clause-stands : goal.add-requires-clause-stands
add-requires-clause-stands g c =
    let m = c.in_ok-vacate.ensures.room c.in-Room.page (ap Ok c.in-Room.is) in
    rw (cleared_stays m.vacates.page m.vacates.box m.made _ _ m.vacates.clears).0 c.requires.stands

pub add-requires-clause-asked : goal.add-requires-clause-asked
add-requires-clause-asked g c =
    let m = c.in_ok-vacate.ensures.room c.in-Room.page (ap Ok c.in-Room.is) in
    rw (cleared_stays m.vacates.page m.vacates.box m.made _ _ m.vacates.clears).0 c.requires.asked

pub add-requires-clause-inside : goal.add-requires-clause-inside
add-requires-clause-inside g c =
    let m = c.in_ok-vacate.ensures.room c.in-Room.page (ap Ok c.in-Room.is) in
    omega (arith, m.there)

pub add-requires-clause-others : goal.add-requires-clause-others
add-requires-clause-others g c =
    let m = c.in_ok-vacate.ensures.room c.in-Room.page (ap Ok c.in-Room.is) in
    only_changed c.args.asked c.args.self.now.pages c.vacate.new.self.pages c.in-Room.page c.requires.none m.others

pub returns-in_err-vacate-clause-refused : goal.returns-in_err-vacate-clause-refused
returns-in_err-vacate-clause-refused g c =
    let stays = c.in_err-vacate.ensures.refused in
    let same : c.from_residual.result ≡ Err c.in_err-vacate.field-0.0 = search rules in
    rw same (nothing_there c.args.asked c.args.key c.args.size (Err c.in_err-vacate.field-0.0) _ _ c.args.self.now c.vacate.new.self stays.1
    (looks_as c.args.self.now c.vacate.new.self stays.0))

pub returns-in_err-vacate-clause-slots : goal.returns-in_err-vacate-clause-slots
returns-in_err-vacate-clause-slots g c =
    let stays = c.in_err-vacate.ensures.refused in
    rw stays.0 (none_used 4 c.args.self.now.pages)

pub returns-in_err-place-in-Room-clause-refused : goal.returns-in_err-place-in-Room-clause-refused
returns-in_err-place-in-Room-clause-refused g c =
    let m = c.in_ok-vacate.ensures.room c.in-Room.page (ap Ok c.in-Room.is) in
    let same : c.from_residual-in_err-place-in-Room.result ≡ Err c.in_err-place-in-Room.field-0.0 = search rules in
    rw same (made_there c.args.asked c.in-Room.page c.args.key c.args.size (Err c.in_err-place-in-Room.field-0.0) _ _ c.args.self.now
    c.vacate.new.self
    c.add.new.self m c.in_err-place-in-Room.ensures.refused)

pub returns-in_err-place-in-Room-clause-already : goal.returns-in_err-place-in-Room-clause-already
returns-in_err-place-in-Room-clause-already g c = λ is.
    let m = c.in_ok-vacate.ensures.room c.in-Room.page (ap Ok c.in-Room.is) in
    let same : c.from_residual-in_err-place-in-Room.result ≡ Err c.in_err-place-in-Room.field-0.0 = search rules in
    short_before 4 c.args.self.now.pages c.vacate.new.self.pages m.slots
    (c.in_err-place-in-Room.ensures.already (ap Err (error_is c.in_err-place-in-Room.field-0.0 c.from_residual-in_err-place-in-Room.result
    same is)))

pub returns-in_err-place-in-Room-clause-reserves : goal.returns-in_err-place-in-Room-clause-reserves
returns-in_err-place-in-Room-clause-reserves g c = λ n had.
    let same : c.from_residual-in_err-place-in-Room.result ≡ Err c.in_err-place-in-Room.field-0.0 = search rules in
    let left = c.in_err-place-in-Room.ensures.reserves n (room_in c.vacate.new.changes) (c.vacate.ensures.reserves (n + 1) had) in
    (λ is. left.0 (ap Err (error_is c.in_err-place-in-Room.field-0.0 c.from_residual-in_err-place-in-Room.result same is)), left.1)

pub returns-in_err-place-in-Room-clause-full : goal.returns-in_err-place-in-Room-clause-full
returns-in_err-place-in-Room-clause-full g c = λ full.
    let m = c.in_ok-vacate.ensures.room c.in-Room.page (ap Ok c.in-Room.is) in
    let looks = c.in_err-place-in-Room.ensures.refused in
    full_stays c.vacate.new.self c.add.new.self looks.keeps.options looks.sizes m.full

pub returns-in_err-place-in-Room-clause-slots : goal.returns-in_err-place-in-Room-clause-slots
returns-in_err-place-in-Room-clause-slots g c =
    let m = c.in_ok-vacate.ensures.room c.in-Room.page (ap Ok c.in-Room.is) in
    both_used 0 4 4 c.args.self.now.pages c.vacate.new.self.pages c.add.new.self.pages (omega arith) m.slots c.add.ensures.slots

pub returns-in-Unmarked-clause-slots : goal.returns-in-Unmarked-clause-slots
returns-in-Unmarked-clause-slots g c =
    let stays = c.in_ok-vacate.ensures.unmarked (ap Ok c.in-Unmarked.is) in
    rw stays.0 (none_used 4 c.args.self.now.pages)

pub returns-in-Crowded-clause-inserts : goal.returns-in-Crowded-clause-inserts
returns-in-Crowded-clause-inserts g c =
    let stays = c.in_ok-vacate.ensures.nothing (ap Ok c.in-Crowded.is) in
    let done = c.in_ok-vacate.ensures.crowded (ap Ok c.in-Crowded.is) in
    nothing_there c.args.asked c.args.key c.args.size (Ok FrameFull) _ _ c.args.self.now c.vacate.new.self stays.1 (sym stays.0, done)

pub returns-in-Crowded-clause-reserves : goal.returns-in-Crowded-clause-reserves
returns-in-Crowded-clause-reserves g c = λ n had.
    (λ is. cc, one_fewer n (room_in c.vacate.new.changes) c.vacate.new.self (c.vacate.ensures.reserves (n + 1) had))

pub returns-in-Crowded-clause-slots : goal.returns-in-Crowded-clause-slots
returns-in-Crowded-clause-slots g c =
    let stays = c.in_ok-vacate.ensures.nothing (ap Ok c.in-Crowded.is) in
    rw stays.0 (none_used 4 c.args.self.now.pages)

pub returns-in-Some-clause-inserts : goal.returns-in-Some-clause-inserts
returns-in-Some-clause-inserts g c =
    let m = c.in_ok-vacate.ensures.room c.in-Room.page (ap Ok c.in-Room.is) in
    made_there c.args.asked c.in-Room.page c.args.key c.args.size (Ok (Placed c.in-Some.place)) _ _ c.args.self.now c.vacate.new.self
    c.add.new.self m (rw c.in-Some.is at c.in_ok-place-in-Room.ensures.adds)

pub returns-in-Some-clause-reserves : goal.returns-in-Some-clause-reserves
returns-in-Some-clause-reserves g c = λ n had.
    let left = c.add.ensures.reserves n (room_in c.vacate.new.changes) (c.vacate.ensures.reserves (n + 1) had) in
    (λ is. cc, left.1)

pub returns-in-Some-clause-full : goal.returns-in-Some-clause-full
returns-in-Some-clause-full g c = λ full.
    let m = c.in_ok-vacate.ensures.room c.in-Room.page (ap Ok c.in-Room.is) in
    let adds = rw c.in-Some.is at c.in_ok-place-in-Room.ensures.adds in
    full_stays c.vacate.new.self c.add.new.self adds.options adds.sizes m.full

pub returns-in-Some-clause-slots : goal.returns-in-Some-clause-slots
returns-in-Some-clause-slots g c =
    let m = c.in_ok-vacate.ensures.room c.in-Room.page (ap Ok c.in-Room.is) in
    both_used 0 4 4 c.args.self.now.pages c.vacate.new.self.pages c.add.new.self.pages (omega arith) m.slots c.add.ensures.slots

pub returns-in-None-clause-inserts : goal.returns-in-None-clause-inserts
returns-in-None-clause-inserts g c =
    let m = c.in_ok-vacate.ensures.room c.in-Room.page (ap Ok c.in-Room.is) in
    absurd (room-there c.args.asked c.vacate.new.self.pages c.in-Room.page m.there m.room
    (c.in_ok-place-in-Room.ensures.full (ap Ok c.in-None.is)))

pub returns-in-None-clause-reserves : goal.returns-in-None-clause-reserves
returns-in-None-clause-reserves g c =
    let m = c.in_ok-vacate.ensures.room c.in-Room.page (ap Ok c.in-Room.is) in
    absurd (room-there c.args.asked c.vacate.new.self.pages c.in-Room.page m.there m.room
    (c.in_ok-place-in-Room.ensures.full (ap Ok c.in-None.is)))

pub returns-in-None-clause-full : goal.returns-in-None-clause-full
returns-in-None-clause-full g c =
    let m = c.in_ok-vacate.ensures.room c.in-Room.page (ap Ok c.in-Room.is) in
    absurd (room-there c.args.asked c.vacate.new.self.pages c.in-Room.page m.there m.room
    (c.in_ok-place-in-Room.ensures.full (ap Ok c.in-None.is)))

pub returns-in-None-clause-slots : goal.returns-in-None-clause-slots
returns-in-None-clause-slots g c =
    let m = c.in_ok-vacate.ensures.room c.in-Room.page (ap Ok c.in-Room.is) in
    absurd (room-there c.args.asked c.vacate.new.self.pages c.in-Room.page m.there m.room
    (c.in_ok-place-in-Room.ensures.full (ap Ok c.in-None.is)))

pub returns-in-Crowded-clause-room : goal.returns-in-Crowded-clause-room
returns-in-Crowded-clause-room g c = λ none is.
    let done = c.in_ok-vacate.ensures.crowded (ap Ok c.in-Crowded.is) in
    let kept = c.prove_pages.ensures.kept in
    has-room c.args.size c.args.self.now (rw (← c.self.view_is) c.prove_pages.ensures.usable) c.requires.stands
    (rw (← c.self.view_is) c.self.invariant.held) (rw (← c.self.view_is) kept) none
    (subst (λ (a : Size). IsExhausted a c.args.self.now) c.requires.asked done)

pub returns-in-None-clause-room : goal.returns-in-None-clause-room
returns-in-None-clause-room g c =
    let m = c.in_ok-vacate.ensures.room c.in-Room.page (ap Ok c.in-Room.is) in
    absurd (room-there c.args.asked c.vacate.new.self.pages c.in-Room.page m.there m.room
    (c.in_ok-place-in-Room.ensures.full (ap Ok c.in-None.is)))

pub returns-then-left-gt0-clause-reserves : goal.returns-then-left-gt0-clause-reserves
returns-then-left-gt0-clause-reserves g c = λ n had. (λ is. cc, one_fewer n (room_in c.args.changes.now) c.args.self.now had)

pub returns-then-not-are_full-clause-reserves : goal.returns-then-not-are_full-clause-reserves
returns-then-not-are_full-clause-reserves g c =
    rw (← c.self.view_is) (λ n had. (λ is. cc, one_fewer n _ _ had))

pub returns-in-Unmarked-clause-reserves : goal.returns-in-Unmarked-clause-reserves
returns-in-Unmarked-clause-reserves g c = λ n had.
    (λ is. cc, one_fewer n (room_in c.vacate.new.changes) c.vacate.new.self (c.vacate.ensures.reserves (n + 1) had))
