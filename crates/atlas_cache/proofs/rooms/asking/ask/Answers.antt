use Rattle.std.proofs.Common.{ap, arith}
use Rattle.guillotiere.specs.Boxes.{Sides}
use Rattle.guillotiere.specs.Pixels.{sides_of}
use Rattle.guillotiere.specs.Replies.{grant_of}
use Rattle.guillotiere.specs.Stored.{state_of}
use Rattle.atlas_cache.proofs.RoomLemmas.KnownPages.{larger_has_none}
use Rattle.atlas_cache.proofs.RoomLemmas.LiveAreas.{live-fits, live-granted}
use Rattle.atlas_cache.proofs.rooms.asking.ask.Goals as goal

pub returns-then-is_no_smaller-clause-answer : goal.returns-then-is_no_smaller-clause-answer
returns-then-is_no_smaller-clause-answer g c =
    larger_has_none c.args.known.now.first c.args.asked c.args.page.now
    (c.is_no_smaller.ensures.positive c.if-is_no_smaller.true) (c.is_no_smaller.ensures.fits c.if-is_no_smaller.true)
    c.requires.first

pub returns-then-is_no_smaller-2-clause-answer : goal.returns-then-is_no_smaller-2-clause-answer
returns-then-is_no_smaller-2-clause-answer g c =
    larger_has_none c.args.known.now.second c.args.asked c.args.page.now
    (c.is_no_smaller-2.ensures.positive c.if-is_no_smaller-2.true) (c.is_no_smaller-2.ensures.fits c.if-is_no_smaller-2.true)
    c.requires.second

pub overflow_add-known : goal.overflow_add-known
overflow_add-known g c =
    let a = c.args.page.now in
    let b = c.allocate.new.self in
    let granted = c.in-Ok-Some.granted in
    let step = rw c.in-Ok-Some.field-0-is at c.in-Ok-Some.ensures.step in
    let more = live-granted (state_of a) (state_of b) (sides_of c.args.asked) (grant_of granted) c.prove_sound.ensures.sound step in
    let fits = rw c.size-size.ensures.size at c.size-size.type_inv in
    let frame = c.in-Ok-Some.ensures.frame.size in
    let wide = ap (λ (z : Sides). z.width) frame in
    let high = ap (λ (z : Sides). z.height) frame in
    let most = live-fits (state_of b) c.in-Ok-Some.ensures.keeps.sound (omega (arith, fits, wide)) (omega (arith, fits, high)) in
    omega (arith, more, most, c.requires.live, c.area_of.ensures)

pub returns-in-Ok-Some-clause-known : goal.returns-in-Ok-Some-clause-known
returns-in-Ok-Some-clause-known g c =
    let a = c.args.page.now in
    let b = c.allocate.new.self in
    let granted = c.in-Ok-Some.granted in
    let step = rw c.in-Ok-Some.field-0-is at c.in-Ok-Some.ensures.step in
    let more = live-granted (state_of a) (state_of b) (sides_of c.args.asked) (grant_of granted) c.prove_sound.ensures.sound step in
    c.changed.ensures b (omega (arith, more, c.requires.live, c.area_of.ensures))
