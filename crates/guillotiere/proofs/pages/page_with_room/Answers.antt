use Rattle.std.proofs.Common.{arith, subst, sym}
use Rattle.guillotiere.specs.Pages.{HasRoomFor}
use Rattle.guillotiere.proofs.Callers.{one_more, page_is}
use Rattle.guillotiere.proofs.pages.page_with_room.Goals as goal

pub returns-then-has_room-clause-room : goal.returns-then-has_room-clause-room
returns-then-has_room-clause-room g c =
    let page = c.index-pages-page in
    page_is _ _ page.result page.result c.loop-page-test.true (HasRoomFor c.args.size)
    (subst (HasRoomFor c.args.size) page.is (c.has_room.ensures.0 c.if-has_room.true))

pub loop-page-preserved : goal.loop-page-preserved
loop-page-preserved g c =
    let page = c.index-pages-page in
    one_more c.args.size _ _ page.result c.loop-page-test.true
    (λ room.
    let yes = c.has_room.ensures.1 (subst (HasRoomFor c.args.size) (sym page.is) room) in
    let no = c.if-has_room.false in cc) c.loop-page.invariant

pub returns-clause-none : goal.returns-clause-none
returns-clause-none g c = λ k s below. c.loop-page.invariant k s (omega (arith, below, c.loop-page-test.false))
