use Rattle.std.proofs.Common.{arith}
use Rattle.std.proofs.lemmas.Option.{slice_get_within}
use Rattle.guillotiere.specs.Pages.{AllLieApartOn, AllLieWithinOn}
use Rattle.atlas_cache.proofs.RoomLemmas.KeptPages.{on_page}
use Rattle.atlas_cache.proofs.RoomLemmas.PageRoom.{largest_has_room}
use Rattle.atlas_cache.proofs.rooms.Rooms.prove_kept.Goals as goal
use borrow.Author.Count.{below_more}

pub loop-at-preserved : goal.loop-at-preserved
loop-at-preserved g c =
    let was = c.loop-at.invariant in
    let pages = c.self.inside.pages.items in
    record {
      apart = below_more (AllLieApartOn pages) c.loop-at.at was.apart (rw c.deref.ensures.value at c.prove_page.ensures.apart);
      within = below_more (AllLieWithinOn pages) c.loop-at.at was.within (rw c.deref.ensures.value at c.prove_page.ensures.within);
    }

pub returns-clause-apart : goal.returns-clause-apart
returns-clause-apart g c =
    rw (← c.self.view_is) (λ page i j r q differ is_r.
    let there = (on_page c.self.inside.pages.items page i r is_r).2 in
    c.loop-at.invariant.apart page (omega (arith, there)) i j r q differ is_r)

pub returns-clause-within : goal.returns-clause-within
returns-clause-within g c =
    rw (← c.self.view_is) (λ page i r s is_s.
    let there = slice_get_within c.self.inside.pages.items page s is_s in
    c.loop-at.invariant.within page (omega (arith, there)) i r s is_s)

pub returns-clause-room : goal.returns-clause-room
returns-clause-room g c = rw (← c.self.view_is) (largest_has_room _ c.self.invariant.0)
