use Rattle.std.proofs.Common.{rules}
use Rattle.atlas_cache.proofs.RoomLemmas.StoredPages.{stored_more}
use Rattle.atlas_cache.proofs.rooms.copying.copied_pages.Goals as goal

pub loop-page-preserved : goal.loop-page-preserved
loop-page-preserved g c =
    rw c.in_ok-push.ensures.items
    (stored_more c.args.pages.now c.loop-page.copies.items c.loop-page.page-index c.page-item.result c.in-Ok.copy c.loop-page-test.true
    c.page-item.is (search rules) c.loop-page.invariant)
