use Rattle.atlas_cache.specs.Caches.{entries_of}
use Rattle.atlas_entries.specs.Entries.{lying}
use Rattle.atlas_cache.proofs.HoldingLemmas.{stays}
use Rattle.atlas_cache.proofs.ShrinkLemmas.{drops_same}
use Rattle.atlas_cache.proofs.cache.TextureCache.drop_page.Goals as goal

pub invariant_of-self-2 : goal.invariant_of-self-2
invariant_of-self-2 g c =
    let was = c.self.invariant in
    let old = c.self.inside.rooms.pages in
    let new = c.remove_page.new.self.pages in
    rw c.in-Some.ensures.options (record {
      held = stays old new (drops_same c.in-Some.page old new c.in-Some.ensures.drops) (lying (entries_of c.self.inside.entries.entries))
          was.held;
      bordered = was.bordered;
      frames = was.frames;
    })
