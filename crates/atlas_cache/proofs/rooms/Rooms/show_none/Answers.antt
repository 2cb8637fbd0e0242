use Rattle.std.proofs.Common.{◌≡◌, ◌∙◌, ap, length, sym}
use Rattle.guillotiere.specs.Stored.{state_of}
use Rattle.atlas_cache.proofs.RoomLemmas.ShownPages.{shown_there}
use Rattle.atlas_cache.proofs.rooms.Rooms.show_none.Goals as goal

pub returns : goal.returns
returns g c =
    let many : length c.resize.new.self.items ≡ (state_of c.index-atlas.result.now).kept =
    ap length (sym c.deref.ensures.value) ∙ c.deref.ensures.len ∙ c.in_ok-resize.ensures.len ∙ c.slots-slots.ensures.kept in
    rw (← c.self.view_is) (shown_there c.self.inside.pages.items c.args.page c.index-atlas.result.now c.index-atlas.ensures
    (rw (← c.self.view_is) at c.requires) _ _ many (rw c.deref.ensures.value at c.prove_none_shown.ensures.shown))
