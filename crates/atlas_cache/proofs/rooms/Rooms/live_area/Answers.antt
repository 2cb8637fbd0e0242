use Rattle.std.proofs.Common.{◌<◌, length}
use Rattle.atlas_cache.proofs.RoomLemmas.KnownPages.{live_told}
use Rattle.atlas_cache.proofs.rooms.Rooms.live_area.Goals as goal

pub returns : goal.returns
returns g c =
    let within : c.args.page < length c.self.inside.pages.items = rw (← c.self.view_is) at c.requires in
    rw (← c.self.view_is)
    (live_told c.self.inside.pages.items c.self.inside.known.items c.args.page c.index.result.now within c.index.ensures
    c.self.invariant.1)
