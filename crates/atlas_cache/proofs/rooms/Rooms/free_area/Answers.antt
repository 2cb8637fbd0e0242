use Rattle.std.proofs.Common.{◌≡◌, ◌*◌, ◌<◌, ◌∙◌, ap, arith, length, sym, Some}
use Rattle.std.proofs.lemmas.Option.{slice_get-get_or, slice_get-map}
use Rattle.guillotiere.specs.Stored.{state_of}
use Rattle.atlas_cache.specs.Rooms.{open_area}
use Rattle.atlas_cache.proofs.RoomLemmas.KnownPages.{known_there}
use Rattle.atlas_cache.proofs.RoomLemmas.LiveAreas.{areas-whole}
use Rattle.atlas_cache.proofs.rooms.Rooms.free_area.Goals as goal

pub overflow_sub-result : goal.overflow_sub-result
overflow_sub-result g c =
    let a = c.index-atlas.result.now in
    let within : c.args.page < length c.self.inside.pages.items = rw (← c.self.view_is) at c.requires in
    let known = known_there c.self.inside.pages.items c.self.inside.known.items c.args.page a c.index.result.now within
    c.index-atlas.ensures c.index.ensures c.self.invariant.1 in
    let pixels : c.pixels_of.result ≡ (state_of a).size.width * (state_of a).size.height =
    rw c.size.ensures.size at c.pixels_of.ensures in
    omega (arith, known.live, areas-whole (state_of a) c.prove_sound.ensures.sound, pixels)

pub returns : goal.returns
returns g c =
    let pages = c.self.inside.pages.items in
    let a = c.index-atlas.result.now in
    let within : c.args.page < length pages = rw (← c.self.view_is) at c.requires in
    let known = known_there pages c.self.inside.known.items c.args.page a c.index.result.now within
    c.index-atlas.ensures c.index.ensures c.self.invariant.1 in
    let pixels : c.pixels_of.result ≡ (state_of a).size.width * (state_of a).size.height =
    rw c.size.ensures.size at c.pixels_of.ensures in
    let at = slice_get-get_or pages c.args.page a within ∙ ap Some (sym c.index-atlas.ensures) in
    rw (← c.self.view_is, slice_get-map open_area pages c.args.page, at)
    (ap Some (omega (arith, known.live, areas-whole (state_of a) c.prove_sound.ensures.sound, pixels)))
