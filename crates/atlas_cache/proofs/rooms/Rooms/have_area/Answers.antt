use Rattle.std.proofs.Common.{arith, sym}
use Rattle.atlas_cache.proofs.RoomLemmas.LiveAreas.{none_has, some_has}
use Rattle.atlas_cache.proofs.rooms.Rooms.have_area.Goals as goal

pub returns-then-pixels-free_area : goal.returns-then-pixels-free_area
returns-then-pixels-free_area g c =
    sym (some_has c.args.asked c.args.self.now.pages c.loop-page.page c.free_area.result c.free_area.ensures
    (omega (arith, c.if-pixels-free_area.true, c.pixels_of-pixels.ensures)))

pub loop-page-preserved : goal.loop-page-preserved
loop-page-preserved g c = record {
  none = none_has c.args.asked c.args.self.now.pages c.loop-page.page c.free_area.result c.free_area.ensures
      (omega (arith, c.if-pixels-free_area.false, c.pixels_of-pixels.ensures)) c.loop-page.invariant.none;
}
