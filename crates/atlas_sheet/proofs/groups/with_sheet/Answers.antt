use Rattle.std.proofs.Common.{◌∙◌, length, ap}
use Rattle.atlas_sheet.proofs.PageSteps.{put_long}
use Rattle.atlas_sheet.proofs.groups.with_sheet.Goals as goal

pub sprites_left-requires : goal.sprites_left-requires
sprites_left-requires g c =
    ap length c.deref-3.ensures.value ∙ ap length c.in_ok-places.ensures.places ∙
    put_long c.len.result c.deref.result.now c.deref-2.result.now
    ∙ ap length c.deref.ensures.value ∙ c.requires.long
