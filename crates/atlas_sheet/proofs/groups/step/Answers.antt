use Rattle.std.proofs.Common.{◌∙◌, ap, length, sym}
use Rattle.atlas_sheet.proofs.GroupsSoFar.{kept_long}
use Rattle.atlas_sheet.proofs.groups.step.Goals as goal

pub waiting-requires : goal.waiting-requires
waiting-requires g c =
    ap length c.deref-2.ensures.value ∙ kept_long c.requires.so_far ∙ ap length (sym c.deref.ensures.value)
