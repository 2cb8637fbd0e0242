use Rattle.std.proofs.Common.{◌∙◌, ap, arith}
use Rattle.atlas_sheet.specs.Sheets.{used_area}
use Rattle.atlas_sheet.proofs.Arrangements.{lying_packable, rebased}
use Rattle.atlas_sheet.proofs.climbing.improve.Goals as goal

pub changed-requires-clause-good : goal.changed-requires-clause-good
changed-requires-clause-good g c = lying_packable c.loop-tries.invariant.arranged c.requires.good

pub loop-tries-preserved-then-most-area : goal.loop-tries-preserved-then-most-area
loop-tries-preserved-then-most-area g c =
    let before = c.loop-tries.invariant in
    record {
      arranged = rebased c.args.first.lying.items c.loop-tries.best.lying.items before.arranged.lies c.in_ok-next.ensures.arranged;
      size = c.in_ok-next.ensures.size ∙ before.size;
      most = c.used_area-area.ensures ∙ ap used_area c.deref-in-loop-tries.ensures.value;
      more = omega (arith, before.more, c.if-most-area.true);
      tries = omega (arith, before.tries);
    }
