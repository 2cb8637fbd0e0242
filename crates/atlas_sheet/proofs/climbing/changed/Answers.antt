use Rattle.atlas_sheet.specs.Settings.{spacing_of}
use Rattle.atlas_sheet.proofs.Arrangements.{rebased}
use Rattle.atlas_sheet.proofs.TurnedSprites.{lie_packable}
use Rattle.atlas_sheet.proofs.climbing.changed.Goals as goal

pub asked_in-requires-clause-good : goal.asked_in-requires-clause-good
asked_in-requires-clause-good g c =
    rw c.deref-3.ensures.value (record {
      aligned = c.requires.good.aligned;
      packable = lie_packable (spacing_of c.args.options.now) c.args.options.now.turn c.args.from.now.lying.items
          c.in_ok-asking.asking.lying.items
          (rw c.deref.ensures.value at c.in_ok-asking.ensures.lies) c.requires.good.packable;
    })

pub asked_in-requires-clause-permuted : goal.asked_in-requires-clause-permuted
asked_in-requires-clause-permuted g c = rw (c.deref-3.ensures.value, c.deref-4.ensures.value) c.in_ok-asking.ensures.permuted

pub returns-clause-arranged : goal.returns-clause-arranged
returns-clause-arranged g c =
    rebased c.args.from.now.lying.items c.in_ok-asking.asking.lying.items (rw c.deref.ensures.value at c.in_ok-asking.ensures.lies)
    (rw c.deref-3.ensures.value at c.in_ok-to.ensures.arranged)
