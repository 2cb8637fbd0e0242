use Rattle.std.proofs.Common.{inl}
use Rattle.guillotiere.specs.Pixels.{sides_of}
use Rattle.atlas_sheet.specs.declared.ways.TheConstants.{WAYS}
use Rattle.atlas_sheet.specs.Packings.{IsNoLarger, NoneIsFound}
use Rattle.atlas_sheet.specs.Settings.{spacing_of}
use Rattle.atlas_sheet.proofs.Arrangements.{lying_packable, own, rebased}
use Rattle.atlas_sheet.proofs.LaidSprites.{each_weaker}
use Rattle.atlas_sheet.proofs.packing.squeeze.Goals as goal

pub improve-requires-clause-good : goal.improve-requires-clause-good
improve-requires-clause-good g c =
    lying_packable (rw c.deref-2.ensures.value at c.in_ok-asked.ensures.arranged) c.in_ok-lying.ensures.good

pub improve-requires-clause-arranged : goal.improve-requires-clause-arranged
improve-requires-clause-arranged g c = own c.in_ok-asked.ensures.arranged

pub returns-clause-arranged : goal.returns-clause-arranged
returns-clause-arranged g c =
    let lying = c.in_ok-lying.lying.items in
    let asked = rw c.deref-2.ensures.value at c.in_ok-asked.ensures.arranged in
    rebased c.args.sprites.now lying c.in_ok-lying.ensures.lies
    (rebased lying c.in_ok-asked.asked.lying.items asked.lies c.in_ok-found.ensures.arranged)

pub returns-clause-larger : goal.returns-clause-larger
returns-clause-larger g c =
    each_weaker c.args.options.now c.args.sprites.now (NoneIsFound WAYS c.args.options.now.allowed (spacing_of c.args.options.now))
    (λ lying. IsNoLarger WAYS c.args.options.now.allowed (spacing_of c.args.options.now) lying (sides_of c.in_ok-found.found.size))
    (λ lying none. inl none) c.requires.none
