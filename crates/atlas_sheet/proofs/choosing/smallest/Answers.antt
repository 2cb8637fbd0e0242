use Rattle.guillotiere.specs.Pixels.{sides_of}
use Rattle.std.proofs.Common.{inl}
use Rattle.atlas_sheet.specs.declared.ways.TheConstants.{WAYS}
use Rattle.atlas_sheet.specs.Packings.{IsNoLarger, NoneIsFound}
use Rattle.atlas_sheet.specs.Settings.{spacing_of}
use Rattle.atlas_sheet.proofs.LaidSprites.{each_weaker}
use Rattle.atlas_sheet.proofs.choosing.smallest.Goals as goal

pub returns-in-None-clause-larger : goal.returns-in-None-clause-larger
returns-in-None-clause-larger g c =
    each_weaker c.args.options.now c.args.sprites.now (NoneIsFound WAYS c.args.options.now.allowed (spacing_of c.args.options.now))
    (λ lying. IsNoLarger WAYS c.args.options.now.allowed (spacing_of c.args.options.now) lying (sides_of c.args.page.size))
    (λ lying none. inl none) (rw c.in-None.is at c.in_ok-found.ensures.none)
