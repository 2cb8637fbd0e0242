use Rattle.std.proofs.Common.{subst, sym}
use Rattle.guillotiere.specs.declared.Size.{Size}
use Rattle.guillotiere.specs.Pixels.{sides_of}
use Rattle.atlas_sheet.specs.Dense.{IsNoLargerThanWays}
use Rattle.atlas_sheet.proofs.Arrangements.{shown_whole}
use Rattle.atlas_sheet.proofs.choosing.shown_smallest.Goals as goal

pub returns-clause-whole : goal.returns-clause-whole
returns-clause-whole g c =
    shown_whole c.in_ok-filled.filled.places.items c.in_ok-smaller.smaller.places.items c.in_ok-filled.ensures.areas
    c.in_ok-smaller.ensures.whole

pub returns-clause-larger : goal.returns-clause-larger
returns-clause-larger g c =
    subst (λ (s : Size). IsNoLargerThanWays c.args.options.now c.args.sprites.now (sides_of s)) (sym c.in_ok-filled.ensures.size)
    c.in_ok-smaller.ensures.larger
