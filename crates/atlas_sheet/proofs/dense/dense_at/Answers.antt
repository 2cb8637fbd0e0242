use Rattle.std.proofs.Common.{All, inr, subst, sym}
use Rattle.guillotiere.specs.Pixels.{sides_of}
use Rattle.atlas_sheet.specs.Dense.{ArePaddedApart, FindAllTopmost, IsUpright, empty_grid}
use Rattle.atlas_sheet.specs.Lying.{areas_of}
use Rattle.atlas_sheet.specs.Settings.{spacing_of}
use Rattle.atlas_sheet.specs.Sheets.{with_places}
use Rattle.atlas_sheet.proofs.dense.dense_at.Goals as goal

pub sheet_of-requires-clause-apart : goal.sheet_of-requires-clause-apart
sheet_of-requires-clause-apart g c =
    subst (ArePaddedApart (spacing_of c.args.options.now)) (sym c.deref.ensures.value)
    (rw c.in-Some.is at c.in_ok-topmost_places.ensures.apart)

pub sheet_of-requires-clause-upright : goal.sheet_of-requires-clause-upright
sheet_of-requires-clause-upright g c =
    subst (All IsUpright) (sym c.deref.ensures.value) (rw c.in-Some.is at c.in_ok-topmost_places.ensures.upright)

pub sheet_of-requires-clause-found : goal.sheet_of-requires-clause-found
sheet_of-requires-clause-found g c =
    let spacing = spacing_of c.args.options.now in
    subst (λ ps. FindAllTopmost spacing (empty_grid spacing (sides_of c.args.size)) (with_places (areas_of ps) c.args.order.now))
    (sym c.deref.ensures.value)
    (rw c.in-Some.is at c.in_ok-topmost_places.ensures.found)

pub returns-in-None-clause-left : goal.returns-in-None-clause-left
returns-in-None-clause-left g c = inr (c.args.order.now, c.requires.by, rw c.in-None.is at c.in_ok-topmost_places.ensures.left)
