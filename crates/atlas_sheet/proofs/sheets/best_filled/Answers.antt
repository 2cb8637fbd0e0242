use Rattle.std.proofs.Common.{take, length, subst, sym, All}
use Rattle.guillotiere.specs.declared.Size.{Size}
use Rattle.guillotiere.specs.Pixels.{sides_of}
use Rattle.atlas_sheet.specs.declared.ways.TheConstants.{WAYS}
use Rattle.atlas_sheet.specs.Fillings.{IsNoBetter, ways_tried}
use Rattle.atlas_sheet.specs.Settings.{spacing_of}
use Rattle.atlas_sheet.specs.Sheets.{used_area}
use Rattle.atlas_sheet.specs.Turnings.{InEach}
use Rattle.atlas_sheet.proofs.Arrangements.{lying_packable, own, rebased}
use Rattle.atlas_sheet.proofs.BestWays.{still_best}
use Rattle.atlas_sheet.proofs.LaidSprites.{each_weaker}
use Rattle.atlas_sheet.proofs.sheets.best_filled.Goals as goal

pub returns-clause-best : goal.returns-clause-best
returns-clause-best g c =
    let first = c.in_ok-first.first in
    let best = c.in_ok-best.best in
    let ways = take (ways_tried (length c.args.sprites.now)) WAYS in
    subst (λ (s : Size). InEach c.args.options.now c.args.sprites.now
    (λ lying. All (IsNoBetter (sides_of s) (spacing_of c.args.options.now) lying (used_area best.places.items)) ways))
    (sym c.in_ok-best.ensures.size)
    (each_weaker c.args.options.now c.args.sprites.now
    (λ lying. All (IsNoBetter (sides_of first.size) (spacing_of c.args.options.now) lying (used_area first.places.items)) ways)
    (λ lying. All (IsNoBetter (sides_of first.size) (spacing_of c.args.options.now) lying (used_area best.places.items)) ways)
    (λ lying is. still_best (sides_of first.size) (spacing_of c.args.options.now) lying ways (used_area first.places.items)
    (used_area best.places.items) c.in_ok-best.ensures.more is)
    c.in_ok-first.ensures.best)

pub improve-requires-clause-good : goal.improve-requires-clause-good
improve-requires-clause-good g c = lying_packable c.in_ok-first.ensures.arranged c.requires.placing

pub improve-requires-clause-arranged : goal.improve-requires-clause-arranged
improve-requires-clause-arranged g c = own c.in_ok-first.ensures.arranged

pub returns-clause-arranged : goal.returns-clause-arranged
returns-clause-arranged g c =
    rebased c.args.sprites.now c.in_ok-first.first.lying.items c.in_ok-first.ensures.arranged.lies c.in_ok-best.ensures.arranged
