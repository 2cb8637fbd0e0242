use Rattle.std.proofs.Common.{◌≡◌, ℕ, length, take, true, All, None, subst}
use Rattle.atlas_model.specs.Pixels.{sides_of}
use Rattle.atlas_sheet.specs.declared.ways.TheConstants.{WAYS}
use Rattle.atlas_sheet.specs.Fillings.{FindsFewer, IsBestFound, IsNoBetter, ways_tried}
use Rattle.atlas_sheet.specs.Lying.{areas_of}
use Rattle.atlas_sheet.specs.Settings.{spacing_of}
use Rattle.atlas_sheet.specs.Turnings.{InEach, InFirst}
use Rattle.atlas_pack.proofs.packing.fill_one.Goals as goal

pub returns-in-Ok-clause-filled : goal.returns-in-Ok-clause-filled
returns-in-Ok-clause-filled c =
    let filled = c.in-Ok.filled in
    let sizes = c.args.sizes.now in
    record {
      greatest = c.in-Ok.ensures.size;
      order = filled.order.items;
      shown = c.in-Ok.ensures.shown;
      best = subst (λ (area : ℕ). InEach c.args.options.now sizes (λ lying.
          All (IsNoBetter (sides_of filled.size) (spacing_of c.args.options.now) lying area) (take (ways_tried (length sizes)) WAYS)))
          c.in-Ok.ensures.area c.in-Ok.ensures.best;
      plain = c.in-Ok.ensures.plain;
      earliest = subst (λ (area : ℕ). c.args.options.now.effort ≡ 0 → InFirst c.args.options.now sizes
          (λ lying. IsBestFound (take (ways_tried (length sizes)) WAYS) (sides_of filled.size) (spacing_of c.args.options.now) lying
          filled.order.items (areas_of filled.places.items))
          (λ lying. All (FindsFewer (sides_of filled.size) (spacing_of c.args.options.now) lying area)
          (take (ways_tried (length sizes)) WAYS)))
          c.in-Ok.ensures.area c.in-Ok.ensures.earliest;
    }

pub returns-in-Err : goal.returns-in-Err
returns-in-Err c = record { filled = tt; fault = λ dense. c.fault_of.ensures true dense None }
