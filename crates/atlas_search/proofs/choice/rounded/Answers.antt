use Rattle.std.proofs.Common.{FitsSigned, w32, rules, ap₂}
use Rattle.std.proofs.lemmas.Int.{to_z-of_z}
use Rattle.atlas_search.proofs.SearchLemmas.BestMargins.{positive_given}
use Rattle.atlas_search.proofs.choice.rounded.Goals as goal

pub rounded_side-requires : goal.rounded_side-requires
rounded_side-requires c =
    let a : FitsSigned w32 c.plain.result.alignment.width = search rules in
    let valid = rw (← c.plain.ensures) at c.requires in
    simp to_z-of_z (positive_given c.plain.result.alignment.width valid.0.0)

pub rounded_side-requires-2 : goal.rounded_side-requires-2
rounded_side-requires-2 c =
    let a : FitsSigned w32 c.plain.result.alignment.height = search rules in
    let valid = rw (← c.plain.ensures) at c.requires in
    simp to_z-of_z (positive_given c.plain.result.alignment.height valid.0.1)

pub returns-in_err-width : goal.returns-in_err-width
returns-in_err-width c =
    let a : FitsSigned w32 c.args.size.width = search rules in
    let b : FitsSigned w32 c.plain.result.alignment.width = search rules in
    let none = simp to_z-of_z at c.in_err-width.ensures in
    rw (c.from_residual.ensures, ← c.plain.ensures) (λ can. none (can.positive.0, can.width))

pub returns-in_err-height : goal.returns-in_err-height
returns-in_err-height c =
    let a : FitsSigned w32 c.args.size.height = search rules in
    let b : FitsSigned w32 c.plain.result.alignment.height = search rules in
    let none = simp to_z-of_z at c.in_err-height.ensures in
    rw (c.from_residual-in_err-height.ensures, ← c.plain.ensures) (λ can. none (can.positive.1, can.height))

pub returns : goal.returns
returns c =
    let a : FitsSigned w32 c.args.size.width = search rules in
    let b : FitsSigned w32 c.args.size.height = search rules in
    let d : FitsSigned w32 c.plain.result.alignment.width = search rules in
    let e : FitsSigned w32 c.plain.result.alignment.height = search rules in
    let f : FitsSigned w32 c.in_ok-width.width = search rules in
    let g : FitsSigned w32 c.in_ok-height.height = search rules in
    let width = simp to_z-of_z at c.in_ok-width.ensures in
    let height = simp to_z-of_z at c.in_ok-height.ensures in
    rw (← c.plain.ensures) (simp to_z-of_z (
      record { positive = (width.0.0, height.0.0); width = width.0.1; height = height.0.1 },
      ap₂ (λ x y. record { width = x; height = y }) width.1 height.1,
    ))
