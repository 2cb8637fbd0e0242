use Rattle.std.proofs.Common.{FitsSigned, w32, rules, arith, ap, ◌≤ℤ◌}
use Rattle.std.proofs.lemmas.Int.{to_z-of_z, ints}
use Rattle.atlas_search.proofs.SearchLemmas.BestMargins.{stretch_given, positive_given, margin_fits, margin_fits_height, margin_is}
use Rattle.atlas_search.proofs.SearchLemmas.BestMargins.{margin_is_height}
use Rattle.atlas_model.specs.declared.geometry.Rectangle.{Rectangle}
use Rattle.atlas_search.proofs.choice.margin_in.Goals as goal

pub spare-width-requires : goal.spare-width-requires
spare-width-requires c =
    let r = c.args.rectangle in
    let a : FitsSigned w32 r.min.x = search rules in
    let b : FitsSigned w32 r.max.x = search rules in
    let d : FitsSigned w32 c.args.size.width = search rules in
    let its = stretch_given r.min.x r.max.x _ _ (ap (λ (q : Rectangle). q.min.x) c.requires.unsigned)
    (ap (λ (q : Rectangle). q.max.x) c.requires.unsigned) c.requires.nonempty.0 in
    simp to_z-of_z (record { unsigned = its.0; nonempty = its.1; positive = positive_given c.args.size.width c.requires.positive.0 })

pub spare-height-requires : goal.spare-height-requires
spare-height-requires c =
    let r = c.args.rectangle in
    let a : FitsSigned w32 r.min.y = search rules in
    let b : FitsSigned w32 r.max.y = search rules in
    let d : FitsSigned w32 c.args.size.height = search rules in
    let its = stretch_given r.min.y r.max.y _ _ (ap (λ (q : Rectangle). q.min.y) c.requires.unsigned)
    (ap (λ (q : Rectangle). q.max.y) c.requires.unsigned) c.requires.nonempty.1 in
    simp to_z-of_z (record { unsigned = its.0; nonempty = its.1; positive = positive_given c.args.size.height c.requires.positive.1 })

pub returns-then-width-height : goal.returns-then-width-height
returns-then-width-height c =
    let rectangle = c.args.rectangle in
    let size = c.args.size in
    let w = c.spare-width.result in
    let h = c.spare-height.result in
    let a : FitsSigned w32 w = search rules in
    let b : FitsSigned w32 h = search rules in
    let d : FitsSigned w32 size.width = search rules in
    let e : FitsSigned w32 size.height = search rules in
    let f : FitsSigned w32 rectangle.min.x = search rules in
    let g : FitsSigned w32 rectangle.min.y = search rules in
    let i : FitsSigned w32 rectangle.max.x = search rules in
    let j : FitsSigned w32 rectangle.max.y = search rules in
    let less : w ≤ℤ h = omega (arith, ints) in
    let width = simp to_z-of_z at c.spare-width.ensures in
    let height = simp to_z-of_z at c.spare-height.ensures in
    simp to_z-of_z (record { fits = margin_fits w h width.fits height.fits less; margin = margin_is w h _ _ width.value height.value less })

pub returns-else-width-height : goal.returns-else-width-height
returns-else-width-height c =
    let rectangle = c.args.rectangle in
    let size = c.args.size in
    let w = c.spare-width.result in
    let h = c.spare-height.result in
    let a : FitsSigned w32 w = search rules in
    let b : FitsSigned w32 h = search rules in
    let d : FitsSigned w32 size.width = search rules in
    let e : FitsSigned w32 size.height = search rules in
    let f : FitsSigned w32 rectangle.min.x = search rules in
    let g : FitsSigned w32 rectangle.min.y = search rules in
    let i : FitsSigned w32 rectangle.max.x = search rules in
    let j : FitsSigned w32 rectangle.max.y = search rules in
    let less : h ≤ℤ w = omega (arith, ints) in
    let width = simp to_z-of_z at c.spare-width.ensures in
    let height = simp to_z-of_z at c.spare-height.ensures in
    simp to_z-of_z (record {
      fits = margin_fits_height w h width.fits height.fits less;
      margin =
          margin_is_height w h _ _ width.value height.value less;
    })
