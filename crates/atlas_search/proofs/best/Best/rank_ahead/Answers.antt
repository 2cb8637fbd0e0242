use Rattle.std.proofs.Common.{◌≤ℤ◌, ◌∙◌, pos, FitsSigned, w32, rules, arith, subst, sym}
use Rattle.std.proofs.lemmas.Int.{to_z-of_z, ints}
use Rattle.std.proofs.lemmas.Bool.{true≢false}
use Rattle.atlas_model.specs.Boxes.{Sides, Fits, box_sides}
use Rattle.atlas_model.specs.Pixels.{box_of}
use Rattle.atlas_search.specs.Searches.{shown_at}
use Rattle.atlas_search.proofs.SearchLemmas.Bests.{asked, ranked-ahead, ranked-behind, seen-unfit}
use Rattle.atlas_search.proofs.best.Best.rank_ahead.Goals as goal

pub returns-then-margin-lt0-clause-passed : goal.returns-then-margin-lt0-clause-passed
returns-then-margin-lt0-clause-passed c none is_large r shown seen at =
    let s = c.args.self.now in
    let P : Sides → Type 0 = λ q. Fits q (box_sides (box_of c.args.rectangle)) in
    let m = c.margin_in-margin.result in
    let f : FitsSigned w32 m = search rules in
    seen-unfit s is_large r shown seen (shown_at (box_of c.args.rectangle) at)
    (λ fits. let h : pos 0 ≤ℤ m = c.margin_in-margin.ensures.fits.1 (subst P (sym (asked s is_large r shown seen)) fits) in
    omega (arith, ints))

pub returns-then-is_beaten_by-clause-taken : goal.returns-then-is_beaten_by-clause-taken
returns-then-is_beaten_by-clause-taken c is_large r shown seen at =
    let m = c.margin_in-margin.result in
    let f : FitsSigned w32 m = search rules in
    let h : pos 0 ≤ℤ m = omega (arith, ints) in
    let ranked = c.rank-rank.ensures c.args.self.now.is_large c.args.self.now.flipped in
    ranked-ahead c.args.self.now is_large r shown seen c.args.rectangle c.args.corner (search rules) (search rules) c.requires.corner m
    c.rank-rank.result
    (c.margin_in-margin.ensures.fits.0 h) (c.margin_in-margin.ensures.margin h) (simp to_z-of_z at ranked) at
    (c.is_beaten_by.ensures.0 c.if-is_beaten_by.true)

pub returns-else-is_beaten_by-clause-passed : goal.returns-else-is_beaten_by-clause-passed
returns-else-is_beaten_by-clause-passed c none is_large r shown seen at =
    let m = c.margin_in-margin.result in
    let f : FitsSigned w32 m = search rules in
    let h : pos 0 ≤ℤ m = omega (arith, ints) in
    let ranked = c.rank-rank.ensures c.args.self.now.is_large c.args.self.now.flipped in
    ranked-behind c.args.self.now is_large r shown seen c.args.rectangle c.args.corner (search rules) (search rules) c.requires.corner m
    c.rank-rank.result
    (c.margin_in-margin.ensures.fits.0 h) (c.margin_in-margin.ensures.margin h) (simp to_z-of_z at ranked) at
    (λ p. absurd (true≢false (sym (c.is_beaten_by.ensures.1 p) ∙ c.if-is_beaten_by.false)))
