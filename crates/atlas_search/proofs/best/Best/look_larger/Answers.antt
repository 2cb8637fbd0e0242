use Rattle.std.proofs.Common.{◌∙◌, FitsSigned, w32, rules, sym, inr}
use Rattle.std.proofs.lemmas.Int.{to_z-of_z}
use Rattle.std.proofs.lemmas.Bool.{true≢false}
use Rattle.atlas_search.proofs.SearchLemmas.Bests.{larger-ahead, larger-behind}
use Rattle.atlas_search.proofs.best.Best.look_larger.Goals as goal

pub returns-after-self : goal.returns-after-self
returns-after-self c is_large r shown larger seen =
    let m = c.margin_in.result in
    let f : FitsSigned w32 m = search rules in
    let ranked = c.rank_above_zero-rank.ensures.rank c.args.self.now.is_large c.args.self.now.flipped in
    record {
      positive = seen.positive;
      size = seen.size;
      large = seen.large;
      best = inr (larger-ahead c.args.self.now is_large r shown seen c.args.rectangle c.args.corner (search rules) (search rules)
          c.requires.corner larger m c.rank_above_zero-rank.result c.margin_in.ensures.fits c.margin_in.ensures.margin
          (simp to_z-of_z at ranked) c.args.at.number (c.is_beaten_by.ensures.0 c.if-is_beaten_by.true));
    }

pub returns-else-is_beaten_by : goal.returns-else-is_beaten_by
returns-else-is_beaten_by c is_large r shown larger seen =
    let m = c.margin_in.result in
    let f : FitsSigned w32 m = search rules in
    let ranked = c.rank_above_zero-rank.ensures.rank c.args.self.now.is_large c.args.self.now.flipped in
    larger-behind c.args.self.now is_large r shown seen c.args.rectangle c.args.corner (search rules) (search rules)
    c.requires.corner larger m c.rank_above_zero-rank.result c.margin_in.ensures.fits c.margin_in.ensures.margin
    (simp to_z-of_z at ranked) c.args.at.number
    (λ p. absurd (true≢false (sym (c.is_beaten_by.ensures.1 p) ∙ c.if-is_beaten_by.false)))
