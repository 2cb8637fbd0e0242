use Rattle.std.proofs.Common.{◌+◌, ◌∙◌, inl, inr, sym, arith}
use Rattle.std.proofs.lemmas.Bool.{cases_lt, true≢false}
use Rattle.atlas_model.specs.Boxes.{box_sides}
use Rattle.atlas_model.specs.Pixels.{options_of}
use Rattle.atlas_search.proofs.SearchLemmas.BandLaws.{band_mono}
use Rattle.atlas_search.proofs.SearchLemmas.NearColumns.{all-near}
use Rattle.atlas_search.proofs.SearchLemmas.SearchesBefore.{below-marked, marked-below}
use Rattle.atlas_search.proofs.search.columns_near.Goals as goal

pub returns-in_default : goal.returns-in_default
returns-in_default c = all-near (options_of c.args.options.now) c.args.row c.args.columns c.args.best.now

pub returns-then-row-place : goal.returns-then-row-place
returns-then-row-place c = all-near (options_of c.args.options.now) c.args.row c.args.columns c.args.best.now

pub returns : goal.returns
returns c =
    let o = options_of c.args.options.now in
    let place = c.place_for-place in
    record {
      inside = λ j h. (below-marked c.args.columns c.below.result (place.result.column + 1) j c.below.ensures h).0;
      others = λ is_large r shown more seen far. c.in-Some.ensures.far is_large r shown more seen (λ d has.
          let f = far d has in (
            elim (cases_lt _ (box_sides d.box).width) [
              | inl l ↦ l
              | inr g ↦ absurd (omega (arith, band_mono o _ _ g, f.in_row, place.ensures.row, c.if-row-place.false))
            ],
            elim (cases_lt _ (box_sides d.box).height) [
              | inl l ↦ l
              | inr g ↦
                  let column = band_mono o _ _ g in
                  let near = marked-below c.args.columns c.below.result (place.result.column + 1) _ c.below.ensures f.in_column
                  (omega (arith, column, place.ensures.column)) in
                  absurd (true≢false (sym near ∙ f.is_far))
            ],
          ));
    }
