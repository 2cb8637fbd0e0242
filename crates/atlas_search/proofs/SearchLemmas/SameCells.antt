-- Sizes of one list have one cell.
use Rattle.std.proofs.Common.{◌≡◌, ℕ, ◌<◌, ◌≤◌, ◌⊎◌, ap, sym, ◌∙◌, inl, inr, arith}
use Rattle.std.proofs.lemmas.Bool.{ltb-true, ltb-false}
use Rattle.atlas_model.specs.Boxes.{Sides}
use Rattle.atlas_model.specs.Choice.{Options}
use Rattle.atlas_search.specs.Bands.{band_of, list_of, step_of}
use Rattle.atlas_search.specs.Forks.{cell_of, end_of, first_of}
use Rattle.atlas_search.proofs.SearchLemmas.BandLaws.{band_below, passes-le, step_of-le}

first-same : (a b : ℕ) → 0 < a → 0 < b → step_of a ≡ step_of b → first_of a ≡ first_of b
unfolding step_of first_of
first-same a b pa pb e = grind (arith, ltb-true, ltb-false)

end-same : (a b : ℕ) → 0 < a → 0 < b → step_of a ≡ step_of b → end_of a ≡ end_of b
unfolding step_of end_of
end-same a b pa pb e = grind (arith, ltb-true, ltb-false)

step-under : (o : Options) (a b : ℕ) → a ≤ b → band_of o a ≡ band_of o b → step_of a ≡ step_of b
unfolding band_of
step-under o a b l e = omega (arith, e, step_of-le a b l, passes-le o.small_threshold a b l, passes-le o.large_threshold a b l)

order : (a b : ℕ) → (a ≤ b) ⊎ (b ≤ a)
order a b = grind arith

step-same : (o : Options) (a b : ℕ) → band_of o a ≡ band_of o b → step_of a ≡ step_of b
step-same o a b e = elim (order a b) [ inl l ↦ step-under o a b l e | inr l ↦ sym (step-under o b a l (sym e)) ]

pub cell-same : (o : Options) (s t : Sides) → 0 < s.width → 0 < s.height → 0 < t.width → 0 < t.height
    → list_of o s ≡ list_of o t → cell_of s ≡ cell_of t
cell-same o s t sw sh tw th e =
    let row : band_of o s.width ≡ band_of o t.width = omega (arith, e, band_below o s.height, band_below o t.height) in
    let column : band_of o s.height ≡ band_of o t.height = omega (arith, e, row) in
    let rows = step-same o s.width t.width row in
    let columns = step-same o s.height t.height column in
    ap (λ n. record { left = n; right = end_of s.width; top = first_of s.height; bottom = end_of s.height })
    (first-same s.width t.width sw tw rows)
    ∙ ap (λ n. record { left = first_of t.width; right = n; top = first_of s.height; bottom = end_of s.height })
    (end-same s.width t.width sw tw rows)
    ∙ ap (λ n. record { left = first_of t.width; right = end_of t.width; top = n; bottom = end_of s.height })
    (first-same s.height t.height sh th columns)
    ∙ ap (λ n. record { left = first_of t.width; right = end_of t.width; top = first_of t.height; bottom = n })
    (end-same s.height t.height sh th columns)
