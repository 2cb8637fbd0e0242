-- The tables of steps and of usual bands against their definitions, at each side.
use Rattle.std.proofs.Common.{◌≡◌, ℕ, ◌+◌, ◌<◌, ◌≤◌, min, pos, true, ◌==◌, get_or, refl, arith}
use Rattle.std.proofs.lemmas.Bool.{agree_below_at, eqb-true, ltb-true, le-leb, le-ltb, cond-false, cond-true}
use Rattle.atlas_search.specs.declared.bands.TheConstants.{STEPS, USUAL_BANDS}
use Rattle.atlas_model.specs.Choice.{Options}
use Rattle.atlas_search.specs.Bands.{band_of, passes, step_of}
use Rattle.atlas_search.specs.Lookups.{AreUsual}

-- From 256 on there is one step.
pub step_of-last : (n : ℕ) → 256 ≤ n → step_of n ≡ 49
unfolding step_of
step_of-last n l = grind (arith, cond-false, le-ltb)

table_is : (n : ℕ) → n < 257 → get_or STEPS n 0 ≡ step_of n
unfolding step_of
table_is n l = eqb-true (get_or STEPS n 0) (step_of n) (agree_below_at (λ k. get_or STEPS k 0 == step_of k) (λ k. true) 257 n refl l)

pub step_is : (n : ℕ) → get_or STEPS (min n 256) 0 ≡ step_of n
step_is n = grind (arith, table_is, step_of-last)

pub step_of-most : (n : ℕ) → step_of n ≤ 49
unfolding step_of
step_of-most n = grind (arith, ltb-true)

-- The band of a side with the usual thresholds.
abbrev usual_of : ℕ → ℕ
usual_of n = step_of n + passes (pos 32) n + passes (pos 256) n

usual_table : (n : ℕ) → n < 257 → get_or USUAL_BANDS n 0 ≡ usual_of n
unfolding step_of
usual_table n l = eqb-true (get_or USUAL_BANDS n 0) (usual_of n) (agree_below_at (λ k. get_or USUAL_BANDS k 0 == usual_of k) (λ k. true) 257
    n refl l)

usual-last : (n : ℕ) → 256 ≤ n → usual_of n ≡ 51
usual-last n l = grind (arith, step_of-last, cond-true, le-leb)

usual-is : (n : ℕ) → get_or USUAL_BANDS (min n 256) 0 ≡ usual_of n
usual-is n = grind (arith, usual_table, usual-last)

pub usual_band-is : (o : Options) (n : ℕ) → AreUsual o → get_or USUAL_BANDS (min n 256) 0 ≡ band_of o n
unfolding band_of
usual_band-is o n usual = grind (arith, usual-is)

pub usual_band-most : (n : ℕ) → get_or USUAL_BANDS (min n 256) 0 < 52
usual_band-most n = grind (arith, usual-is, step_of-most, ltb-true)
