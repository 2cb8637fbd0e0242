-- Rounding up to a multiple.
use Rattle.std.proofs.Common.{◌≡◌, ℕ, ◌+◌, ◌-◌, ◌/◌, ◌%◌, ◌<◌, ◌≤◌, arith}
use Rattle.std.proofs.Math.Nat.{mul-mod_left, div-zero}
use Rattle.std.proofs.lemmas.Nat.{div-mul-add, div-add-mod', mod_below, le-div}
use Rattle.atlas_model.specs.Boxes.{Sides, Fits, IsPositive}
use Rattle.atlas_model.specs.Choice.{Options, AreValid, up, rounded}
use Rattle.atlas_model.specs.States.{IsAligned}

pub up_least : (n a : ℕ) → 0 < a → n ≤ up n a
up_least n a pos = grind (arith, div-add-mod', mod_below)

pub up_below : (n a : ℕ) → 0 < a → up n a < n + a
up_below n a pos = grind (arith, div-add-mod')

pub up_multiple : (n a : ℕ) → up n a % a ≡ 0
up_multiple n a = mul-mod_left ((n + (a - 1)) / a) a

pub up_same : (n a : ℕ) → 0 < a → n % a ≡ 0 → up n a ≡ n
up_same n a pos h = grind (arith, div-add-mod', div-mul-add)

pub up_positive : (n a : ℕ) → 0 < n → 0 < a → 0 < up n a
up_positive n a pos step = let least : n ≤ up n a = up_least n a step in omega arith

pub up_monotone : (n m a : ℕ) → n ≤ m → up n a ≤ up m a
up_monotone n m a le = grind (arith, div-zero, div-add-mod', le-div)

-- Both sides at once.

pub rounded_positive : (o : Options) (s : Sides) → AreValid o → IsPositive s → IsPositive (rounded o s)
rounded_positive o s valid pos = grind (arith, up_positive)

pub rounded_aligned : (o : Options) (s : Sides) → IsAligned o (rounded o s)
rounded_aligned o s = (up_multiple s.width o.alignment.width, up_multiple s.height o.alignment.height)

pub rounded_same : (o : Options) (s : Sides) → AreValid o → IsAligned o s → rounded o s ≡ s
rounded_same o s valid aligned = grind (arith, up_same)

pub rounded_monotone : (o : Options) (r s : Sides) → Fits r s → Fits (rounded o r) (rounded o s)
rounded_monotone o r s fit = grind (arith, up_monotone)
