-- Sums over the numbers below one.
use Rattle.std.proofs.Common.{◌≡◌, ℕ, zero, suc, ◌+◌, ◌<◌, refl, arith}

-- What counts of the numbers below m add up to.
unfoldable pub sums : (ℕ → ℕ) → ℕ → ℕ
sums f zero = 0
sums f (suc m) = f m + sums f m

pub sums-add : (f g : ℕ → ℕ) (m : ℕ) → sums (λ i. f i + g i) m ≡ sums f m + sums g m
unfolding sums
sums-add f g zero = refl
sums-add f g (suc m) = omega (arith, sums-add f g m)

pub sums-all : (f : ℕ → ℕ) (m : ℕ) → ((i : ℕ) → i < m → f i ≡ 1) → sums f m ≡ m
unfolding sums
sums-all f zero one = refl
sums-all f (suc m) one = omega (arith, one m (omega arith), sums-all f m (λ i l. one i (omega arith)))

pub sums-none : (f : ℕ → ℕ) (m : ℕ) → ((i : ℕ) → i < m → f i ≡ 0) → sums f m ≡ 0
unfolding sums
sums-none f zero none = refl
sums-none f (suc m) none = omega (arith, none m (omega arith), sums-none f m (λ i l. none i (omega arith)))
