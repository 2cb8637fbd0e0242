-- The generator splitmix64 (Steele, Lea and Flood). Its state is one number.
use Rattle.std.specs.Prelude.{ℕ, ◌+◌, ◌-◌, ◌*◌, ◌/◌, ◌%◌, ◌^◌, bit_xor, pos}
use Rattle.guillotiere.specs.declared.Size.{Size}

-- The state after a step.
abbrev pub next_state : ℕ → ℕ
next_state state = (state + 0x9e3779b97f4a7c15) % 2 ^ 64

-- z with its high bits folded down by some places, times a factor.
abbrev pub fold_times : ℕ → (places : ℕ) → (factor : ℕ) → ℕ
fold_times z places factor = bit_xor z (z / 2 ^ places) * factor % 2 ^ 64

-- The word that a state gives.
abbrev pub mixed : ℕ → ℕ
mixed state =
    let z = fold_times (fold_times state 30 0xbf58476d1ce4e5b9) 27 0x94d049bb133111eb in
    bit_xor z (z / 2 ^ 31)

-- The number below a bound that a step from this state gives.
abbrev pub number_below : (state bound : ℕ) → ℕ
number_below state bound = mixed (next_state state) / 2 ^ 33 % bound

-- The number from low to high, both included, that a step from this state gives.
abbrev pub number_between : (state low high : ℕ) → ℕ
number_between state low high = low + number_below state (high - low + 1)

-- The size that two steps from this state give, the width first.
abbrev pub size_between : (state low high : ℕ) → Size
size_between state low high =
    record { width = pos (number_between state low high); height = pos (number_between (next_state state) low high) }
