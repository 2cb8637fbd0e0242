-- The glyphs of the cache of textures.
use Rattle.std.specs.Prelude.{ℕ, ◌+◌, ◌-◌, ◌*◌, ◌/◌, ◌%◌, ◌^◌, pos}
use Rattle.guillotiere.specs.declared.Size.{Size}
use Rattle.atlas_bench.specs.SplitMix.{next_state, number_below}

-- The rank of the glyph that is drawn next, of 10,000: one step picks an octave, a second one a rank within it.
abbrev pub drawn_rank : (state : ℕ) → ℕ
drawn_rank state =
    let first = 2 ^ number_below state 14 in
    (first - 1 + number_below (next_state state) first) % 10000

-- Its key: an odd factor gives each rank one of its own.
abbrev pub drawn_key : (state : ℕ) → ℕ
drawn_key state = drawn_rank state * 0x9e3779b1 % 2 ^ 32

-- The size of the glyph of a key: its sides are from 8 to 40 pixels.
abbrev pub glyph_size : (key : ℕ) → Size
glyph_size key = record { width = pos (8 + key / 2 ^ 3 % 33); height = pos (8 + key / 2 ^ 17 % 33) }
