-- How many calls the workloads make, and what they draw.
use Rattle.std.specs.Prelude.{◌≡◌, ℕ, ◌+◌, ◌*◌, ◌^◌, ◌<◌, ◌≤◌, nat_lt, if◌then◌else◌}
use Rattle.guillotiere.specs.declared.Size.{Size}
use Rattle.atlas_bench.specs.SplitMix.{next_state, number_below, size_between}
use Rattle.atlas_bench.specs.declared.workload.Workload.{Workload}
use Rattle.atlas_bench.specs.declared.workload.Workload.TheVariants.{Glyph, Record, Sprite, SortedSprite, Column}
use Rattle.atlas_bench.specs.declared.workload.Workload.TheVariants.{Search, Growth, Rearrange, Glyph1024, Glyph4096}
use Rattle.atlas_bench.specs.declared.workload.Workload.TheVariants.{Glyph8192, Glyph16384, Mixed4096, Tiles, Sheet}
use Rattle.atlas_bench.specs.declared.workload.Workload.TheVariants.{Sheet16384, Cache}
use Rattle.atlas_bench.specs.declared.sizes.Kind.{Kind}
use Rattle.atlas_bench.specs.declared.sizes.Kind.TheVariants.{Glyphs, Sprites}

-- A run of it of this size makes so many calls. How many a growth makes is left open, and how many of the 5000 sprites
-- are granted that are rearranged, of which half are freed.
abbrev pub Makes : Workload → (size calls : ℕ) → Type 0
Makes Glyph size calls = calls ≡ size
Makes Record size calls = calls ≡ size
Makes Sprite size calls = calls ≡ size
Makes SortedSprite size calls = calls ≡ size
Makes Column size calls = calls ≡ 2 * size
Makes Search size calls = calls ≡ 600000 + size
Makes Growth size calls = calls < 2 ^ 32
Makes Rearrange size calls = (5000 + size ≤ calls) × (calls ≤ 7500 + size)
Makes Glyph1024 size calls = calls ≡ size
Makes Glyph4096 size calls = calls ≡ size
Makes Glyph8192 size calls = calls ≡ size
Makes Glyph16384 size calls = calls ≡ size
Makes Mixed4096 size calls = calls ≡ size
Makes Tiles size calls = calls ≡ 24576 + size
Makes Sheet size calls = calls ≡ size
Makes Sheet16384 size calls = calls ≡ size
Makes Cache size calls = calls ≡ size

-- The size of the next sprite: of ten six have sides of 16 to 64, three of 32 to 96, one of 64 to 160.
abbrev pub sprite_size : (state : ℕ) → Size
sprite_size state =
    let kind = number_below state 10 in
    let after = next_state state in
    if nat_lt kind 6 then size_between after 16 64
    else if nat_lt kind 9 then size_between after 32 96
    else size_between after 64 160

-- The size of this kind that is drawn next.
abbrev pub drawn_size : Kind → (state : ℕ) → Size
drawn_size Glyphs state = size_between state 8 64
drawn_size Sprites state = sprite_size state

-- The state after it: a size takes two steps, a sprite's one more.
abbrev pub state_after : Kind → (state : ℕ) → ℕ
state_after Glyphs state = next_state (next_state state)
state_after Sprites state = next_state (next_state (next_state state))
