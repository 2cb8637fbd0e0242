-- The workloads: their names and their greatest sizes.
use Rattle.std.specs.Prelude.{ℕ, List, codes}
use Rattle.atlas_bench.specs.declared.workload.Workload.{Workload}
use Rattle.atlas_bench.specs.declared.workload.Workload.TheVariants.{Glyph, Record, Sprite, SortedSprite, Column}
use Rattle.atlas_bench.specs.declared.workload.Workload.TheVariants.{Search, Growth, Rearrange, Glyph1024, Glyph4096}
use Rattle.atlas_bench.specs.declared.workload.Workload.TheVariants.{Glyph8192, Glyph16384, Mixed4096, Tiles, Sheet}
use Rattle.atlas_bench.specs.declared.workload.Workload.TheVariants.{Sheet16384, Cache}

-- The name of a workload.
abbrev pub name : Workload → List ℕ
name Glyph = codes "glyph"
name Record = codes "record"
name Sprite = codes "sprite"
name SortedSprite = codes "sprite-sorted"
name Column = codes "column"
name Search = codes "search"
name Growth = codes "growth"
name Rearrange = codes "rearrange"
name Glyph1024 = codes "glyph-1024"
name Glyph4096 = codes "glyph-4096"
name Glyph8192 = codes "glyph-8192"
name Glyph16384 = codes "glyph-16384"
name Mixed4096 = codes "mixed-4096"
name Tiles = codes "tiles"
name Sheet = codes "sheet"
name Sheet16384 = codes "sheet-16384"
name Cache = codes "cache"

-- Its greatest size.
abbrev pub most_size : Workload → ℕ
most_size Glyph = 1000000000
most_size Record = 10000000
most_size Sprite = 1000000
most_size SortedSprite = 1000000
most_size Column = 8000000
most_size Search = 1000000000
most_size Growth = 32768
most_size Rearrange = 1000000000
most_size Glyph1024 = 1000000000
most_size Glyph4096 = 1000000000
most_size Glyph8192 = 1000000000
most_size Glyph16384 = 1000000000
most_size Mixed4096 = 1000000000
most_size Tiles = 1000000000
most_size Sheet = 1000000
most_size Sheet16384 = 1000000
most_size Cache = 1000000000
