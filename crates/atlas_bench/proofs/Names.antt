-- A line that spells a job has one name and one size.
use Rattle.std.proofs.Common.{◌≡◌, ℕ, List, ◌∷◌, ◌++◌, true, refl}
use Rattle.atlas_words.specs.Words.{BeginsWithWord}
use Rattle.atlas_words.proofs.Keywords.{has_no_space, no_space_by_test}
use Rattle.atlas_words.proofs.PartedWords.{one_word}
use Rattle.atlas_bench.specs.declared.workload.Workload.{Workload}
use Rattle.atlas_bench.specs.declared.workload.Workload.TheVariants.{Glyph, Record, Sprite, SortedSprite, Column}
use Rattle.atlas_bench.specs.declared.workload.Workload.TheVariants.{Search, Growth, Rearrange, Glyph1024, Glyph4096}
use Rattle.atlas_bench.specs.declared.workload.Workload.TheVariants.{Glyph8192, Glyph16384, Mixed4096, Tiles, Sheet}
use Rattle.atlas_bench.specs.declared.workload.Workload.TheVariants.{Sheet16384, Cache}
use Rattle.atlas_bench.specs.Names.{name}

name_test : (w : Workload) → has_no_space (name w) ≡ true
unfolding has_no_space
name_test Glyph = refl
name_test Record = refl
name_test Sprite = refl
name_test SortedSprite = refl
name_test Column = refl
name_test Search = refl
name_test Growth = refl
name_test Rearrange = refl
name_test Glyph1024 = refl
name_test Glyph4096 = refl
name_test Glyph8192 = refl
name_test Glyph16384 = refl
name_test Mixed4096 = refl
name_test Tiles = refl
name_test Sheet = refl
name_test Sheet16384 = refl
name_test Cache = refl

-- The first word of a line that begins with a name and a space is that name.
pub name_first : (w : Workload) (line word rest digits : List ℕ) → BeginsWithWord line word rest
    → line ≡ name w ++ 32 ∷ digits → (word ≡ name w) × (rest ≡ 32 ∷ digits)
name_first w line word rest digits begins e =
    one_word line word rest (name w) (32 ∷ digits) begins (record {
      whole = e;
      no_space = no_space_by_test (name w) (name_test w);
      spaced =
          refl;
    })
