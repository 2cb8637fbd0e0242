-- Worked examples of the choice of a free box.
use Rattle.std.specs.Prelude.{ℕ, pos, negsuc, List, [], ◌∷◌}
use Rattle.atlas_model.specs.Boxes.{Box}
use Rattle.atlas_model.specs.Choice.{Options, IsPick}
use Rattle.atlas_model.specs.Laws.Examples.{sides, box}

-- The options that a creation takes by default.
abbrev pub default_options : Options
default_options = record { alignment = sides 1 1; small_threshold = pos 32; large_threshold = pos 256 }

-- Each box is large by these.
abbrev pub large_options : Options
large_options = record { alignment = sides 1 1; small_threshold = negsuc 4; large_threshold = negsuc 0 }

-- With the default options a request of these sides takes this one of the free boxes.
abbrev pub IsDefaultPick : (width height : ℕ) → List Box → Box → Type 0
IsDefaultPick width height free f = IsPick free default_options (sides width height) f

-- Three boxes of 20x20.
abbrev pub alike_boxes : List Box
alike_boxes = box 0 50 20 70 ∷ box 50 0 70 20 ∷ box 30 0 50 20 ∷ []

-- Of 300x400, 310x310 and 500x500.
abbrev pub large_boxes : List Box
large_boxes = box 0 0 300 400 ∷ box 0 400 310 710 ∷ box 400 0 900 500 ∷ []

-- Of 9x9, 40x40 and 10x300.
abbrev pub mixed_boxes : List Box
mixed_boxes = box 0 50 9 59 ∷ box 0 0 40 40 ∷ box 100 0 110 300 ∷ []
