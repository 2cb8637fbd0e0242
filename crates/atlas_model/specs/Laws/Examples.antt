-- Worked examples of trees of cuts.
use Rattle.std.specs.Prelude.{◌≡◌, ℕ, ◌==◌, Bool, ◌||◌, List}
use Rattle.atlas_model.specs.Boxes.{Sides, Box}
use Rattle.atlas_model.specs.Trees.{Tree, Grant, live, free_boxes, node_count}
use Rattle.atlas_model.specs.Changes.{fresh, place, release, grown, only}

abbrev pub sides : (width height : ℕ) → Sides
sides width height = record { width = width; height = height }

-- The box from (left, top) to (right, bottom).
abbrev pub box : (left top right bottom : ℕ) → Box
box left top right bottom = record { min = record { x = left; y = top }; max = record { x = right; y = bottom } }

-- The tree has these live boxes and these free boxes, and so many members.
pub record Shows (size : Sides) (t : Tree) (grants : List Grant) (free : List Box) (members : ℕ) : Type 0 where
  pub live_boxes : live size t ≡ grants
  pub free_boxes_are : free_boxes size t ≡ free
  pub members_used : node_count t.members ≡ members

-- The set of two ids.
abbrev pub both : ℕ → ℕ → ℕ → Bool
both a b id = id == a || id == b

-- 20x60 in a fresh 100x100.
abbrev pub one_corner : Tree
one_corner = place (sides 100 100) (box 0 0 100 100) (sides 20 60) 3 (fresh (sides 100 100))

-- 300x10 in a fresh 310x20: what remains below is larger than what remains to the right.
abbrev pub other_corner : Tree
other_corner = place (sides 310 20) (box 0 0 310 20) (sides 300 10) 2 (fresh (sides 310 20))

-- 50000x100000 in a fresh 200000x200000: both remaining areas are capped, and so count as equal.
abbrev pub capped_corner : Tree
capped_corner =
    place (sides 200000 200000) (box 0 0 200000 200000) (sides 50000 100000) 2 (fresh (sides 200000 200000))

-- 100x100 in a fresh 100x100, grown to 150x150.
abbrev pub grown_full : Tree
grown_full =
    grown (sides 100 100) (sides 150 150)
    (place (sides 100 100) (box 0 0 100 100) (sides 100 100) 0 (fresh (sides 100 100)))

-- 100x60 in a fresh 100x100, grown to 100x150.
abbrev pub grown_below : Tree
grown_below =
    grown (sides 100 100) (sides 100 150)
    (place (sides 100 100) (box 0 0 100 100) (sides 100 60) 0 (fresh (sides 100 100)))

-- 50x50 four times in a fresh 100x100.
abbrev pub quarters : Tree
quarters =
    place (sides 100 100) (box 50 50 100 100) (sides 50 50) 4
    (place (sides 100 100) (box 0 50 100 100) (sides 50 50) 3
    (place (sides 100 100) (box 50 0 100 50) (sides 50 50) 2
    (place (sides 100 100) (box 0 0 100 100) (sides 50 50) 1 (fresh (sides 100 100)))))

-- 300x100, then 100x100 three times, in a fresh 300x200.
abbrev pub row_of_three : Tree
row_of_three =
    place (sides 300 200) (box 200 100 300 200) (sides 100 100) 4
    (place (sides 300 200) (box 100 100 300 200) (sides 100 100) 2
    (place (sides 300 200) (box 0 100 300 200) (sides 100 100) 3
    (place (sides 300 200) (box 0 0 300 200) (sides 300 100) 0 (fresh (sides 300 200)))))

-- The middle one of the three freed and half of it granted again, and then the other two freed.
abbrev pub half_between : Tree
half_between =
    release (both 3 4) (place (sides 300 200) (box 100 100 200 200) (sides 100 50) 5 (release (only 2) row_of_three))
