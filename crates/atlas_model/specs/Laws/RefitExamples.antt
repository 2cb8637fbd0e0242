-- Worked examples of rearrangings and of what a run leaves.
use Rattle.std.specs.Prelude.{ℕ, List, [], ◌∷◌}
use Rattle.atlas_model.specs.Boxes.{Axis}
use Rattle.atlas_model.specs.Trees.{Members, Tree, Grant, grant}
use Rattle.atlas_model.specs.Trees.Members.{End, Free, Alloc}
use Rattle.atlas_model.specs.Changes.{fresh, place}
use Rattle.atlas_model.specs.States.{State}
use Rattle.atlas_model.specs.Refits.{Rearrangement}
use Rattle.atlas_model.specs.Steps.{AtlasCall, AtlasReply}
use Rattle.atlas_model.specs.Steps.AtlasCall.{Allocate, Deallocate, Grow}
use Rattle.atlas_model.specs.Steps.AtlasReply.{Allocated, Done}
use Rattle.atlas_model.specs.Runs.{Since}
use Rattle.atlas_model.specs.Laws.RunLaws.{since_run}
use Rattle.atlas_model.specs.Laws.Examples.{sides, box}
use Rattle.atlas_model.specs.Laws.ChoiceExamples.{default_options}

-- 10x3, and 5x7 twice, in a fresh 10x10.
abbrev pub three_boxes : Tree
three_boxes =
    place (sides 10 10) (box 5 3 10 10) (sides 5 7) 2
    (place (sides 10 10) (box 0 3 10 10) (sides 5 7) 3
    (place (sides 10 10) (box 0 0 10 10) (sides 10 3) 0 (fresh (sides 10 10))))

abbrev pub three_within : (limit : ℕ) → State
three_within limit =
    record { tree = three_boxes; size = sides 10 10; options = default_options; limit = limit; kept = 4 }

-- The larger ones come first, of these the greater slot.
abbrev pub three_in_order : List Grant
three_in_order = grant 3 (box 0 3 5 10) ∷ grant 2 (box 5 3 10 10) ∷ grant 0 (box 0 0 10 3) ∷ []

-- The two of 5x7 stand side by side then, and 10x3 has no room.
abbrev pub three_moved : Rearrangement
three_moved =
    record {
      changes =
          record { old = grant 3 (box 0 3 5 10); new = grant 3 (box 0 0 5 7) }
          ∷ record { old = grant 2 (box 5 3 10 10); new = grant 6 (box 5 0 10 7) } ∷ [];
      failures = grant 0 (box 0 0 10 3) ∷ [];
    }

abbrev pub moved_tree : Tree
moved_tree =
    place (sides 10 10) (box 5 0 10 10) (sides 5 7) 6
    (place (sides 10 10) (box 0 0 10 10) (sides 5 7) 3 (fresh (sides 10 10)))

abbrev pub upright : Members → Tree
upright members = record { axis = Axis.Vertical; members = members }

-- An atlas of 10x10 with one older grant of 10x4.
abbrev pub one_older : State
one_older =
    record {
      tree = upright (Alloc 7 4 (Free 6 End));
      size = sides 10 10;
      options = default_options;
      limit = 9;
      kept = 2;
    }

-- Two grants, a freeing of the first and of the older one, and a growth.
abbrev pub five_calls : List AtlasCall
five_calls = Allocate (sides 10 2) ∷ Allocate (sides 10 1) ∷ Deallocate 4 ∷ Deallocate 7 ∷ Grow (sides 10 12) ∷ []

abbrev pub five_replies : List AtlasReply
five_replies =
    Allocated (grant 4 (box 0 4 10 6)) ∷ Allocated (grant 5 (box 0 6 10 7)) ∷ Done ∷ Done ∷ Done ∷ []

abbrev pub after_five : State
after_five =
    record {
      tree = upright (Free 6 (Alloc 5 1 (Free 5 End)));
      size = sides 10 12;
      options = default_options;
      limit = 9;
      kept = 4;
    }

abbrev pub since_five : Since
since_five = since_run one_older five_calls five_replies
