-- Worked rearrangings and a worked run, by computation.
use Rattle.std.proofs.Common.{[], ◌∷◌, refl, inl, inr, arith}
use Rattle.std.proofs.lemmas.List.Elements.{All-nil, All-cons}
use Rattle.std.proofs.lemmas.List.Sorted.{IsPermutation-sym, IsPermutation-middle}
use Rattle.atlas_model.specs.Changes.{fresh, place, only}
use Rattle.atlas_model.specs.Laws.ChoiceExamples.{default_options}
use Rattle.atlas_model.specs.Laws.Examples.{sides, box}
use Rattle.atlas_model.specs.Laws.RefitExamples.{three_boxes, three_within, three_in_order, three_moved, moved_tree}
use Rattle.atlas_model.specs.Laws.RefitExamples.{one_older, five_calls, five_replies, after_five}
use Rattle.atlas_model.specs.Refits.{Precedes, IsRanked, Refits, RefitPasses, IsRefitOrder, CanRefit, CannotRefit}
use Rattle.atlas_model.specs.Refits.{no_changes}
use Rattle.atlas_model.specs.Runs.{Run}
use Rattle.atlas_model.specs.States.{State, after_placing, after_freeing, after_growth, after_refit}
use Rattle.atlas_model.specs.Steps.{Step}
use Rattle.atlas_model.specs.Steps.AtlasCall.{Allocate, Rearrange}
use Rattle.atlas_model.specs.Steps.AtlasReply.{Allocated, Changed, Refused}
use Rattle.atlas_model.specs.Trees.{Tree, Grant, grant, live}
use Rattle.atlas_model.specs.declared.error.AtlasError.TheVariants.{Slots}
use Rattle.atlas_model.proofs.ChoiceLemmas.PickExistence.{pick_by_keys, no_room_by_test}

pub three_ordered : IsRefitOrder (live (sides 10 10) three_boxes) three_in_order
three_ordered = record {
  permuted = IsPermutation-sym three_in_order (live (sides 10 10) three_boxes)
      (IsPermutation-middle (grant 3 (box 0 3 5 10) ∷ grant 2 (box 5 3 10 10) ∷ []) (grant 0 (box 0 0 10 3)) []);
  ranked = (
    All-cons (Precedes (grant 3 (box 0 3 5 10))) (grant 2 (box 5 3 10 10)) (grant 0 (box 0 0 10 3) ∷ []) (inr (refl, omega arith))
        (All-cons (Precedes (grant 3 (box 0 3 5 10))) (grant 0 (box 0 0 10 3)) [] (inl (omega arith))
        (All-nil (Precedes (grant 3 (box 0 3 5 10))))),
    (
      All-cons (Precedes (grant 2 (box 5 3 10 10))) (grant 0 (box 0 0 10 3)) [] (inl (omega arith))
          (All-nil (Precedes (grant 2 (box 5 3 10 10)))),
      (All-nil (Precedes (grant 0 (box 0 0 10 3))), tt),
    ),
  );
}

-- The first of the three moved.
abbrev one_moved : Tree
one_moved = place (sides 10 10) (box 0 0 10 10) (sides 5 7) 3 (fresh (sides 10 10))

first_fits : CanRefit (sides 10 10) default_options (fresh (sides 10 10)) (grant 3 (box 0 3 5 10)) (box 0 0 10 10)
first_fits = grind arith

second_fits : CanRefit (sides 10 10) default_options one_moved (grant 2 (box 5 3 10 10)) (box 5 0 10 10)
second_fits = grind arith

third_fails : CannotRefit (sides 10 10) default_options moved_tree (grant 0 (box 0 0 10 3))
third_fails = no_room_by_test (box 0 7 5 10 ∷ box 5 7 10 10 ∷ []) default_options (sides 10 3) refl

pub refit_of_three : Refits (sides 10 10) default_options 7 (fresh (sides 10 10)) three_in_order three_moved moved_tree
refit_of_three =
    inl (
      box 0 0 10 10,
      3,
      record {
        changes = record { old = grant 2 (box 5 3 10 10); new = grant 6 (box 5 0 10 7) } ∷ [];
        failures = grant 0 (box 0 0 10 3) ∷ [];
      },
      first_fits,
      refl,
      omega arith,
      refl,
      inl (
        box 5 0 10 10,
        6,
        record { changes = []; failures = grant 0 (box 0 0 10 3) ∷ [] },
        second_fits,
        refl,
        omega arith,
        refl,
        inr (no_changes, third_fails, refl, (refl, refl)),
      ),
    )

pub passes_four : RefitPasses (sides 10 10) default_options 4 (fresh (sides 10 10)) three_in_order
passes_four = inl (box 0 0 10 10, first_fits, omega arith)

pub passes_five : RefitPasses (sides 10 10) default_options 5 (fresh (sides 10 10)) three_in_order
passes_five = grind (arith, first_fits, second_fits)

pub passes_six : RefitPasses (sides 10 10) default_options 6 (fresh (sides 10 10)) three_in_order
passes_six = grind (arith, first_fits, second_fits)

pub three_step : Step
    (three_within 7) Rearrange (Changed three_moved) (after_refit (three_within 7) (sides 10 10) moved_tree)
three_step = ((omega arith, omega arith), three_in_order, moved_tree, three_ordered, refit_of_three, refl)

pub three_refused : Step (three_within 4) Rearrange (Refused Slots) (three_within 4)
three_refused = ((omega arith, omega arith), three_in_order, three_ordered, passes_four, refl)

pub two_ranked : (g h : Grant) → Precedes g h → IsRanked (g ∷ h ∷ [])
two_ranked g h before = (All-cons (Precedes g) h [] before (All-nil (Precedes g)), (All-nil (Precedes h), tt))

pub capped_order : IsRanked (grant 1 (box 0 40000 100000 70000) ∷ grant 0 (box 0 0 100000 40000) ∷ [])
capped_order = grind arith

pub order_by_slot : IsRanked (grant 16777219 (box 0 3 5 10) ∷ grant 50331650 (box 5 3 10 10) ∷ [])
order_by_slot = two_ranked (grant 16777219 (box 0 3 5 10)) (grant 50331650 (box 5 3 10 10)) (inr (refl, omega arith))

-- The run.

abbrev first_granted : State
first_granted = after_placing one_older (box 0 4 10 10) (sides 10 2) 4

abbrev second_granted : State
second_granted = after_placing first_granted (box 0 6 10 10) (sides 10 1) 5

abbrev first_freed : State
first_freed = after_freeing second_granted (only 4)

abbrev older_freed : State
older_freed = after_freeing first_freed (only 7)

first_step : Step one_older (Allocate (sides 10 2)) (Allocated (grant 4 (box 0 4 10 6))) first_granted
first_step = (
  box 0 4 10 10,
  record {
    takes = record {
      positive = (omega arith, omega arith);
      pick = pick_by_keys (box 0 4 10 10 ∷ []) default_options (sides 10 2) (box 0 4 10 10) (0, omega arith, refl) refl refl;
    };
    room = omega arith;
    unused = refl;
    box = refl;
    state = refl;
  },
)

second_step : Step first_granted (Allocate (sides 10 1)) (Allocated (grant 5 (box 0 6 10 7))) second_granted
second_step = (
  box 0 6 10 10,
  record {
    takes = record {
      positive = (omega arith, omega arith);
      pick = pick_by_keys (box 0 6 10 10 ∷ []) default_options (sides 10 1) (box 0 6 10 10) (0, omega arith, refl) refl refl;
    };
    room = omega arith;
    unused = refl;
    box = refl;
    state = refl;
  },
)

pub five_run : Run one_older five_calls five_replies after_five
five_run = (
  first_granted,
  first_step,
  (
    second_granted,
    second_step,
    (
      first_freed,
      ((1, omega arith, refl), refl),
      (
        older_freed,
        ((0, omega arith, refl), refl),
        (after_growth older_freed (sides 10 12), ((omega arith, omega arith), omega arith, refl), refl),
      ),
    ),
  ),
)

pub ruleset worked_refits = (
  three_ordered,
  capped_order,
  order_by_slot,
  refit_of_three,
  passes_four,
  passes_five,
  passes_six,
  three_step,
  three_refused,
)
