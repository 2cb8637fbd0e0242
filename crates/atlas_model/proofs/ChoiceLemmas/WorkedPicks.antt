-- Picks and rearrangings by computation.
use Rattle.std.proofs.Common.{refl, arith}
use Rattle.atlas_model.specs.Choice.{IsPick}
use Rattle.atlas_model.specs.Laws.Examples.{sides, box}
use Rattle.atlas_model.specs.Laws.ChoiceExamples.{default_options, large_options, IsDefaultPick, alike_boxes, large_boxes, mixed_boxes}
use Rattle.atlas_model.proofs.ChoiceLemmas.PickExistence.{pick_by_keys}

pub tie : IsDefaultPick 10 10 alike_boxes (box 30 0 50 20)
tie = pick_by_keys alike_boxes default_options (sides 10 10) (box 30 0 50 20) (2, omega arith, refl) refl refl

pub equal_side : IsDefaultPick 300 300 large_boxes (box 0 0 300 400)
equal_side = pick_by_keys large_boxes default_options (sides 300 300) (box 0 0 300 400) (0, omega arith, refl) refl refl

pub large : IsDefaultPick 301 301 large_boxes (box 400 0 900 500)
large = pick_by_keys large_boxes default_options (sides 301 301) (box 400 0 900 500) (2, omega arith, refl) refl refl

pub medium : IsDefaultPick 100 250 large_boxes (box 0 400 310 710)
medium = pick_by_keys large_boxes default_options (sides 100 250) (box 0 400 310 710) (1, omega arith, refl) refl refl

pub class_above : IsDefaultPick 10 10 mixed_boxes (box 0 0 40 40)
class_above = pick_by_keys mixed_boxes default_options (sides 10 10) (box 0 0 40 40) (1, omega arith, refl) refl refl

pub all_large : IsPick mixed_boxes large_options (sides 10 10) (box 100 0 110 300)
all_large = pick_by_keys mixed_boxes large_options (sides 10 10) (box 100 0 110 300) (2, omega arith, refl) refl refl

pub ruleset worked_picks = (tie, equal_side, large, medium, class_above, all_large)
