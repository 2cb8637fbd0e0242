use Rattle.std.proofs.Common.{◌<◌, ◌≤◌, subst}
use Rattle.std.proofs.lemmas.Option.{IfSome_then}
use Rattle.guillotiere.specs.Boxes.{Sides}
use Rattle.guillotiere.specs.Pixels.{sides_of}
use Rattle.atlas_sheet.proofs.Maybes.{none_then}
use Rattle.atlas_sheet.proofs.Steps.{halved, height_down, heights_least, heights_next, one_least, powers_least, powers_next, square_down}
use Rattle.atlas_sheet.proofs.Steps.{squares_least, squares_next}
use Rattle.atlas_sheet.proofs.search.smaller_sheet.Goals as goal

pub returns-in-One-clause-none : goal.returns-in-One-clause-none
returns-in-One-clause-none c = one_least c.args.allowed _ (sides_of c.args.size) c.in-One.is c.requires.allowed

pub returns-in-Squares-clause-smaller : goal.returns-in-Squares-clause-smaller
returns-in-Squares-clause-smaller c =
    IfSome_then c.smaller_square.result c.smaller_square.ensures.some (λ t step.
    square_down c.args.allowed _ _ (sides_of c.args.size) (sides_of t) c.in-Squares.is c.requires.allowed c.requires.usable
    (subst (λ (x : Sides). x.width < (sides_of c.args.size).width) c.least.ensures step.0) step.1 step.2)

pub returns-in-Squares-clause-next : goal.returns-in-Squares-clause-next
returns-in-Squares-clause-next c =
    IfSome_then c.smaller_square.result c.smaller_square.ensures.some (λ t step.
    squares_next c.args.allowed _ _ (sides_of c.args.size) (sides_of t) c.in-Squares.is step.2)

pub returns-in-Squares-clause-none : goal.returns-in-Squares-clause-none
returns-in-Squares-clause-none c =
    none_then c.smaller_square.result c.smaller_square.ensures.none (λ few.
    squares_least c.args.allowed _ _ (sides_of c.args.size) c.in-Squares.is c.requires.allowed
    (subst (λ (x : Sides). (sides_of c.args.size).width ≤ x.width) c.least.ensures few))

pub returns-in-Heights-clause-smaller : goal.returns-in-Heights-clause-smaller
returns-in-Heights-clause-smaller c =
    IfSome_then c.lower.result c.lower.ensures.some (λ t step.
    height_down c.args.allowed _ _ (sides_of c.args.size) (sides_of t) c.in-Heights.is c.requires.allowed c.requires.usable step.0 step.1
    step.2)

pub returns-in-Heights-clause-next : goal.returns-in-Heights-clause-next
returns-in-Heights-clause-next c =
    IfSome_then c.lower.result c.lower.ensures.some (λ t step.
    heights_next c.args.allowed _ _ (sides_of c.args.size) (sides_of t) c.in-Heights.is step.2)

pub returns-in-Heights-clause-none : goal.returns-in-Heights-clause-none
returns-in-Heights-clause-none c =
    none_then c.lower.result c.lower.ensures.none (λ few.
    heights_least c.args.allowed _ _ (sides_of c.args.size) c.in-Heights.is few)

pub returns-in-Powers-clause-smaller : goal.returns-in-Powers-clause-smaller
returns-in-Powers-clause-smaller c =
    IfSome_then c.smaller_power.result c.smaller_power.ensures.some (λ t step.
    halved c.args.allowed _ (sides_of c.args.size) (sides_of t) c.in-Powers.is c.requires.allowed step)

pub returns-in-Powers-clause-next : goal.returns-in-Powers-clause-next
returns-in-Powers-clause-next c =
    IfSome_then c.smaller_power.result c.smaller_power.ensures.some (λ t step.
    powers_next c.args.allowed _ (sides_of c.args.size) (sides_of t) c.in-Powers.is step)

pub returns-in-Powers-clause-none : goal.returns-in-Powers-clause-none
returns-in-Powers-clause-none c =
    none_then c.smaller_power.result c.smaller_power.ensures.none (λ few.
    powers_least c.args.allowed _ (sides_of c.args.size) c.in-Powers.is few.0 few.1)
