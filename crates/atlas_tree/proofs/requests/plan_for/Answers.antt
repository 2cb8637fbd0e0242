use Rattle.std.proofs.Common.{◌≡◌, ◌<◌, rules, subst}
use Rattle.atlas_model.specs.Boxes.{Sides}
use Rattle.atlas_model.specs.Boxes.Axis.{Horizontal}
use Rattle.atlas_model.specs.Cuts.{cut}
use Rattle.atlas_model.specs.Cuts.Cut.{Strip}
use Rattle.atlas_model.specs.Pixels.{sides_of}
use Rattle.atlas_tree.proofs.PlanLemmas.PlanLines.{cut-beside, exact-leaf}
use Rattle.atlas_tree.proofs.requests.plan_for.Goals as goal

pub exact_size-whole-requires : goal.exact_size-whole-requires
exact_size-whole-requires c = exact-leaf c.args.leaf.now.area _ c.requires.exact c.requires.positive c.requires.fits

pub returns-then-whole-size-3-clause-line : goal.returns-then-whole-size-3-clause-line
returns-then-whole-size-3-clause-line c =
    let r = sides_of c.args.size in
    let whole = sides_of c.exact_size-whole.result in
    let as_high : whole.height ≡ r.height = search rules in
    let narrower : r.width < whole.width = search rules in
    c.strip-then-whole-size-3.ensures.line r
    (subst (λ (s : Sides). cut s r ≡ Strip Horizontal) c.exact_size-whole.ensures.sides
    (cut-beside whole r as_high narrower c.requires.positive.1)) (search rules)

pub corner-requires-clause-narrower : goal.corner-requires-clause-narrower
corner-requires-clause-narrower c = search rules

pub corner-requires-clause-lower : goal.corner-requires-clause-lower
corner-requires-clause-lower c = search rules

pub returns-then-whole-size-2-clause-line : goal.returns-then-whole-size-2-clause-line
returns-then-whole-size-2-clause-line c = search rules

pub returns-else-whole-size-2-clause-line : goal.returns-else-whole-size-2-clause-line
returns-else-whole-size-2-clause-line c = search rules

pub returns-else-whole-size-2-clause-feasible : goal.returns-else-whole-size-2-clause-feasible
returns-else-whole-size-2-clause-feasible c = search rules

pub returns-then-whole-size-3-clause-feasible : goal.returns-then-whole-size-3-clause-feasible
returns-then-whole-size-3-clause-feasible c = search rules

pub returns-else-whole-size-3-clause-line : goal.returns-else-whole-size-3-clause-line
returns-else-whole-size-3-clause-line c = search rules
