use Rattle.std.proofs.Common.{◌⊎◌, All, Contains, subst}
use Rattle.atlas_model.specs.Boxes.{Box, IsInside}
use Rattle.atlas_maxrects.specs.Free.{LiesInOne, free_box}
use Rattle.atlas_maxrects.proofs.LeftOvers.{added_last, every_last, lies_last}
use Rattle.atlas_maxrects.proofs.free.add.Goals as goal

pub returns-clause-kept : goal.returns-clause-kept
returns-clause-kept g c =
    rw c.in_ok-push.ensures.items
    (added_last c.args.boxes.now.items c.in_ok-kept.kept.items c.args.part
    (subst (λ xs. (b : Box) → LiesInOne xs b → LiesInOne c.in_ok-kept.kept.items b ⊎ IsInside b (free_box c.args.part))
    c.deref-2.ensures.value
    c.in_ok-kept.ensures.kept))

pub returns-clause-added : goal.returns-clause-added
returns-clause-added g c b some inside =
    rw c.in_ok-push.ensures.items (lies_last c.in_ok-kept.kept.items c.args.part b inside)

pub returns-clause-every : goal.returns-clause-every
returns-clause-every g c =
    rw c.in_ok-push.ensures.items
    (every_last c.args.boxes.now.items c.in_ok-kept.kept.items c.args.part
    (subst (λ xs. All (Contains xs) c.in_ok-kept.kept.items) c.deref-2.ensures.value c.in_ok-kept.ensures.every))
