use Rattle.std.proofs.Common.{◌≤◌, length, ap, subst, ◌∙◌, arith}
use Rattle.guillotiere.specs.FreeBoxes.BoxShelves.{box_shelf, free_item_boxes}
use Rattle.atlas_model.specs.Pixels.{options_of}
use Rattle.guillotiere.specs.SimpleStored.{kept_entries, used_entries}
use Rattle.guillotiere.proofs.SimpleLemmas.EntryCounts.{used-few, used-free}
use Rattle.guillotiere.proofs.simple.SimpleAtlasAllocator.slots.Goals as goal

pub returns-clause-used : goal.returns-clause-used
returns-clause-used g c =
    let a = c.self.inside in
    used-free (options_of a.options) (box_shelf a.boxes) c.self.invariant.state.kept ∙ ap used_entries c.self.view_is

pub returns-clause-counted : goal.returns-clause-counted
returns-clause-counted g c =
    let a = c.self.inside in
    let v = box_shelf a.boxes in
    let kept = c.self.invariant.state.kept in
    let few : length (free_item_boxes v.entries) ≤ length v.entries = omega
    (arith, used-free (options_of a.options) v kept, used-few (λ i. 0) (options_of a.options) v kept) in
    subst (λ w. used_entries w ≤ kept_entries w) c.self.view_is few
