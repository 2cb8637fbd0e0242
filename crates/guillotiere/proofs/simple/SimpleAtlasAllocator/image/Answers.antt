use Rattle.std.proofs.Common.{refl, ap, map, ◌∙◌}
use Rattle.atlas_model.specs.Pixels.{sides_of}
use Rattle.guillotiere.specs.FreeBoxes.BoxShelves.{stored_item}
use Rattle.guillotiere.specs.FreeBoxes.FreeEntries.{free_entry_areas}
use Rattle.guillotiere.specs.FreeBoxes.FreeLists.{state_of_items}
use Rattle.guillotiere.proofs.SimpleLemmas.ImagedBoxes.{image-of, image-simple}
use Rattle.guillotiere.proofs.simple.SimpleAtlasAllocator.image.Goals as goal

pub returns-clause-image : goal.returns-clause-image
returns-clause-image g c =
    let a = c.self.inside in
    rw (← c.self.view_is)
    (image-of _ a.boxes.entries.items a.size a.options c.self.invariant.state.kept.listed.exact
    (c.in_ok-free.ensures ∙ ap free_entry_areas c.deref.ensures.value) refl c.plain.ensures)

pub returns-clause-simple : goal.returns-clause-simple
returns-clause-simple g c =
    let a = c.self.inside in
    image-simple _ (state_of_items (map stored_item a.boxes.entries.items) (sides_of a.size) a.options) c.self.invariant.state.simple
    (image-of _ a.boxes.entries.items a.size a.options c.self.invariant.state.kept.listed.exact
    (c.in_ok-free.ensures ∙ ap free_entry_areas c.deref.ensures.value) refl c.plain.ensures)
