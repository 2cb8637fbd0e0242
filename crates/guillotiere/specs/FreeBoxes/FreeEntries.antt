-- The rectangles of the free entries. No public clause cites this module.
use Rattle.std.specs.Prelude.{List, filter, map}
use Rattle.guillotiere.specs.declared.simple.boxes.FreeBox.{FreeBox}
use Rattle.atlas_model.specs.declared.geometry.Rectangle.{Rectangle}
use Rattle.guillotiere.specs.FreeBoxes.BoxShelves.{has_width}

abbrev pub free_entry_areas : List FreeBox → List Rectangle
free_entry_areas bs = map (λ (b : FreeBox). b.area) (filter (λ (b : FreeBox). has_width b.area) bs)
