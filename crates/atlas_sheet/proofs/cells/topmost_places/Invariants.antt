use Rattle.guillotiere.specs.Pixels.{sides_of}
use Rattle.atlas_sheet.specs.Dense.{empty_grid}
use Rattle.atlas_sheet.specs.Settings.{spacing_of}
use Rattle.atlas_sheet.proofs.GridCells.{IsGoing}
use Rattle.atlas_sheet.proofs.Topmost.{IsPlacing}
use Rattle.atlas_sheet.proofs.cells.topmost_places.Given as goal

abbrev pub invariant-loop-sprite : goal.invariant-loop-sprite
invariant-loop-sprite g l = record {
  going : IsGoing l.options (sides_of l.fn.sheet) l.sprites l.packer l.placed.items;
  placing : IsPlacing (spacing_of l.options) (empty_grid (spacing_of l.options) (sides_of l.fn.sheet)) l.packer l.order l.sprite-index
      l.placed.items;
}
