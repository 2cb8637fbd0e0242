use Rattle.std.proofs.Common.{◌≡◌, length}
use Rattle.atlas_sheet.specs.declared.ways.TheConstants.{WAYS}
use Rattle.atlas_sheet.specs.Paging.{ArePages, sprites_left}
use Rattle.atlas_sheet.proofs.paging.paged.Given as goal

abbrev pub invariant-loop-left : goal.invariant-loop-left
invariant-loop-left g l = record {
  are : ArePages WAYS l.options l.sprites l.sizes.items l.places.items;
  left : l.left.items ≡ sprites_left l.sprites l.places.items;
}

abbrev pub decreases-loop-left : goal.decreases-loop-left
decreases-loop-left g l = length l.left.items
