use Rattle.std.proofs.Common.{All, subst}
use Rattle.atlas_model.specs.Boxes.{AreDisjoint, IsWithin}
use Rattle.atlas_maxrects.proofs.TopmostPlaces.{within_boxes}
use Rattle.atlas_maxrects.proofs.packer.TopmostPacker.placed.Goals as goal

pub returns-clause-within : goal.returns-clause-within
returns-clause-within g c =
    subst (λ v. All (IsWithin v.sheet) v.placed) c.self.view_is (within_boxes _ _ _ c.self.invariant)

pub returns-clause-apart : goal.returns-clause-apart
returns-clause-apart g c = subst (λ v. AreDisjoint v.placed) c.self.view_is c.self.invariant.apart
