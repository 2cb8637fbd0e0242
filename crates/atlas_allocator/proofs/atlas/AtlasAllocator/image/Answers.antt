use Rattle.std.proofs.Common.{ap, rules, subst}
use Rattle.atlas_store.specs.Stored.{IsAtlas}
use Rattle.atlas_allocator.proofs.AtlasLemmas.ImagedAtlas.{image-state}
use Rattle.atlas_allocator.proofs.atlas.AtlasAllocator.image.Goals as goal

pub returns-in_err-nodes-clause-state : goal.returns-in_err-nodes-clause-state
returns-in_err-nodes-clause-state g c =
    image-state c.args.self.now (subst IsAtlas (ap (λ v. v.stored) c.self.view_is) c.self.invariant)

pub returns-clause-state : goal.returns-clause-state
returns-clause-state g c =
    image-state c.args.self.now (subst IsAtlas (ap (λ v. v.stored) c.self.view_is) c.self.invariant)

pub returns-clause-atlas : goal.returns-clause-atlas
returns-clause-atlas g c =
    record {
      atlas = c.args.self.now;
      is_atlas = subst IsAtlas (ap (λ v. v.stored) c.self.view_is) c.self.invariant;
      image = search rules;
    }
