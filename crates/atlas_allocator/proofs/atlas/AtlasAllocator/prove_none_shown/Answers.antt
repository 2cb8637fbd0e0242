use Rattle.std.proofs.Common.{false, sym, ap, subst, ◌∙◌}
use Rattle.atlas_store.specs.Rehearsals.{AreShown}
use Rattle.atlas_store.specs.Stored.{state_of}
use Rattle.atlas_store.proofs.WalkLemmas.RehearsedAtlas.{none-shown}
use Rattle.atlas_allocator.proofs.atlas.AtlasAllocator.prove_none_shown.Goals as goal

pub returns : goal.returns
returns g c =
    let many = c.requires.marks ∙ ap (λ v. (state_of v).kept) (sym c.self.view_is) in
    record {
      shown = subst (λ v. AreShown v c.args.marks.now (λ k. false)) c.self.view_is
          (none-shown _ c.self.invariant _ _ c.args.marks.now many c.requires.none);
    }
