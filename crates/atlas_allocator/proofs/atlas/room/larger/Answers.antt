use Rattle.std.proofs.Common.{[], ◌∷◌, subst, sym}
use Rattle.atlas_allocator.specs.Room.{and_maybe, IsLargestOf}
use Rattle.atlas_allocator.proofs.AtlasLemmas.FreeRoom.{largest-alone}
use Rattle.atlas_allocator.proofs.atlas.room.larger.Goals as goal

pub returns-in-None : goal.returns-in-None
returns-in-None c =
    subst (λ b. IsLargestOf (and_maybe b (c.args.free ∷ [])) c.args.free) (sym c.in-None.is) (largest-alone c.args.free)
