use Rattle.std.proofs.Common.{refl}
use Rattle.atlas_cache.proofs.ListLemmas.{none-listed}
use Rattle.atlas_cache.proofs.cache.TextureCache.is_empty.Goals as goal

pub returns : goal.returns
returns g c =
    rw (← c.self.view_is) (
      λ t. let none = c.is_empty.ensures.0 t in rw none refl,
      λ e. c.is_empty.ensures.1 (none-listed c.self.inside.entries.entries e),
    )
