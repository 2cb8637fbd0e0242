use Rattle.std.proofs.Common.{rules}
use Rattle.std.proofs.lemmas.Fn.{always_returns_same}
use Rattle.atlas_cache.specs.Relocating.{former_id}
use Rattle.atlas_cache.proofs.cache.repacking.sort_by_id.Goals as goal

pub returns-clause-rising : goal.returns-clause-rising
returns-clause-rising g c =
    c.sort_unstable_by_key.ensures.sorted former_id (always_returns_same _ _ _ (λ a r h called. (search rules, search rules)))
