use Rattle.std.proofs.Common.{rules}
use Rattle.std.proofs.lemmas.Fn.{always_returns_same}
use Rattle.atlas_cache.proofs.RoomLemmas.AreaOrder.{areas_fall, reversed_area, ties_stay}
use Rattle.atlas_cache.proofs.rooms.repacking.sort_by_area.Goals as goal

pub returns-clause-ordered : goal.returns-clause-ordered
returns-clause-ordered g c = record {
  permuted = c.sort_by_key.ensures.permutation;
  falling = areas_fall _ (c.in_ok-sort_by_key.ensures.sorted reversed_area
      (always_returns_same _ _ _ (λ a r h called. (search rules, search rules))));
  ties = ties_stay _ _ (c.sort_by_key.ensures.stable reversed_area (always_returns_same _ _ _
      (λ a r h called. (search rules, search rules))));
}
