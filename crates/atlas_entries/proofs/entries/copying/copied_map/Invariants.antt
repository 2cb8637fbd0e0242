use Rattle.std.proofs.Common.{◌≡◌, None, map}
use Rattle.std.specs.HashMap.{get}
use Rattle.std.specs.Map.{update_all}
use Rattle.std.specs.Map.Iter.{deref_pair}
use Rattle.atlas_entries.proofs.entries.copying.copied_map.Given as goal

-- The copy has what came so far, in turn.
abbrev pub invariant-loop-key : goal.invariant-loop-key
invariant-loop-key g l =
    (q : g.row.K.Denot) → get g.K.PartialEq.eq l.copy q ≡ update_all g.K.PartialEq.eq (λ _. None) (map deref_pair l.yielded) q
