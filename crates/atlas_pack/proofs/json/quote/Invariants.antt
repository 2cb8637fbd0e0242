use Rattle.std.proofs.Common.{◌≡◌, ◌∷◌, flat_map, take}
use Rattle.atlas_pack.specs.Json.{escaped_byte}
use Rattle.atlas_pack.proofs.json.quote.Given as goal

abbrev pub invariant-loop-byte : goal.invariant-loop-byte
invariant-loop-byte l = l.text.items ≡ 34 ∷ flat_map escaped_byte (take l.byte-index l.byte-items)
