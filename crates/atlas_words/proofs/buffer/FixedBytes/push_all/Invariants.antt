use Rattle.std.proofs.Common.{◌≡◌, ◌++◌, take}
use Rattle.atlas_words.proofs.buffer.FixedBytes.push_all.Given as goal

abbrev pub invariant-loop-byte : goal.invariant-loop-byte
invariant-loop-byte g l = l.self ≡ l.fn.self ++ take l.byte-index l.bytes
