use Rattle.std.proofs.Common.{◌≡◌, flat_map, take}
use Rattle.atlas_pack.specs.Json.{next_member_text}
use Rattle.atlas_pack.proofs.json.others_json.Given as goal

abbrev pub invariant-loop-next : goal.invariant-loop-next
invariant-loop-next l = l.text.items ≡ flat_map next_member_text (take l.next-index l.others)
