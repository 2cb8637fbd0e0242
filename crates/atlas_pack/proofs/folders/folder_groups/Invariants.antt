use Rattle.std.proofs.Common.{◌≡◌, map, take}
use Rattle.atlas_pack.specs.Folders.{AreFirst, folder_number, folder_of}
use Rattle.atlas_pack.proofs.folders.folder_groups.Given as goal

abbrev pub invariant-loop-number : goal.invariant-loop-number
invariant-loop-number l = record {
  known : AreFirst l.firsts (take l.number l.sprites);
  groups : l.groups.items ≡ map (λ s. folder_number l.sprites (folder_of s)) (take l.number l.sprites);
}
