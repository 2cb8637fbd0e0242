use Rattle.std.proofs.Common.{◌≡◌, ◌∙◌, ◌<◌, ◌≤◌, ◌++◌, ◌∷◌, [], ap, length, map, rules, arith}
use Rattle.std.proofs.lemmas.List.{take_all}
use Rattle.atlas_pack.specs.Folders.{folder_number, folder_of}
use Rattle.atlas_pack.proofs.FolderNames.{are_by_folder, groups_more}
use Rattle.atlas_pack.proofs.folders.folder_groups.Goals as goal

pub loop-number-preserved : goal.loop-number-preserved
loop-number-preserved c =
    let low : c.loop-number.number < length c.args.sprites.now = omega arith in
    let pushed : c.push.new.self.items ≡ c.loop-number.groups.items ++ c.in_ok-group.group ∷ [] = search rules in
    record {
      known = c.in_ok-group.ensures.known;
      groups = groups_more c.args.sprites.now (λ s. folder_number c.args.sprites.now (folder_of s)) c.loop-number.number _ _
          c.in_ok-group.group low
          pushed c.loop-number.invariant.groups c.in_ok-group.ensures.group;
    }

pub returns-clause-same : goal.returns-clause-same
returns-clause-same c =
    let end : length c.args.sprites.now ≤ c.loop-number.number = omega arith in
    are_by_folder c.args.sprites.now c.loop-number.groups.items
    (c.loop-number.invariant.groups
    ∙ ap (map (λ s. folder_number c.args.sprites.now (folder_of s))) (take_all c.loop-number.number c.args.sprites.now end))
