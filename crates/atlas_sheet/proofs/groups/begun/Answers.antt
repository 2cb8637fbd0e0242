use Rattle.std.proofs.Common.{◌≡◌, length, replicate, None, rules}
use Rattle.atlas_sheet.proofs.GroupsSoFar.{so_begun}
use Rattle.atlas_sheet.proofs.groups.begun.Goals as goal

pub returns-clause-so_far : goal.returns-clause-so_far
returns-clause-so_far g c =
    let bare : c.in_ok-places.places.items ≡ replicate (length c.args.sprites.now) None =
    c.in_ok-places.ensures.items_if_clones_equal (λ y is. search (rules, is)) in
    so_begun c.args.options.now c.args.sprites.now c.args.groups.now c.new-sizes.result.items c.in_ok-places.places.items
    c.in_ok-left.left.items
    c.args.kept.items c.requires.long c.new-sizes.ensures.items bare c.in_ok-left.ensures.items c.requires.kept
