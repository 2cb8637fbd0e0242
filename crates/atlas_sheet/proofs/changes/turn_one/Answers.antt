use Rattle.std.proofs.Common.{◌<◌, length, get_or, refl, arith}
use Rattle.std.proofs.lemmas.List.Elements.{All-get_or}
use Rattle.atlas_sheet.proofs.FoundPlaces.{no_sprite}
use Rattle.atlas_sheet.proofs.NumberedSprites.{order_below}
use Rattle.atlas_sheet.proofs.TurnedSprites.{turned_lies, turned_permuted}
use Rattle.atlas_sheet.proofs.changes.turn_one.Goals as goal

pub lie_so-requires : goal.lie_so-requires
lie_so-requires c =
    All-get_or (λ s. s.0 < length c.args.lying.now) c.args.order.now c.below-at.result no_sprite (omega (arith, c.below-at.ensures))
    (order_below c.args.lying.now c.args.order.now c.requires.permuted (length c.args.lying.now) (omega arith))

pub returns-clause-permuted : goal.returns-clause-permuted
returns-clause-permuted c =
    rw c.lie_so.ensures
    (turned_permuted c.args.lying.now c.args.order.now c.below-at.result c.requires.permuted (omega (arith, c.below-at.ensures))
    (get_or c.args.order.now c.below-at.result no_sprite) c.flipped-turned.result refl)

pub returns-clause-lies : goal.returns-clause-lies
returns-clause-lies c =
    rw c.lie_so.ensures
    (turned_lies c.args.lying.now c.args.order.now c.below-at.result c.requires.permuted (omega (arith, c.below-at.ensures))
    (get_or c.args.order.now c.below-at.result no_sprite) c.flipped-turned.result refl
    (All-get_or (λ s. s.0 < length c.args.lying.now) c.args.order.now c.below-at.result no_sprite (omega (arith, c.below-at.ensures))
    (order_below c.args.lying.now c.args.order.now c.requires.permuted (length c.args.lying.now) (omega arith)))
    c.flipped-turned.ensures)
