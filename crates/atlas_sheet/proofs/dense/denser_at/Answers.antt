use Rattle.std.proofs.lemmas.Option.{IfSome_then}
use Rattle.guillotiere.specs.Pixels.{sides_of}
use Rattle.atlas_sheet.proofs.DenseSheets.{may_try}
use Rattle.atlas_sheet.proofs.dense.denser_at.Goals as goal

pub dense_at-requires-clause-smaller : goal.dense_at-requires-clause-smaller
dense_at-requires-clause-smaller g c =
    may_try c.args.best.now (λ sheet. sides_of sheet.size) c.args.options.now c.args.sprites.now (sides_of c.args.size)
    (IfSome_then c.args.best.now c.requires.best (λ sheet is. is.larger)) c.requires.none (c.is_smaller.ensures.0 c.if-is_smaller.true)
