use Rattle.std.proofs.Common.{length}
use Rattle.atlas_pack.specs.Sprites.{BeginsWithSprites}
use Rattle.atlas_pack.proofs.reading.read_sprites.Given as goal

abbrev pub invariant-loop-rest : goal.invariant-loop-rest
invariant-loop-rest l = BeginsWithSprites l.sprites.items l.text l.rest

abbrev pub decreases-loop-rest : goal.decreases-loop-rest
decreases-loop-rest l = length l.rest
