use Rattle.atlas_allocator.proofs.AtlasLemmas.FreeRoom.{largest-kept, largest-changed}
use Rattle.atlas_allocator.proofs.atlas.room.larger_of.Goals as goal

pub returns-then-precedes : goal.returns-then-precedes
returns-then-precedes c = largest-kept c.args.held c.args.free (c.precedes.ensures.yes c.if-precedes.true)

pub returns : goal.returns
returns c = largest-changed c.args.held c.args.free (c.precedes.ensures.no c.if-precedes.false)
