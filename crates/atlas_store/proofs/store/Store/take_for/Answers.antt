use Rattle.std.proofs.Common.{arith}
use Rattle.atlas_store.proofs.StoreLemmas.StoreTakes.{none-taken, take-next, took-next, taken-as}
use Rattle.atlas_store.proofs.store.Store.take_for.Goals as goal

pub returns-in-StripAlong : goal.returns-in-StripAlong
returns-in-StripAlong g c = taken-as _ c.in-StripAlong.is
    (took-next c.in-StripAlong.is (none-taken c.args.self.now) (omega arith) c.requires c.take-parts.ensures)

pub take-parts-requires-in-CornerAlong-2 : goal.take-parts-requires-in-CornerAlong-2
take-parts-requires-in-CornerAlong-2 g c =
    take-next c.in-CornerAlong.is (took-next c.in-CornerAlong.is (none-taken c.args.self.now) (omega arith) c.requires
    c.take-parts-in-CornerAlong.ensures) (omega arith) c.requires

pub take-parts-requires-in-CornerAlong-3 : goal.take-parts-requires-in-CornerAlong-3
take-parts-requires-in-CornerAlong-3 g c =
    take-next c.in-CornerAlong.is (took-next c.in-CornerAlong.is
    (took-next c.in-CornerAlong.is (none-taken c.args.self.now) (omega arith) c.requires
    c.take-parts-in-CornerAlong.ensures) (omega arith) c.requires c.take-parts-in-CornerAlong-2.ensures)
    (omega arith) c.requires

pub returns-in-CornerAlong : goal.returns-in-CornerAlong
returns-in-CornerAlong g c = taken-as _ c.in-CornerAlong.is
    (took-next c.in-CornerAlong.is (took-next c.in-CornerAlong.is
    (took-next c.in-CornerAlong.is (none-taken c.args.self.now) (omega arith) c.requires
    c.take-parts-in-CornerAlong.ensures) (omega arith) c.requires c.take-parts-in-CornerAlong-2.ensures) (omega arith)
    c.requires c.take-parts-in-CornerAlong-3.ensures)

pub take-parts-requires-in-StripAcross-2 : goal.take-parts-requires-in-StripAcross-2
take-parts-requires-in-StripAcross-2 g c =
    take-next c.in-StripAcross.is (took-next c.in-StripAcross.is (none-taken c.args.self.now) (omega arith) c.requires
    c.take-parts-in-StripAcross.ensures) (omega arith) c.requires

pub returns-in-StripAcross : goal.returns-in-StripAcross
returns-in-StripAcross g c = taken-as _ c.in-StripAcross.is
    (took-next c.in-StripAcross.is (took-next c.in-StripAcross.is (none-taken c.args.self.now) (omega arith)
    c.requires c.take-parts-in-StripAcross.ensures) (omega arith) c.requires c.take-parts-in-StripAcross-2.ensures)

pub take-parts-requires-in-CornerAcross-2 : goal.take-parts-requires-in-CornerAcross-2
take-parts-requires-in-CornerAcross-2 g c =
    take-next c.in-CornerAcross.is (took-next c.in-CornerAcross.is (none-taken c.args.self.now) (omega arith)
    c.requires c.take-parts-in-CornerAcross.ensures) (omega arith) c.requires

pub take-parts-requires-in-CornerAcross-3 : goal.take-parts-requires-in-CornerAcross-3
take-parts-requires-in-CornerAcross-3 g c =
    take-next c.in-CornerAcross.is (took-next c.in-CornerAcross.is
    (took-next c.in-CornerAcross.is (none-taken c.args.self.now) (omega arith) c.requires
    c.take-parts-in-CornerAcross.ensures) (omega arith) c.requires c.take-parts-in-CornerAcross-2.ensures)
    (omega arith) c.requires

pub take-parts-requires-in-CornerAcross-4 : goal.take-parts-requires-in-CornerAcross-4
take-parts-requires-in-CornerAcross-4 g c =
    take-next c.in-CornerAcross.is (took-next c.in-CornerAcross.is
    (took-next c.in-CornerAcross.is (took-next c.in-CornerAcross.is (none-taken c.args.self.now) (omega arith)
    c.requires c.take-parts-in-CornerAcross.ensures) (omega arith) c.requires
    c.take-parts-in-CornerAcross-2.ensures) (omega arith) c.requires c.take-parts-in-CornerAcross-3.ensures)
    (omega arith) c.requires

pub returns-in-CornerAcross : goal.returns-in-CornerAcross
returns-in-CornerAcross g c = taken-as _ c.in-CornerAcross.is
    (took-next c.in-CornerAcross.is (took-next c.in-CornerAcross.is
    (took-next c.in-CornerAcross.is (took-next c.in-CornerAcross.is (none-taken c.args.self.now) (omega arith)
    c.requires c.take-parts-in-CornerAcross.ensures) (omega arith) c.requires c.take-parts-in-CornerAcross-2.ensures)
    (omega arith) c.requires c.take-parts-in-CornerAcross-3.ensures) (omega arith) c.requires
    c.take-parts-in-CornerAcross-4.ensures)
