use Rattle.atlas_maxrects.proofs.LeftOvers.{parts_added}
use Rattle.atlas_maxrects.proofs.free.add_parts.Goals as goal

pub returns-clause-parts : goal.returns-clause-parts
returns-clause-parts g c =
    let a = c.in_ok-add.ensures in
    let b = c.in_ok-add-2.ensures in
    let d = c.in_ok-add-3.ensures in
    let e = c.in_ok-add-4.ensures in
    parts_added c.args.whole c.args.taken c.min-right.result c.max-left.result c.min-bottom.result c.max-top.result
    _ _ _ _ _ c.min-right.ensures c.max-left.ensures c.min-bottom.ensures c.max-top.ensures
    (record { kept = a.kept; added = a.added; every = a.every })
    (record { kept = b.kept; added = b.added; every = b.every })
    (record { kept = d.kept; added = d.added; every = d.every })
    (record { kept = e.kept; added = e.added; every = e.every })
