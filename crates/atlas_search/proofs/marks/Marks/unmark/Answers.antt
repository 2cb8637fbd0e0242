use Rattle.std.proofs.Common.{refl}
use Rattle.atlas_search.proofs.SearchLemmas.MarkWrites.{emptied-marks, left-marks}
use Rattle.atlas_search.proofs.marks.Marks.unmark.Goals as goal

pub invariant_of-self : goal.invariant_of-self
invariant_of-self c =
    emptied-marks c.self.inside.rows c.self.inside.columns c.self.inside.used c.self.invariant c.args.at.row c.args.at.column c.requires.row
    c.requires.column c.without-row.result c.without.result _
    (record { this = c.without-row.ensures.this; others = c.without-row.ensures.others })
    (record { this = c.without.ensures.this; others = c.without.ensures.others })
    (c.is_empty.ensures.empty c.if-is_empty.true) c.without-self-inside.result
    (record { this = c.without-self-inside.ensures.this; others = c.without-self-inside.ensures.others })

pub invariant_of-self-else-is_empty : goal.invariant_of-self-else-is_empty
invariant_of-self-else-is_empty c =
    left-marks c.self.inside.rows c.self.inside.columns c.self.inside.used c.self.invariant c.args.at.row c.args.at.column c.requires.row
    c.requires.column c.without-row.result c.without.result _
    (record { this = c.without-row.ensures.this; others = c.without-row.ensures.others })
    (record { this = c.without.ensures.this; others = c.without.ensures.others })
    refl (c.is_empty.ensures.some c.if-is_empty.false)
