use Rattle.std.proofs.Common.{true, refl}
use Rattle.atlas_search.proofs.SearchLemmas.MarkWrites.{marked-marks}
use Rattle.atlas_search.proofs.marks.Marks.mark.Goals as goal

pub invariant_of-self : goal.invariant_of-self
invariant_of-self c =
    marked-marks c.self.inside.rows c.self.inside.columns c.self.inside.used c.self.invariant c.args.at.row c.args.at.column c.requires.row
    c.requires.column c.with.result c.with-2.result true
    (record { this = c.with.ensures.this; others = c.with.ensures.others })
    (record { this = c.with-2.ensures.this; others = c.with-2.ensures.others })
    refl c.with-self-inside.result (record { this = c.with-self-inside.ensures.this; others = c.with-self-inside.ensures.others })
