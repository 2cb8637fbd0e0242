use Rattle.std.proofs.Common.{refl}
use Rattle.atlas_search.proofs.SearchLemmas.AddedLines.{rest-marked}
use Rattle.atlas_search.proofs.SearchLemmas.BlankHeads.{rows-begin-blank, rows-go_on-blank, rows-end-blank}
use Rattle.atlas_search.proofs.table.blank_marked.Goals as goal

pub loop-row-init : goal.loop-row-init
loop-row-init c = (
  c.used-left.ensures.inside,
  rows-begin-blank c.args.heads.now c.args.marks.now c.used-left.result c.requires.long c.requires.marked c.used-left.ensures.each,
)

pub loop-row-preserved : goal.loop-row-preserved
loop-row-preserved c =
    let l = c.loop-row in
    let k = c.in-Some.row in (
      λ j h. l.invariant.0 j (rest-marked l.left c.take_first.new.self k j c.in-Some.ensures.rest h),
      rows-go_on-blank c.args.heads.now l.heads c.blank_row.new.heads c.args.marks.now k c.row.result l.left c.take_first.new.self
          c.requires.marked c.in-Some.ensures.rest c.row.ensures.marked l.invariant.1 c.blank_row.ensures.long c.blank_row.ensures.blank
          c.blank_row.ensures.kept,
    )

pub returns-clause-blank : goal.returns-clause-blank
returns-clause-blank c =
    rows-end-blank c.args.heads.now c.loop-row.heads c.loop-row.left (c.in_default.ensures.none refl) c.loop-row.invariant.1
