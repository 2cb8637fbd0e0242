use Rattle.std.proofs.Common.{◌<◌, ◌+◌, ◌*◌, refl, arith}
use Rattle.atlas_search.proofs.SearchLemmas.AddedLines.{rest-marked}
use Rattle.atlas_search.proofs.SearchLemmas.BlankHeads.{blanking-begins, blanking-goes_on}
use Rattle.atlas_search.proofs.table.blank_row.Goals as goal

pub loop-column-init : goal.loop-column-init
loop-column-init c = ((λ k h. h), blanking-begins c.args.heads.now c.args.row c.args.columns c.requires.long)

below : (c : goal.In-Some) → 52 * c.args.row + c.in-Some.column < 2704
below c =
    omega (
      arith,
      c.requires.row,
      c.requires.columns c.in-Some.column (c.loop-column.invariant.0 c.in-Some.column
          c.in-Some.ensures.first.0),
    )

pub overflow_add-row : goal.overflow_add-row
overflow_add-row c = grind (arith, below c)

pub offset_bounds-heads-row : goal.offset_bounds-heads-row
offset_bounds-heads-row c = grind (arith, below c, c.loop-column.invariant.1.long)

pub bounds-heads-row : goal.bounds-heads-row
bounds-heads-row c = grind (arith, below c, c.loop-column.invariant.1.long)

pub loop-column-smaller : goal.loop-column-smaller
loop-column-smaller c = c.in-Some.ensures.fewer

pub loop-column-preserved : goal.loop-column-preserved
loop-column-preserved c =
    let l = c.loop-column in
    let k = c.in-Some.column in (
      λ j h. l.invariant.0 j (rest-marked l.left c.take_first.new.self k j c.in-Some.ensures.rest h),
      blanking-goes_on c.args.heads.now l.heads c.args.row k c.args.columns l.left c.take_first.new.self c.in-Some.ensures.rest (below c)
          l.invariant.1,
    )

pub returns-clause-long : goal.returns-clause-long
returns-clause-long c = c.loop-column.invariant.1.long

pub returns-clause-blank : goal.returns-clause-blank
returns-clause-blank c = λ j h. c.loop-column.invariant.1.blank j h (c.in_default.ensures.none refl j)

pub returns-clause-kept : goal.returns-clause-kept
returns-clause-kept c = c.loop-column.invariant.1.kept
