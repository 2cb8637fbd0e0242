use Rattle.std.proofs.Common.{◌<◌, ◌∙◌, length, refl, sym, arith}
use Rattle.atlas_pack.proofs.NameSets.{apart_more, is_new, known_more, named_again, not_new}
use Rattle.atlas_pack.proofs.names.check_names.Goals as goal

pub returns-then-not-branch-clause-fault : goal.returns-then-not-branch-clause-fault
returns-then-not-branch-clause-fault c =
    let low : c.loop-number.number < length c.args.sprites.now = omega arith in
    let x = c.index-sprites-number.result in (
      c.loop-number.number,
      refl,
      named_again c.args.sprites.now c.loop-number.number x c.as_str.result low (sym c.index-sprites-number.is) c.as_str.ensures.value
          (sym (c.loop-number.invariant.known c.as_str.result) ∙ not_new _ _ c.in_ok-insert.ensures.added c.if-not-branch.true),
    )

pub loop-number-preserved : goal.loop-number-preserved
loop-number-preserved c =
    let low : c.loop-number.number < length c.args.sprites.now = omega arith in
    let x = c.index-sprites-number.result in
    let at = sym c.index-sprites-number.is in
    record {
      known = known_more c.args.sprites.now c.loop-number.number x c.as_str.result c.loop-number.names c.insert.new.self low at
          c.as_str.ensures.value c.in_ok-insert.ensures.updates c.loop-number.invariant.known;
      apart = apart_more c.args.sprites.now c.loop-number.number x c.as_str.result low at c.as_str.ensures.value
          (sym (c.loop-number.invariant.known c.as_str.result) ∙ is_new _ _ c.in_ok-insert.ensures.added c.if-not-branch.false)
          c.loop-number.invariant.apart;
    }
