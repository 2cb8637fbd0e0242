use Rattle.std.proofs.Common.{◌∙◌, ◌++◌, decimal, ap, arith, append-nil, length-set}
use Rattle.std.proofs.lemmas.Fmt.{decimal_nonempty}
use Rattle.std.proofs.lemmas.List.{drop_all}
use Rattle.atlas_words.proofs.Decimals.{short_decimal, length_step, one_digit_more, last_digit}
use Rattle.atlas_words.proofs.buffer.write_digits.Goals as goal

pub loop-left-init : goal.loop-left-init
loop-left-init c = record {
  room = short_decimal c.args.n c.ranges.n.fits;
  short = omega arith;
  whole = c.told-digits;
  written = ap (λ xs. decimal c.args.n ++ xs) (drop_all 20 c.args.digits.now (omega arith)) ∙ append-nil (decimal c.args.n);
}

pub overflow_sub-start : goal.overflow_sub-start
overflow_sub-start c = omega (arith, decimal_nonempty c.loop-left.left c.loop-left.auto.left-fits.fits)

pub loop-left-preserved : goal.loop-left-preserved
loop-left-preserved c =
    let l = c.loop-left in
    let some = decimal_nonempty l.left l.auto.left-fits.fits in
    record {
      room = omega (arith, length_step l.left c.loop-left-test.true l.auto.left-fits.fits);
      short = omega arith;
      whole = length-set _ _ _ ∙ l.invariant.whole;
      written = one_digit_more l.left l.start l.digits c.loop-left-test.true l.auto.left-fits.fits (omega arith) (omega arith) ∙
          l.invariant.written;
    }

pub overflow_sub-start-2 : goal.overflow_sub-start-2
overflow_sub-start-2 c = omega (arith, decimal_nonempty c.loop-left.left c.loop-left.auto.left-fits.fits)

pub returns-clause-written : goal.returns-clause-written
returns-clause-written c =
    let l = c.loop-left in
    let some = decimal_nonempty l.left l.auto.left-fits.fits in
    last_digit l.left l.start l.digits c.loop-left-test.false (omega arith) (omega arith) ∙ l.invariant.written
