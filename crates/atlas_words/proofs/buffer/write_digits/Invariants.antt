use Rattle.std.proofs.Common.{◌≡◌, ◌≤◌, ◌++◌, length, drop, decimal}
use Rattle.atlas_words.proofs.buffer.write_digits.Given as goal

abbrev pub invariant-loop-left : goal.invariant-loop-left
invariant-loop-left l = record {
  room : length (decimal l.left) ≤ l.start;
  short : l.start ≤ 20;
  whole : length l.digits ≡ 20;
  written : decimal l.left ++ drop l.start l.digits ≡ decimal l.n;
}

abbrev pub decreases-loop-left : goal.decreases-loop-left
decreases-loop-left l = l.left
