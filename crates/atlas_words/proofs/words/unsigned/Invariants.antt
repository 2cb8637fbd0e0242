use Rattle.std.proofs.Common.{◌≡◌, ◌↔◌, ◌<◌, ◌^◌, length}
use Rattle.std.specs.Str.Parse.{AllDigits, digits_value_after}
use Rattle.atlas_words.proofs.words.unsigned.Given as goal

abbrev pub invariant-loop-byte : goal.invariant-loop-byte
invariant-loop-byte l = record {
  digits : AllDigits 10 l.rest ↔ AllDigits 10 l.text;
  fits : l.value < 2 ^ 32;
  value : digits_value_after 10 l.value l.rest ≡ digits_value_after 10 0 l.text;
}

abbrev pub decreases-loop-byte : goal.decreases-loop-byte
decreases-loop-byte l = length l.rest
