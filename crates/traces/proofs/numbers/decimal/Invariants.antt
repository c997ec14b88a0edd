use Rattle.std.proofs.Common.{◌≡◌, ◌<◌, ◌^◌, drop}
use Rattle.traces.specs.Numbers.{decimal_digit_value}
use Rattle.traces.specs.Numbers.{digits_after}
use Rattle.traces.proofs.numbers.decimal.Given as goal

abbrev pub invariant-loop-c : goal.invariant-loop-c
invariant-loop-c l = record {
  spelled : digits_after decimal_digit_value 10 l.value (drop l.c-index l.word) ≡ digits_after decimal_digit_value 10 0 l.word;
  bounded : l.value < 10 ^ l.c-index;
}
