use Rattle.std.proofs.Common.{◌≡◌, ◌<◌, ◌^◌, drop}
use Rattle.hex.specs.Hex.{hex_digit_value}
use Rattle.traces.specs.Numbers.{digits_after}
use Rattle.traces.proofs.numbers.hexadecimal.Given as goal

abbrev pub invariant-loop-c : goal.invariant-loop-c
invariant-loop-c l = record {
  spelled : digits_after hex_digit_value 16 l.value (drop l.c-index l.word) ≡ digits_after hex_digit_value 16 0 l.word;
  bounded : l.value < 16 ^ l.c-index;
}
