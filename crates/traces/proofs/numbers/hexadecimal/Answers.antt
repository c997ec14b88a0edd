use Rattle.std.proofs.Common.{arith}
use Rattle.traces.proofs.Numerals.{below_sixteen}
use Rattle.traces.proofs.numbers.hexadecimal.Goals as goal

pub overflow_mul-value : goal.overflow_mul-value
overflow_mul-value c =
    omega (arith, below_sixteen c.loop-c.value c.loop-c.c-index c.loop-c.invariant.bounded (omega arith))

pub overflow_add-value : goal.overflow_add-value
overflow_add-value c =
    omega (arith, below_sixteen c.loop-c.value c.loop-c.c-index c.loop-c.invariant.bounded (omega arith))
