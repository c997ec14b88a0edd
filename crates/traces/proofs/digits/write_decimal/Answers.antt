use Rattle.std.proofs.Common.{arith}
use Rattle.traces.proofs.Decimal.{room_left, digit_more, first_digit}
use Rattle.traces.proofs.digits.write_decimal.Goals as goal

pub loop-rest-preserved : goal.loop-rest-preserved
loop-rest-preserved c =
    let here = c.loop-rest.invariant in
    let left = room_left c.loop-rest.rest c.loop-rest.at here.some (omega arith) here.bounded in
    record {
      written = digit_more _ c.loop-rest.rest c.loop-rest.at c.loop-rest.room (omega arith) (omega arith) here.some (omega arith) here.written;
      some = omega (arith, left.0);
      within = omega arith;
      bounded = left.1;
    }

pub returns-clause-digits : goal.returns-clause-digits
returns-clause-digits c =
    let here = c.loop-rest.invariant in
    first_digit _ c.loop-rest.rest c.loop-rest.at c.loop-rest.room (omega arith) here.some (omega arith) here.written
