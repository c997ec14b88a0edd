use Rattle.std.proofs.Common.{◌≡◌, length, arith}
use Rattle.traces.proofs.Decimal.{digits_and_end}
use Rattle.traces.proofs.parts.put_number.Goals as goal

pub returns-clause-err : goal.returns-clause-err
returns-clause-err g c =
    let start = c.write_decimal-start.ensures in
    let size : length c.write_decimal-start.new.room ≡ 20 = omega arith in
    rw (← digits_and_end c.args.word.now _ _ c.write_decimal-start.result size start.within start.digits) c.put_both.ensures.err
