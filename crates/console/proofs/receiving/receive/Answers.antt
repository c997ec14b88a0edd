use Rattle.std.proofs.Common.{◌≡◌, min, length, take, drop, arith}
use Rattle.std.proofs.lemmas.List.{length-take-le}
use Rattle.chains.specs.declared.next.Next.TheVariants.{Chain}
use Rattle.chains.proofs.FrameLaws.{looked_on}
use Rattle.chains.proofs.ServedLaws.{filled_done}
use Rattle.console.specs.Receive.{count_into}
use Rattle.console.proofs.Giving.{given}
use Rattle.console.proofs.receiving.receive.Goals as goal

pub returns-clause-after : goal.returns-clause-after
returns-clause-after g c = looked_on c.in_ok-look.ensures.after c.fill_in_parts-is_due.ensures.after c.fill_in_parts-is_due.ensures.decoder

pub returns-clause-served : goal.returns-clause-served
returns-clause-served g c sent =
    let look = c.in_ok-look.ensures in
    let held = c.args.held.now in
    let into = count_into held c.look.new.chain in
    let count_is : c.min-count.result ≡ into = rw (← c.total_len-room.ensures, ← c.len.ensures.len) c.min-count.ensures in
    let first_is : c.min-first.result ≡ min (length c.as_slices.result.0.now) into = rw count_is at c.min-first.ensures in
    let parts = given c.as_slices.result.0.now c.as_slices.result.1.now held into c.min-first.result c.as_slices.ensures first_is in
    let len_is : length (take into held) ≡ into = length-take-le into held (omega arith) in
    let filled = rw (count_is, parts, look.untouched.0, look.untouched.1, look.state) at c.fill_in_parts-is_due.ensures.filled in
    let left_is = rw count_is at c.take_out.ensures in
    record {
      seen = Chain c.look.new.chain;
      sees = look.gives.0;
      done = rw count_is (rw len_is at (filled_done _ _ _ _ (take into held) _ _ _ (drop into held) _ filled left_is));
    }
