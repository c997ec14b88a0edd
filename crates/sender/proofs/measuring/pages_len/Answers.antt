use Rattle.std.proofs.Common.{rules, ◌≡◌, ◌<◌, [], length, ap, sym, arith}
use Rattle.guestmem.specs.Page.{page_of}
use Rattle.machine.specs.Layout.{pages_of}
use Rattle.machine.specs.Seen.{state_of}
use Rattle.sender.proofs.Parts.{no_records}
use Rattle.sender.proofs.SavedLengths.{one_page_long}
use Rattle.sender.proofs.measuring.pages_len.Goals as goal

pub loop-number-init : goal.loop-number-init
loop-number-init g c =
    let m = state_of c.args.machine.now in
    record { sound = c.page_count-number-end.ensures.sound; low = omega arith; sum = sym (ap length (no_records [] m)) }

pub loop-number-preserved : goal.loop-number-preserved
loop-number-preserved g c =
    let m = state_of c.args.machine.now in
    let n = c.loop-number.number in
    let below : n < pages_of m = omega (arith, c.loop-number-test.true, c.page_count-number-end.ensures.count) in
    let page : c.page.result.now ≡ page_of m.ram n = search rules in
    let more = one_page_long m c.page.result.now n below page in
    record {
      sound = c.loop-number.invariant.sound;
      low = omega (arith, c.loop-number.invariant.low, c.page_len-len.ensures.short);
      sum = omega (arith, c.loop-number.invariant.sum, c.page_len-len.ensures.len n, more);
    }
