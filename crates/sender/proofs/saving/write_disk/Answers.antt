use Rattle.std.proofs.Common.{◌≡◌, ◌+◌, ◌<◌, ◌++◌, Ok, Err, rules, sym, subst, ◌∙◌, arith}
use Rattle.guestmem.specs.Item.{sector}
use Rattle.machine.specs.NextBad.{IsNextBad}
use Rattle.machine.specs.Seen.{all_calls, state_of}
use Rattle.wire.specs.Records.{spelled_record}
use Rattle.wire.specs.Sinks.{prompt}
use Rattle.wire.specs.Stream.{record_of, texts}
use Rattle.sender.specs.Items.{first_sector, records_from, size_on}
use Rattle.sender.proofs.Disks.{few_told, sector_there, size_told}
use Rattle.sender.proofs.Parts.{none_from, sector_more}
use Rattle.sender.proofs.SaveReads.{no_items, sector_read}
use Rattle.sender.proofs.Sending.{sends_alike, sends_next, sends_nothing, takes_next, takes_nothing}
use Rattle.sender.proofs.saving.write_disk.Goals as goal

pub loop-number-init : goal.loop-number-init
loop-number-init g c =
    let m = state_of c.args.machine.now in
    record {
      sound = c.shapes.ensures.sound;
      end = c.sectors-number-end.ensures ∙ size_told m c.shapes.result.now c.args.dev _ c.shapes.ensures.sound c.shapes.ensures.shapes c.requires;
      next = c.next_bad-next_bad.ensures;
      few = rw c.sectors-number-end.ensures (few_told m c.shapes.result.now c.args.dev _ c.shapes.ensures.sound c.shapes.ensures.shapes c.requires);
      calls = sym (no_items g.D.Disk.called m (first_sector m c.args.dev) (all_calls c.args.machine.now));
      sent = sends_nothing c.args.machine.now (g.S.Sink.state c.args.out.now) (texts (records_from m (first_sector m c.args.dev) 0)) (tt {0}) (none_from m (first_sector m c.args.dev));
      taken = takes_nothing {A = Unit {0}} c.args.machine.now (prompt c.args.sum.now.taken) (texts (records_from m (first_sector m c.args.dev) 0)) (tt {0}) (none_from m (first_sector m c.args.dev));
    }

pub send_in_turn-requires-clause-there : goal.send_in_turn-requires-clause-there
send_in_turn-requires-clause-there g c =
    sector_there (state_of c.args.machine.now) (state_of c.loop-number.machine) c.args.dev c.loop-number.number c.loop-number.invariant.sound c.loop-number.invariant.sent.state
    (omega (arith, c.loop-number-test.true, c.loop-number.invariant.end))

pub send_in_turn-requires-clause-next : goal.send_in_turn-requires-clause-next
send_in_turn-requires-clause-next g c =
    subst (λ k. IsNextBad k c.args.dev c.loop-number.number c.loop-number.next_bad) (sym c.loop-number.invariant.sent.state) c.loop-number.invariant.next

pub loop-number-preserved : goal.loop-number-preserved
loop-number-preserved g c =
    let m = state_of c.args.machine.now in
    let before = texts (records_from m (first_sector m c.args.dev) c.loop-number.number) in
    let after = texts (records_from m (first_sector m c.args.dev) (c.loop-number.number + 1)) in
    let more : before ++ spelled_record (record_of m (sector c.args.dev c.loop-number.number)) ≡ after = sym (sector_more m c.args.dev c.loop-number.number (omega (arith, c.loop-number-test.true, c.loop-number.invariant.end))) in
    let one = sends_alike c.loop-number.machine c.send_in_turn.new.machine (g.S.Sink.state c.loop-number.out) (g.S.Sink.state c.send_in_turn.new.out) (spelled_record (record_of (state_of c.loop-number.machine) (sector c.args.dev c.loop-number.number))) c.in_ok-next_bad.next_bad (tt {0}) (rw c.in_ok-next_bad.was at c.send_in_turn.ensures.sent) in
    record {
      sound = c.loop-number.invariant.sound;
      end = c.loop-number.invariant.end;
      few = c.loop-number.invariant.few;
      next = subst (λ k. IsNextBad k c.args.dev (c.loop-number.number + 1) c.in_ok-next_bad.next_bad) c.loop-number.invariant.sent.state (rw c.in_ok-next_bad.was at c.send_in_turn.ensures.next);
      calls = sector_read g.D.Disk.called c.args.machine.now c.loop-number.machine c.send_in_turn.new.machine c.args.dev c.loop-number.number c.loop-number.invariant.sent.state
          (omega (arith, c.loop-number-test.true, c.loop-number.invariant.end)) c.loop-number.invariant.calls c.send_in_turn.ensures.calls;
      sent = sends_next c.args.machine.now c.loop-number.machine c.send_in_turn.new.machine (g.S.Sink.state c.args.out.now) (g.S.Sink.state c.loop-number.out) (g.S.Sink.state c.send_in_turn.new.out) before after (λ k. spelled_record (record_of k (sector c.args.dev c.loop-number.number))) (tt {0}) (Ok (tt {0})) more
          c.loop-number.invariant.sent one;
      taken = takes_next {B = Unit {0}} c.args.machine.now c.loop-number.machine c.send_in_turn.new.machine (g.S.Sink.state c.args.out.now) (g.S.Sink.state c.loop-number.out) (prompt c.args.sum.now.taken) (prompt c.loop-number.sum.taken) (prompt c.send_in_turn.new.sum.taken) before after (λ k. spelled_record (record_of k (sector c.args.dev c.loop-number.number))) (tt {0}) (Ok (tt {0})) more
          c.loop-number.invariant.sent c.loop-number.invariant.taken (rw c.in_ok-next_bad.was at c.send_in_turn.ensures.taken);
    }

pub returns-in_err-next_bad-clause-calls : goal.returns-in_err-next_bad-clause-calls
returns-in_err-next_bad-clause-calls g c =
    let failed : c.from_residual.result ≡ Err c.in_err-next_bad.field-0.0 = search rules in
    let below : c.loop-number.number < size_on (state_of c.args.machine.now) c.args.dev = omega (arith, c.loop-number-test.true, c.loop-number.invariant.end) in
    rw failed (record {
      count = c.loop-number.number + 1;
      within = omega (arith, below);
      reads = sector_read g.D.Disk.called c.args.machine.now c.loop-number.machine c.send_in_turn.new.machine c.args.dev c.loop-number.number c.loop-number.invariant.sent.state below c.loop-number.invariant.calls c.send_in_turn.ensures.calls;
    })
