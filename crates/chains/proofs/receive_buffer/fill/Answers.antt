use Rattle.std.proofs.Common.{length, nat_lt, rules}
use Rattle.guestmem.proofs.WriteLaws.{set_all-append}
use Rattle.chains.proofs.EffectLaws.{after_touched, rises_touched}
use Rattle.chains.proofs.PlaceLaws.{place_writes_take}
use Rattle.chains.specs.Places.{places, place_writes}
use Rattle.chains.specs.Publish.{published, after_take}
use Rattle.chains.proofs.receive_buffer.fill.Goals as goal

pub returns-clause-filled : goal.returns-clause-filled
returns-clause-filled g c =
    let base = (g.R.Ring.state c.args.ring.now).base in
    let at = places c.args.chain.now.writable in
    let bytes = c.args.bytes.now in
    let us = place_writes base at bytes in
    let all = place_writes_take base at bytes in
    let last = published (after_take (g.R.Ring.state c.args.ring.now) c.args.chain.now.slots) c.args.chain.now.id c.args.chain.now.slots (length bytes) (nat_lt 0 (length bytes)) in
    record {
      due_is = search rules;
      ram_is = rw (set_all-append c.args.ram.now.bytes us last, ← all) (search rules);
      ring_is = search rules;
      items_are = record {
        log_is = rw (after_touched g.L.TouchLog.after c.args.log.now us last, ← all) (search rules);
        rises = rises_touched us last c.args.ram.now c.copy_in_with_base.new.ram c.publish.new.ram (rw (← all) (search rules)) (search rules);
      };
    }
