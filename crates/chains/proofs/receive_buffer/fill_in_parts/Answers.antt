use Rattle.std.proofs.Common.{◌+◌, length, take, drop, nat_lt, arith, rules, length-append}
use Rattle.chains.specs.Places.{places, place_writes}
use Rattle.chains.specs.Publish.{published, after_take}
use Rattle.chains.proofs.Filling.{parts_then, set_three, told_three, rises_three}
use Rattle.chains.proofs.receive_buffer.fill_in_parts.Goals as goal

pub returns-clause-filled : goal.returns-clause-filled
returns-clause-filled g c =
    let at = places c.args.chain.now.writable in
    let front = c.args.front.now in
    let back = c.args.back.now in
    let len = length front + length back in
    let last = published (after_take (g.R.Ring.state c.args.ring.now) c.args.chain.now.slots) c.args.chain.now.id c.args.chain.now.slots len (nat_lt 0 len) in
    let us = place_writes (g.R.Ring.state c.args.ring.now).base (take (length front) (drop 0 at)) front in
    let vs = place_writes (g.R.Ring.state c.args.ring.now).base (take (length back) (drop (length front) at)) back in
    let parts = parts_then (g.R.Ring.state c.args.ring.now).base at front back last (omega arith) in
    record {
      due_is = search rules;
      ram_is = rw (length-append front back, parts, ← set_three c.args.ram.now.bytes us vs last) (search rules);
      ring_is = search rules;
      items_are = record {
        log_is = rw (length-append front back, parts, ← told_three g.L.TouchLog.after c.args.log.now us vs last) (search rules);
        rises = rw (length-append front back, parts) (rises_three us vs last c.args.ram.now c.copy_in_with_base.new.ram c.copy_in_with_base-2.new.ram c.publish.new.ram (search rules) (search rules) (search rules));
      };
    }
