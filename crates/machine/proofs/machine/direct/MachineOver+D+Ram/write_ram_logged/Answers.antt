use Rattle.std.proofs.Common.{◌≡◌, refl, sym, ◌∙◌, arith}
use Rattle.guestmem.proofs.LaterLaws.{later_same}
use Rattle.guestmem.specs.Rises.{Touches}
use Rattle.guestmem.proofs.RisesLaws.{touches_none}
use Rattle.machine.specs.Outcome.{fine}
use Rattle.machine.specs.Seen.{state_of}
use Rattle.machine.specs.declared.event.Event.TheVariants as events
use Rattle.machine.specs.declared.reply.Reply.TheVariants as replies
use Rattle.machine.proofs.Keeping.{rings_later}
use Rattle.machine.proofs.At.{applied_logged, held_step, plain_step, seen_base, stored_step, unstored_step}
use Rattle.machine.proofs.machine.direct.MachineOver+D+Ram.write_ram_logged.Goals as goal

pub returns-in-Some-clause-applied : goal.returns-in-Some-clause-applied
returns-in-Some-clause-applied g c =
    let i = c.self.inside in
    let based : c.base-base.result ≡ seen_base i.devices.items = rw (← c.self.view_is) at c.base-base.ensures in
    rw (← c.self.view_is)
    (applied_logged g.L.TouchLog.after i.shapes.items (record { memory = i.ram; devices = i.devices.items }) _ c.args.log.now c.args.log.now (events.MemWrite c.args.addr c.args.bytes.now) (replies.Refused c.from.result) c.self.invariant.0 (c.ranges.addr.fits, λ k. omega (arith, c.type_inv.bytes k))
    (unstored_step _ i.ram i.devices.items c.args.addr c.args.bytes.now c.in-Some.error c.from.result (rw (based, c.len.ensures) at (sym c.access_refusal.ensures.refusal ∙ c.in-Some.is)) c.from.ensures (touches_none g.L.TouchLog.after c.args.log.now c.args.log.now i.ram i.ram refl refl)) (later_same i.ram) refl tt tt)

pub invariant_of-self : goal.invariant_of-self
invariant_of-self g c =
    let i = c.self.inside in
    let based : c.base-base.result ≡ seen_base i.devices.items = rw (← c.self.view_is) at c.base-base.ensures in
    let step = stored_step (Touches g.L.TouchLog.after c.args.log.now c.put.new.log i.ram c.put.new.self) i.ram c.put.new.self i.devices.items c.args.addr c.args.bytes.now (rw (based, c.len.ensures) at (sym c.access_refusal.ensures.refusal ∙ c.in_default.is)) (rw based at c.put.ensures.bytes) (rw (← based) (record { log_is = c.put.ensures.log; rises = c.put.ensures.rises })) in (
      held_step i.shapes.items (record { memory = i.ram; devices = i.devices.items }) _ (events.MemWrite c.args.addr c.args.bytes.now) fine replies.Done c.self.invariant.0 (c.ranges.addr.fits, c.recall_bytes.ensures)
          (plain_step _ (state_of (record { memory = i.ram; devices = i.devices.items })) _ (events.MemWrite c.args.addr c.args.bytes.now) replies.Done step),
      rings_later c.self.inside.rings.items c.self.inside.ram c.put.new.self _ c.self.invariant.1 c.put.ensures.later,
    )

pub returns-clause-applied : goal.returns-clause-applied
returns-clause-applied g c =
    let i = c.self.inside in
    let based : c.base-base.result ≡ seen_base i.devices.items = rw (← c.self.view_is) at c.base-base.ensures in
    let step = stored_step (Touches g.L.TouchLog.after c.args.log.now c.put.new.log i.ram c.put.new.self) i.ram c.put.new.self i.devices.items c.args.addr c.args.bytes.now (rw (based, c.len.ensures) at (sym c.access_refusal.ensures.refusal ∙ c.in_default.is)) (rw based at c.put.ensures.bytes) (rw (← based) (record { log_is = c.put.ensures.log; rises = c.put.ensures.rises })) in
    rw (← c.self.view_is)
    (applied_logged g.L.TouchLog.after i.shapes.items (record { memory = i.ram; devices = i.devices.items }) _ c.args.log.now c.put.new.log (events.MemWrite c.args.addr c.args.bytes.now) replies.Done c.self.invariant.0 (c.ranges.addr.fits, c.recall_bytes.ensures)
    step c.put.ensures.later refl tt tt)
