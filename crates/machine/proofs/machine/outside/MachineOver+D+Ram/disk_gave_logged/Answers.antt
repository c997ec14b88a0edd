use Rattle.std.proofs.Common.{ap, arith, length, refl}
use Rattle.guestmem.proofs.LaterLaws.{later_same}
use Rattle.guestmem.specs.Rises.{Touches}
use Rattle.guestmem.proofs.RisesLaws.{touches_none}
use Rattle.blk.specs.Outside.{Gave}
use Rattle.machine.specs.Outcome.{outcome_of}
use Rattle.machine.specs.Outside.{disk_reply}
use Rattle.machine.specs.Seen.{DeviceSeen, state_of}
use Rattle.machine.specs.declared.event.DiskAnswer.TheVariants as answers
use Rattle.machine.specs.declared.event.Event.TheVariants as events
use Rattle.machine.specs.declared.reply.Refusal.TheVariants as refusals
use Rattle.machine.specs.declared.reply.Reply.TheVariants as replies
use Rattle.machine.proofs.At.{IsAt, applied_logged, held_step, map-set_same, own_base, plain_step, sound_device}
use Rattle.machine.proofs.Calling.{none_called}
use Rattle.machine.proofs.DiskEvents.{handed_step, missing_handed}
use Rattle.machine.proofs.Keeping.{rings_later, rings_stay}
use Rattle.machine.proofs.machine.outside.MachineOver+D+Ram.disk_gave_logged.Goals as goal

pub returns-then-number-len-clause-applied : goal.returns-then-number-len-clause-applied
returns-then-number-len-clause-applied g c =
    let i = c.self.inside in
    rw (← c.self.view_is)
    (applied_logged g.L.TouchLog.after i.shapes.items (record { memory = i.ram; devices = i.devices.items }) _ c.args.log.now c.args.log.now (events.Disk c.args.dev c.args.pick (answers.Gave c.args.bytes.now)) (replies.Refused refusals.NoDevice) c.self.invariant.0 (c.ranges.dev.fits, c.ranges.pick.fits, λ k. omega (arith, c.type_inv.bytes k))
    (missing_handed _ i.ram i.devices.items c.args.dev c.args.pick (answers.Gave c.args.bytes.now) (omega arith) (touches_none g.L.TouchLog.after c.args.log.now c.args.log.now i.ram i.ram refl refl)) (later_same i.ram) refl tt tt)

pub disk_gave-gave-requires-clause-sound : goal.disk_gave-gave-requires-clause-sound
disk_gave-gave-requires-clause-sound g c =
    let i = c.self.inside in
    own_base (length i.ram.bytes) c.index_mut.result.now.state (sound_device i.ram i.devices.items c.args.dev c.index_mut.result.now (record { below = omega arith; is = c.index_mut.ensures.value }) c.self.invariant.0.sound)

pub invariant_of-self : goal.invariant_of-self
invariant_of-self g c =
    let i = c.self.inside in
    let d = c.index_mut.result.now in
    let n = c.disk_gave-gave.new in
    let at : IsAt i.devices.items c.args.dev d = record { below = omega arith; is = c.index_mut.ensures.value } in
    let given = answers.Gave c.args.bytes.now in
    let reply = disk_reply (Gave c.args.bytes.now) c.disk_gave-gave.result in
    let step = handed_step (Touches g.L.TouchLog.after c.args.log.now n.log i.ram n.ram) i.ram n.ram i.devices.items c.args.dev c.args.pick d n.self given c.disk_gave-gave.result at c.disk_gave-gave.ensures.disk c.disk_gave-gave.ensures.taken in (
      held_step i.shapes.items (record { memory = i.ram; devices = i.devices.items }) _ (events.Disk c.args.dev c.args.pick given) (outcome_of reply) reply c.self.invariant.0 (c.ranges.dev.fits, c.ranges.pick.fits, c.recall_bytes.ensures)
          (plain_step _ (state_of (record { memory = i.ram; devices = i.devices.items })) _ (events.Disk c.args.dev c.args.pick given) reply step),
      rings_stay i.rings.items n.ram i.devices.items c.args.dev n.self (rings_later i.rings.items i.ram n.ram (length i.devices.items) c.self.invariant.1 c.disk_gave-gave.ensures.later),
    )

pub returns-clause-applied : goal.returns-clause-applied
returns-clause-applied g c =
    let i = c.self.inside in
    let d = c.index_mut.result.now in
    let n = c.disk_gave-gave.new in
    let at : IsAt i.devices.items c.args.dev d = record { below = omega arith; is = c.index_mut.ensures.value } in
    let given = answers.Gave c.args.bytes.now in
    rw (← c.self.view_is)
    (applied_logged g.L.TouchLog.after i.shapes.items (record { memory = i.ram; devices = i.devices.items }) _ c.args.log.now n.log (events.Disk c.args.dev c.args.pick given) (disk_reply (Gave c.args.bytes.now) c.disk_gave-gave.result) c.self.invariant.0 (c.ranges.dev.fits, c.ranges.pick.fits, c.recall_bytes.ensures)
    (handed_step _ i.ram n.ram i.devices.items c.args.dev c.args.pick d n.self given c.disk_gave-gave.result at c.disk_gave-gave.ensures.disk c.disk_gave-gave.ensures.taken) c.disk_gave-gave.ensures.later
    (map-set_same (λ (x : DeviceSeen). x.marks) i.devices.items c.args.dev d n.self at (ap (λ (x : DeviceSeen). x.marks) c.disk_gave-gave.ensures.disk)) tt tt)

pub returns-clause-calls : goal.returns-clause-calls
returns-clause-calls g c =
    let i = c.self.inside in
    let at : IsAt i.devices.items c.args.dev c.index_mut.result.now = record { below = omega arith; is = c.index_mut.ensures.value } in
    rw (← c.self.view_is) (none_called i.devices.items c.args.dev c.index_mut.result.now c.disk_gave-gave.new.self at (ap (λ (x : DeviceSeen). x.calls) c.disk_gave-gave.ensures.disk))
