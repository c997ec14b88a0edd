use Rattle.std.proofs.Common.{length, refl, arith}
use Rattle.guestmem.specs.Item.{sector}
use Rattle.guestmem.proofs.LaterLaws.{later_same}
use Rattle.guestmem.proofs.RisesLaws.{touches_none}
use Rattle.machine.specs.declared.event.Event.TheVariants as events
use Rattle.machine.specs.declared.reply.Refusal.TheVariants as refusals
use Rattle.machine.specs.declared.reply.Reply.TheVariants as replies
use Rattle.machine.specs.Stepped.{reply_in}
use Rattle.machine.proofs.Keeping.{rings_stepped}
use Rattle.machine.proofs.At.{IsAt, applied_logged, has_disk, has_sector, held_worked, missing_step, own_base, sound_device, worked}
use Rattle.machine.proofs.Calling.{past_called, step_called}
use Rattle.machine.proofs.machine.direct.MachineOver+D+Ram.step_into_logged.Goals as goal

pub returns-then-number-len-clause-applied : goal.returns-then-number-len-clause-applied
returns-then-number-len-clause-applied g c =
    let i = c.self.inside in
    rw (← c.self.view_is)
    (applied_logged g.L.TouchLog.after i.shapes.items (record { memory = i.ram; devices = i.devices.items }) _ c.args.log.now c.args.log.now (events.Step c.args.dev c.args.pick) (replies.Refused refusals.NoDevice) c.self.invariant.0 (c.ranges.dev.fits, c.ranges.pick.fits)
    (missing_step _ i.ram i.devices.items c.args.dev c.args.pick (omega arith) (touches_none g.L.TouchLog.after c.args.log.now c.args.log.now i.ram i.ram refl refl)) (later_same i.ram) refl (λ h. cc) (record { others = λ k other. refl; flushed = λ makes done. cc }))

pub returns-clause-applied : goal.returns-clause-applied
returns-clause-applied g c =
    let i = c.self.inside in
    let d = c.index_mut-device.result.now in
    let at : IsAt i.devices.items c.args.dev d = record { below = omega arith; is = c.index_mut-device.ensures.value } in
    rw (← c.self.view_is)
    (worked g.L.TouchLog.after i.shapes.items i.ram c.step-stepped.new.ram c.args.log.now c.step-stepped.new.log i.devices.items c.args.dev c.args.pick d c.step-stepped.new.self (reply_in c.step-stepped.result c.step-stepped.new.sent.items) c.self.invariant.0 at c.step-stepped.ensures.step c.step-stepped.ensures.later.bytes c.recall.ensures.bytes c.step-stepped.ensures.whole c.step-stepped.ensures.capacity
    c.step-stepped.ensures.later c.step-stepped.ensures.marks c.step-stepped.ensures.unsteady c.step-stepped.ensures.flushed)

pub returns-then-number-len-clause-calls : goal.returns-then-number-len-clause-calls
returns-then-number-len-clause-calls g c =
    let i = c.self.inside in
    rw (← c.self.view_is) (past_called g.D.Disk.called i.ram i.devices.items c.args.dev c.args.pick (replies.Refused refusals.NoDevice) (omega arith))

pub returns-clause-calls : goal.returns-clause-calls
returns-clause-calls g c =
    let i = c.self.inside in
    let at : IsAt i.devices.items c.args.dev c.index_mut-device.result.now = record { below = omega arith; is = c.index_mut-device.ensures.value } in
    rw (← c.self.view_is)
    (step_called g.D.Disk.called i.ram c.step-stepped.new.ram i.devices.items c.args.dev c.args.pick c.index_mut-device.result.now c.step-stepped.new.self (reply_in c.step-stepped.result c.step-stepped.new.sent.items) at c.step-stepped.ensures.calls)

pub step-stepped-requires-clause-sound : goal.step-stepped-requires-clause-sound
step-stepped-requires-clause-sound g c =
    let i = c.self.inside in
    own_base (length i.ram.bytes) c.index_mut-device.result.now.state (sound_device i.ram i.devices.items c.args.dev c.index_mut-device.result.now (record { below = omega arith; is = c.index_mut-device.ensures.value }) c.self.invariant.0.sound)

pub step-stepped-requires-clause-capacity : goal.step-stepped-requires-clause-capacity
step-stepped-requires-clause-capacity g c =
    let i = c.self.inside in
    (has_disk i.ram i.devices.items c.args.dev c.index_mut-device.result.now (record { below = omega arith; is = c.index_mut-device.ensures.value }) c.self.invariant.0.sound).count

pub step-stepped-requires-clause-whole : goal.step-stepped-requires-clause-whole
step-stepped-requires-clause-whole g c =
    let i = c.self.inside in
    (has_disk i.ram i.devices.items c.args.dev c.index_mut-device.result.now (record { below = omega arith; is = c.index_mut-device.ensures.value }) c.self.invariant.0.sound).whole

pub step-stepped-requires-clause-may_sectors : goal.step-stepped-requires-clause-may_sectors
step-stepped-requires-clause-may_sectors g c = λ n below.
    let i = c.self.inside in
    let d = c.index_mut-device.result.now in
    c.requires.may (sector c.args.dev n) (rw (← c.self.view_is) (has_sector i.ram i.devices.items c.args.dev n d (record { below = omega arith; is = c.index_mut-device.ensures.value }) below))

pub invariant_of-self : goal.invariant_of-self
invariant_of-self g c =
    let i = c.self.inside in
    let d = c.index_mut-device.result.now in
    let at : IsAt i.devices.items c.args.dev d = record { below = omega arith; is = c.index_mut-device.ensures.value } in (
      held_worked _ i.shapes.items i.ram c.step-stepped.new.ram i.devices.items c.args.dev c.args.pick d c.step-stepped.new.self (reply_in c.step-stepped.result c.step-stepped.new.sent.items) c.self.invariant.0 at c.step-stepped.ensures.step c.step-stepped.ensures.later.bytes c.recall.ensures.bytes c.step-stepped.ensures.whole c.step-stepped.ensures.capacity,
      rings_stepped c.self.inside.rings.items c.self.inside.ram c.step-stepped.new.ram c.self.inside.devices.items c.args.dev c.step-stepped.new.self c.ring_of.result c.step-stepped.new.ring c.self.invariant.1 c.step-stepped.ensures.later c.step-stepped.ensures.fits,
    )
