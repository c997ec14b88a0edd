use Rattle.std.proofs.Common.{ap, ◌∙◌, length, refl}
use Rattle.blk.proofs.Limits.{widest_sound}
use Rattle.blk.specs.Block.{limits_of}
use Rattle.chains.proofs.FrameLaws.{fits_on}
use Rattle.machine.specs.DeviceStep.{is_advance_due}
use Rattle.machine.specs.declared.kind.Kind.TheVariants.{Outside}
use Rattle.machine.proofs.Staying.{due_registers}
use Rattle.machine.proofs.Stepping.{advanced_outside, advanced_ring, has_queue, held_device, outside_free, outside_sound}
use Rattle.machine.proofs.state.DeviceState.advance_outside.Goals as goal

pub advance_outside-advanced-requires-clause-ready : goal.advance_outside-advanced-requires-clause-ready
advance_outside-advanced-requires-clause-ready g c =
    let ring = advanced_ring (length c.args.ram.now.bytes) c.args.self.now c.args.work.pick (g.R.Ring.state c.args.ring.now) c.requires.sound c.requires.advanced in
    record { areas = ring.areas; pages = c.requires.may }

pub advance_outside-advanced-requires-clause-sound : goal.advance_outside-advanced-requires-clause-sound
advance_outside-advanced-requires-clause-sound g c =
    let i = c.self.inside in
    let block = c.in-Outside.block in
    let q = g.R.Ring.state c.args.ring.now in
    widest_sound (length c.args.ram.now.bytes) q (limits_of block i.registers.common.features) block.requests
    (outside_sound (length c.args.ram.now.bytes) (held_device i.kind i.registers i.positions) block c.args.work.pick q (rw (← c.self.view_is) at c.requires.sound) (rw (← c.self.view_is) at c.requires.advanced) c.in-Outside.is)

pub returns-clause-step : goal.returns-clause-step
returns-clause-step g c = λ sent honest content whole.
    let i = c.self.inside in
    let block = c.in-Outside.block in
    let q = g.R.Ring.state c.args.ring.now in
    let n = c.advance_outside-advanced.new in
    let a = c.advance_outside-advanced.result in
    let sound = rw (← c.self.view_is, c.in-Outside.is) at c.requires.sound in
    let advanced = rw (← c.self.view_is, c.in-Outside.is) at c.requires.advanced in
    let d = held_device (Outside block) i.registers i.positions in
    let len = length c.args.ram.now.bytes in
    rw (← c.self.view_is, c.reply_to_advance.ensures sent, c.positions.ensures, c.in-Outside.is)
    (advanced_outside _ c.args.work.dev honest c.args.ram.now.bytes content block i.registers i.positions c.args.work.pick q a n.ram.bytes (g.R.Ring.state n.ring) n.self c.raise_if.new.registers
    whole (has_queue d c.args.work.pick q len sound advanced) (rw (← c.self.view_is, c.in-Outside.is) at c.requires.unlooked) advanced (outside_free len d block c.args.work.pick q sound advanced refl)
    c.advance_outside-advanced.ensures.changes (rw c.is_due.ensures at c.raise_if.ensures)
    (ap (λ r. length r.queues) (rw c.is_due.ensures at c.raise_if.ensures) ∙ (due_registers i.registers (is_advance_due a) sound.registers).same.queue_count))

pub returns-clause-fits : goal.returns-clause-fits
returns-clause-fits g c = fits_on _ _ _ _ c.requires.fits c.advance_outside-advanced.ensures.after.later c.advance_outside-advanced.ensures.decoder
