use Rattle.std.proofs.Common.{ap, ◌∙◌, length}
use Rattle.blk.proofs.Limits.{widest_sound}
use Rattle.blk.specs.Block.{limits_of}
use Rattle.chains.proofs.FrameLaws.{fits_on}
use Rattle.machine.specs.DeviceStep.{is_advance_due}
use Rattle.machine.specs.declared.kind.Kind.TheVariants.{Block}
use Rattle.machine.proofs.Advancing.{advanced_is}
use Rattle.machine.proofs.Calling.{advance_asks}
use Rattle.machine.proofs.Staying.{due_registers}
use Rattle.machine.proofs.Stepping.{advanced_ring, advanced_sound, advanced_step, has_queue, held_device}
use Rattle.machine.proofs.state.DeviceState.advance.Goals as goal

pub advance-advanced-requires-clause-ready : goal.advance-advanced-requires-clause-ready
advance-advanced-requires-clause-ready g c =
    let ring = advanced_ring (length c.args.ram.now.bytes) c.args.self.now c.args.work.pick (g.R.Ring.state c.args.ring.now) c.requires.sound c.requires.advanced in
    record { areas = ring.areas; pages = c.requires.may }

pub advance-advanced-requires-clause-sound : goal.advance-advanced-requires-clause-sound
advance-advanced-requires-clause-sound g c =
    let i = c.self.inside in
    let block = c.in-Block.block in
    let q = g.R.Ring.state c.args.ring.now in
    widest_sound (length c.args.ram.now.bytes) q (limits_of block i.registers.common.features) block.requests
    (advanced_sound (length c.args.ram.now.bytes) (held_device i.kind i.registers i.positions) block c.args.work.pick q (rw (← c.self.view_is) at c.requires.sound) (rw (← c.self.view_is) at c.requires.advanced) c.in-Block.is)

pub returns-clause-step : goal.returns-clause-step
returns-clause-step g c = λ sent.
    let i = c.self.inside in
    let block = c.in-Block.block in
    let q = g.R.Ring.state c.args.ring.now in
    let n = c.advance-advanced.new in
    let a = c.advance-advanced.result in
    let sound = rw (← c.self.view_is, c.in-Block.is) at c.requires.sound in
    let advanced = rw (← c.self.view_is, c.in-Block.is) at c.requires.advanced in
    rw (← c.self.view_is, c.reply_to_advance.ensures sent, c.positions.ensures, c.in-Block.is)
    (advanced_step _ c.args.work.dev c.args.sectors.now.honest c.args.ram.now.bytes c.args.sectors.now.content block i.registers i.positions c.args.work.pick q a n.ram.bytes (g.R.Ring.state n.ring) n.sectors.content n.self c.raise_if.new.registers
    (has_queue (held_device (Block block) i.registers i.positions) c.args.work.pick q (length c.args.ram.now.bytes) sound advanced) (rw (← c.self.view_is, c.in-Block.is) at c.requires.unlooked) advanced
    c.advance-advanced.ensures.changes (rw c.is_due.ensures at c.raise_if.ensures)
    (ap (λ r. length r.queues) (rw c.is_due.ensures at c.raise_if.ensures) ∙ (due_registers i.registers (is_advance_due a) sound.registers).same.queue_count))

pub returns-clause-fits : goal.returns-clause-fits
returns-clause-fits g c = fits_on _ _ _ _ c.requires.fits c.advance-advanced.ensures.after.later c.advance-advanced.ensures.decoder

pub returns-clause-calls : goal.returns-clause-calls
returns-clause-calls g c = λ sent.
    let i = c.self.inside in
    let block = c.in-Block.block in
    let look = advanced_is (length c.args.ram.now.bytes) (held_device i.kind i.registers i.positions) c.args.work.pick (g.R.Ring.state c.args.ring.now) (rw (← c.self.view_is) at c.requires.sound) (rw (← c.self.view_is) at c.requires.advanced) in
    rw (← c.self.view_is, advance_asks (held_device i.kind i.registers i.positions) block c.args.work.pick c.advance-advanced.result _ c.in-Block.is look.advances (c.reply_to_advance.ensures sent)) c.advance-advanced.ensures.calls
