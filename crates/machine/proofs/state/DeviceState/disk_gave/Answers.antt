use Rattle.std.proofs.Common.{length}
use Rattle.machine.proofs.DiskAnswers.{requests_sound}
use Rattle.machine.proofs.Stepping.{held_device}
use Rattle.machine.proofs.state.DeviceState.disk_gave.Goals as goal

pub disk_gave-requires-clause-sound : goal.disk_gave-requires-clause-sound
disk_gave-requires-clause-sound g c =
    let i = c.self.inside in
    rw c.ram_base-base.ensures (requests_sound (length c.args.ram.now.bytes) (held_device i.kind i.registers i.positions) c.in-Outside.block c.in-Outside.is (rw (← c.self.view_is) at c.requires.sound))
