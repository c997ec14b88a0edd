use Rattle.std.proofs.Common.{length}
use Rattle.machine.proofs.DiskAnswers.{requests_sound}
use Rattle.machine.proofs.Stepping.{held_device}
use Rattle.machine.proofs.state.DeviceState.written_bytes.Goals as goal

pub written_bytes-requires : goal.written_bytes-requires
written_bytes-requires c =
    let i = c.self.inside in
    rw c.ram_base-base.ensures (record { sound = requests_sound (length c.args.ram.now.bytes) (held_device i.kind i.registers i.positions) c.in-Outside.block c.in-Outside.is (rw (← c.self.view_is) at c.requires.sound) })
