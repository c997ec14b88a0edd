use Rattle.std.proofs.Common.{length}
use Rattle.chains.proofs.LackLaws.{lacks_then}
use Rattle.machine.proofs.DiskAnswers.{requests_sound}
use Rattle.machine.proofs.Lacking.{advanced_blocks, advanced_outside, block_sound}
use Rattle.machine.proofs.Stepping.{held_device}
use Rattle.machine.proofs.state.DeviceState.lacks_advanced.Goals as goal

pub lacks-requires : goal.lacks-requires
lacks-requires c =
    let i = c.self.inside in
    rw c.ram_base-base.ensures (record { sound = block_sound (length c.args.ram.now.bytes) (held_device i.kind i.registers i.positions) c.in-Block.block c.in-Block.is (rw (← c.self.view_is) at c.requires.sound) })

pub lacks-requires-in-Outside : goal.lacks-requires-in-Outside
lacks-requires-in-Outside c =
    let i = c.self.inside in
    rw c.ram_base-base.ensures (record { sound = requests_sound (length c.args.ram.now.bytes) (held_device i.kind i.registers i.positions) c.in-Outside.block c.in-Outside.is (rw (← c.self.view_is) at c.requires.sound) })

pub returns-in-Block : goal.returns-in-Block
returns-in-Block c =
    let i = c.self.inside in
    let d = held_device i.kind i.registers i.positions in
    let ram = c.args.ram.now.bytes in
    let held = c.args.held.now in
    let known = advanced_blocks d held ram c.args.pick c.in-Block.block c.in-Block.is (rw (← c.self.view_is) at c.requires.unlooked) in
    rw (← c.self.view_is) (lacks_then (length ram) held c.lacks.result known (rw c.ram_base-base.ensures at c.lacks.ensures))

pub returns-in-Outside : goal.returns-in-Outside
returns-in-Outside c =
    let i = c.self.inside in
    let d = held_device i.kind i.registers i.positions in
    let ram = c.args.ram.now.bytes in
    let held = c.args.held.now in
    let known = advanced_outside d held ram c.args.pick c.in-Outside.block c.in-Outside.is (rw (← c.self.view_is) at c.requires.unlooked) in
    rw (← c.self.view_is) (lacks_then (length ram) held c.lacks-in-Outside.result known (rw c.ram_base-base.ensures at c.lacks-in-Outside.ensures))
