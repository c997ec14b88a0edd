use Rattle.std.proofs.Common.{arith, length}
use Rattle.machine.proofs.At.{IsAt, found, own_base, sound_device}
use Rattle.machine.proofs.DiskEvents.{may_ask_there}
use Rattle.machine.proofs.machine.outside.MachineOver+D+Ram.disk_call.Goals as goal

pub outside_call-requires : goal.outside_call-requires
outside_call-requires g c =
    let i = c.self.inside in
    let at : IsAt i.devices.items c.args.dev c.index.result.now = record { below = omega arith; is = c.index.ensures } in
    rw c.state.ensures (record { sound = (length i.ram.bytes, own_base (length i.ram.bytes) c.index.result.now.state (sound_device i.ram i.devices.items c.args.dev c.index.result.now at c.self.invariant.0.sound)) })

pub returns-clause-asked : goal.returns-clause-asked
returns-clause-asked g c =
    let i = c.self.inside in
    let at : IsAt i.devices.items c.args.dev c.index.result.now = record { below = omega arith; is = c.index.ensures } in
    rw (← c.self.view_is, found i.devices.items c.args.dev c.index.result.now at) (rw c.state.ensures at c.outside_call.ensures.asked)

pub returns-clause-allowed : goal.returns-clause-allowed
returns-clause-allowed g c =
    let i = c.self.inside in
    let at : IsAt i.devices.items c.args.dev c.index.result.now = record { below = omega arith; is = c.index.ensures } in
    rw (← c.self.view_is) (may_ask_there i.devices.items c.args.dev c.index.result.now c.outside_call.result at (rw c.state.ensures at c.outside_call.ensures.allowed))
