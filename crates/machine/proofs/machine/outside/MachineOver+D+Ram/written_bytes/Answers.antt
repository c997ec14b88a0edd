use Rattle.std.proofs.Common.{arith, length}
use Rattle.machine.proofs.At.{IsAt, found, own_base, sound_device}
use Rattle.machine.proofs.machine.outside.MachineOver+D+Ram.written_bytes.Goals as goal

pub written_bytes-requires : goal.written_bytes-requires
written_bytes-requires g c =
    let i = c.self.inside in
    let at : IsAt i.devices.items c.args.dev c.index.result.now = record { below = omega arith; is = c.index.ensures } in
    rw c.state.ensures (record { sound = own_base (length i.ram.bytes) c.index.result.now.state (sound_device i.ram i.devices.items c.args.dev c.index.result.now at c.self.invariant.0.sound) })

pub returns : goal.returns
returns g c =
    let i = c.self.inside in
    let at : IsAt i.devices.items c.args.dev c.index.result.now = record { below = omega arith; is = c.index.ensures } in
    let count = rw c.state.ensures at c.written_bytes.ensures.count in
    let bytes = rw c.state.ensures at c.written_bytes.ensures.bytes in
    let there = found i.devices.items c.args.dev c.index.result.now at in
    rw (← c.self.view_is) (record { count_is = rw there count; bytes_are = rw there bytes })
