use Rattle.std.proofs.Common.{arith, length}
use Rattle.machine.proofs.At.{IsAt, own_base, sound_device}
use Rattle.machine.proofs.Writing.{stores_there, if_stores, none_stores}
use Rattle.machine.proofs.machine.lending.storing.MachineOver+D+Ram.storing.Goals as goal

pub storing-requires : goal.storing-requires
storing-requires g c =
    let i = c.self.inside in
    let at : IsAt i.devices.items c.args.dev c.index.result.now = record { below = omega arith; is = c.index.ensures } in
    rw c.state.ensures (record { sound = own_base (length i.ram.bytes) c.index.result.now.state (sound_device i.ram i.devices.items c.args.dev c.index.result.now at c.self.invariant.0.sound) })

pub returns-then-dev-len : goal.returns-then-dev-len
returns-then-dev-len g c =
    let i = c.self.inside in
    rw (← c.self.view_is) (none_stores i.ram i.devices.items c.args.dev c.args.pick c.new-then-dev-len.result (omega arith) c.new-then-dev-len.ensures)

pub returns : goal.returns
returns g c =
    let i = c.self.inside in
    let at : IsAt i.devices.items c.args.dev c.index.result.now = record { below = omega arith; is = c.index.ensures } in
    rw (← c.self.view_is) (if_stores _ _ c.storing.result (λ x. stores_there i.ram i.devices.items c.args.dev c.args.pick c.index.result.now x at) (rw c.state.ensures at c.storing.ensures))
