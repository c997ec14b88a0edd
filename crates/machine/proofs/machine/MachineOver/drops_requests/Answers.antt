use Rattle.std.proofs.Common.{arith, length}
use Rattle.machine.proofs.At.{IsAt, found, own_base, sound_device}
use Rattle.machine.proofs.Over.{held_at}
use Rattle.machine.proofs.machine.MachineOver.drops_requests.Goals as goal

pub drops_requests-requires : goal.drops_requests-requires
drops_requests-requires g c =
    let i = c.self.inside in
    let at : IsAt i.devices.items c.args.dev c.index.result.now = record { below = omega arith; is = c.index.ensures } in
    let there = c.size.ensures.some in
    let sound = sound_device there.0 i.devices.items c.args.dev c.index.result.now at (held_at (g.M.GuestRam.known i.ram) i.shapes.items i.rings.items i.devices.items c.self.invariant there.0 there.1).sound in
    rw (c.state-state.ensures, ← c.size.ensures.each there.0 there.1) (record { sound = own_base (length there.0.bytes) c.index.result.now.state sound })

pub returns : goal.returns
returns g c =
    let i = c.self.inside in
    let at : IsAt i.devices.items c.args.dev c.index.result.now = record { below = omega arith; is = c.index.ensures } in
    let there = found i.devices.items c.args.dev c.index.result.now at in
    rw (← c.self.view_is) (rw there (rw c.state-state.ensures at c.drops_requests.ensures))
