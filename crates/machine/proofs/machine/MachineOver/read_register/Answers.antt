use Rattle.std.proofs.Common.{arith}
use Rattle.machine.proofs.At.{IsAt}
use Rattle.machine.proofs.Known.{between_same}
use Rattle.machine.proofs.Missing.{missing_read, read_there}
use Rattle.machine.proofs.Over.{held_at}
use Rattle.machine.proofs.machine.MachineOver.read_register.Goals as goal

pub returns : goal.returns
returns g c =
    let i = c.self.inside in
    let at : IsAt i.devices.items c.args.dev c.index.result.now = record { below = omega arith; is = c.index.ensures } in
    rw (← c.self.view_is, c.read_register.ensures)
    (between_same (g.M.GuestRam.known i.ram) _ (λ m may. read_there i.shapes.items m i.devices.items c.args.dev c.args.offset c.args.width c.index.result.now (held_at (g.M.GuestRam.known i.ram) i.shapes.items i.rings.items i.devices.items c.self.invariant m may) (c.ranges.dev.fits, c.ranges.offset.fits, c.ranges.width.fits) at))

pub returns-then-dev-len : goal.returns-then-dev-len
returns-then-dev-len g c =
    let i = c.self.inside in
    rw (← c.self.view_is) (between_same (g.M.GuestRam.known i.ram) _ (λ m may. missing_read i.shapes.items m i.devices.items c.args.dev c.args.offset c.args.width (held_at (g.M.GuestRam.known i.ram) i.shapes.items i.rings.items i.devices.items c.self.invariant m may) (c.ranges.dev.fits, c.ranges.offset.fits, c.ranges.width.fits) (omega arith)))
