use Rattle.machine.proofs.Over.{held_at}
use Rattle.machine.proofs.Parking.{few_held}
use Rattle.machine.proofs.machine.MachineOver.lines.Goals as goal

pub lines_of-requires : goal.lines_of-requires
lines_of-requires g c =
    let i = c.self.inside in
    let there = c.size-size.ensures.some in
    rw c.as_slice.ensures.value (few_held i.shapes.items _ (held_at (g.M.GuestRam.known i.ram) i.shapes.items i.rings.items i.devices.items c.self.invariant there.0 there.1))

pub returns : goal.returns
returns g c = rw (← c.self.view_is) (rw c.as_slice.ensures.value at c.lines_of.ensures)
