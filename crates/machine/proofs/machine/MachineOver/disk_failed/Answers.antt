use Rattle.std.proofs.Common.{arith}
use Rattle.machine.specs.declared.event.DiskAnswer.TheVariants as answers
use Rattle.machine.proofs.At.{IsAt}
use Rattle.machine.proofs.OutsideOver.{answer_applies, answer_calls, answer_kept, answer_missing, answer_sectors}
use Rattle.machine.proofs.machine.MachineOver.disk_failed.Goals as goal

pub invariant_of-self : goal.invariant_of-self
invariant_of-self g c =
    let i = c.self.inside in
    let was = c.disk_failed in
    let at : IsAt i.devices.items c.args.dev c.index_mut.result.now = record { below = omega arith; is = c.index_mut.ensures.value } in
    (answer_kept (g.M.GuestRam.known i.ram) i.shapes.items i.rings.items i.devices.items c.self.invariant c.args.dev c.args.pick answers.Failed tt (c.ranges.dev.fits, c.ranges.pick.fits, tt) c.index_mut.result.now was.new.self was.result at was.ensures.disk was.ensures.taken)

pub returns-clause-applied : goal.returns-clause-applied
returns-clause-applied g c =
    let i = c.self.inside in
    let was = c.disk_failed in
    let at : IsAt i.devices.items c.args.dev c.index_mut.result.now = record { below = omega arith; is = c.index_mut.ensures.value } in
    rw (← c.self.view_is) (answer_applies (g.M.GuestRam.known i.ram) i.shapes.items i.rings.items i.devices.items c.self.invariant c.args.dev c.args.pick answers.Failed tt (c.ranges.dev.fits, c.ranges.pick.fits, tt) c.index_mut.result.now was.new.self was.result at was.ensures.disk was.ensures.taken)

pub returns-clause-sectors : goal.returns-clause-sectors
returns-clause-sectors g c =
    let i = c.self.inside in
    let was = c.disk_failed in
    let at : IsAt i.devices.items c.args.dev c.index_mut.result.now = record { below = omega arith; is = c.index_mut.ensures.value } in
    rw (← c.self.view_is) (answer_sectors (g.M.GuestRam.known i.ram) i.shapes.items i.rings.items i.devices.items c.self.invariant c.args.dev c.args.pick answers.Failed tt (c.ranges.dev.fits, c.ranges.pick.fits, tt) c.index_mut.result.now was.new.self was.result at was.ensures.disk was.ensures.taken)

pub returns-clause-calls : goal.returns-clause-calls
returns-clause-calls g c =
    let i = c.self.inside in
    let was = c.disk_failed in
    let at : IsAt i.devices.items c.args.dev c.index_mut.result.now = record { below = omega arith; is = c.index_mut.ensures.value } in
    rw (← c.self.view_is) (answer_calls (g.M.GuestRam.known i.ram) i.shapes.items i.rings.items i.devices.items c.self.invariant c.args.dev c.args.pick answers.Failed tt (c.ranges.dev.fits, c.ranges.pick.fits, tt) c.index_mut.result.now was.new.self was.result at was.ensures.disk was.ensures.taken)

pub returns-then-dev-len-clause-applied : goal.returns-then-dev-len-clause-applied
returns-then-dev-len-clause-applied g c =
    let i = c.self.inside in
    rw (← c.self.view_is) (answer_missing (g.M.GuestRam.known i.ram) i.shapes.items i.rings.items i.devices.items c.self.invariant c.args.dev c.args.pick answers.Failed tt (c.ranges.dev.fits, c.ranges.pick.fits, tt) (omega arith))
