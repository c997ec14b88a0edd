use Rattle.std.proofs.Common.{arith, refl}
use Rattle.machine.specs.Direct.{done_reply}
use Rattle.machine.specs.declared.event.Event.TheVariants as events
use Rattle.machine.proofs.At.{IsAt, size_step, missing_size}
use Rattle.machine.proofs.Known.{between_same}
use Rattle.machine.proofs.Over.{applies, held_at, keeps_disk, same_calls, same_sectors, stays_kept}
use Rattle.machine.proofs.machine.MachineOver.resize.Goals as goal

pub invariant_of-self : goal.invariant_of-self
invariant_of-self g c =
    let i = c.self.inside in
    let at : IsAt i.devices.items c.args.dev c.index_mut.result.now = record { below = omega arith; is = c.index_mut.ensures.value } in
    stays_kept (g.M.GuestRam.known i.ram) i.shapes.items i.rings.items i.devices.items c.self.invariant c.args.dev c.index_mut.result.now c.resize.new.self at (keeps_disk c.index_mut.result.now c.resize.new.self _ c.resize.ensures.disk)
    (events.Resize c.args.dev c.args.cols c.args.rows) (done_reply c.resize.result) tt (c.ranges.dev.fits, c.ranges.cols.fits, c.ranges.rows.fits) (λ m. size_step m i.devices.items c.args.dev c.args.cols c.args.rows c.index_mut.result.now c.resize.new.self c.resize.result at c.resize.ensures.disk c.resize.ensures.state)
    i.rings.items refl (λ m fit. fit)

pub returns-clause-applied : goal.returns-clause-applied
returns-clause-applied g c =
    let i = c.self.inside in
    let at : IsAt i.devices.items c.args.dev c.index_mut.result.now = record { below = omega arith; is = c.index_mut.ensures.value } in
    rw (← c.self.view_is)
    (applies (g.M.GuestRam.known i.ram) i.shapes.items i.rings.items i.devices.items c.self.invariant c.args.dev c.index_mut.result.now c.resize.new.self at (keeps_disk c.index_mut.result.now c.resize.new.self _ c.resize.ensures.disk)
    (events.Resize c.args.dev c.args.cols c.args.rows) (done_reply c.resize.result) tt (c.ranges.dev.fits, c.ranges.cols.fits, c.ranges.rows.fits) (λ m. size_step m i.devices.items c.args.dev c.args.cols c.args.rows c.index_mut.result.now c.resize.new.self c.resize.result at c.resize.ensures.disk c.resize.ensures.state))

pub returns-clause-sectors : goal.returns-clause-sectors
returns-clause-sectors g c =
    let i = c.self.inside in
    let at : IsAt i.devices.items c.args.dev c.index_mut.result.now = record { below = omega arith; is = c.index_mut.ensures.value } in
    rw (← c.self.view_is) (same_sectors (g.M.GuestRam.known i.ram) i.shapes.items i.rings.items i.devices.items c.self.invariant c.args.dev c.index_mut.result.now c.resize.new.self at (keeps_disk c.index_mut.result.now c.resize.new.self _ c.resize.ensures.disk)
    (events.Resize c.args.dev c.args.cols c.args.rows) (done_reply c.resize.result) tt (c.ranges.dev.fits, c.ranges.cols.fits, c.ranges.rows.fits) (λ m. size_step m i.devices.items c.args.dev c.args.cols c.args.rows c.index_mut.result.now c.resize.new.self c.resize.result at c.resize.ensures.disk c.resize.ensures.state))

pub returns-clause-calls : goal.returns-clause-calls
returns-clause-calls g c =
    let i = c.self.inside in
    let at : IsAt i.devices.items c.args.dev c.index_mut.result.now = record { below = omega arith; is = c.index_mut.ensures.value } in
    rw (← c.self.view_is) (same_calls (g.M.GuestRam.known i.ram) i.shapes.items i.rings.items i.devices.items c.self.invariant c.args.dev c.index_mut.result.now c.resize.new.self at (keeps_disk c.index_mut.result.now c.resize.new.self _ c.resize.ensures.disk)
    (events.Resize c.args.dev c.args.cols c.args.rows) (done_reply c.resize.result) tt (c.ranges.dev.fits, c.ranges.cols.fits, c.ranges.rows.fits) (λ m. size_step m i.devices.items c.args.dev c.args.cols c.args.rows c.index_mut.result.now c.resize.new.self c.resize.result at c.resize.ensures.disk c.resize.ensures.state))

pub returns-then-dev-len-clause-applied : goal.returns-then-dev-len-clause-applied
returns-then-dev-len-clause-applied g c =
    let i = c.self.inside in
    rw (← c.self.view_is) (between_same (g.M.GuestRam.known i.ram) _ (λ m may.
    missing_size i.shapes.items m i.devices.items c.args.dev c.args.cols c.args.rows (held_at (g.M.GuestRam.known i.ram) i.shapes.items i.rings.items i.devices.items c.self.invariant m may) (c.ranges.dev.fits, c.ranges.cols.fits, c.ranges.rows.fits) (omega arith)))
