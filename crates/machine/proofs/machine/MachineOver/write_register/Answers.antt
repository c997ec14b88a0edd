use Rattle.std.proofs.Common.{arith}
use Rattle.machine.specs.Step.{out_reply, written_out}
use Rattle.machine.specs.declared.event.Event.TheVariants as events
use Rattle.machine.proofs.At.{IsAt, register_step, missing_write}
use Rattle.machine.proofs.Known.{between_same}
use Rattle.machine.proofs.Over.{applies, held_at, keeps_disk, kept_at, same_calls, same_sectors, stays_kept}
use Rattle.machine.proofs.machine.MachineOver.write_register.Goals as goal

pub invariant_of-self : goal.invariant_of-self
invariant_of-self g c =
    let i = c.self.inside in
    let at : IsAt i.devices.items c.args.dev c.index_mut-device.result.now = record { below = omega arith; is = c.index_mut-device.ensures.value } in
    stays_kept (g.M.GuestRam.known i.ram) i.shapes.items i.rings.items i.devices.items c.self.invariant c.args.dev c.index_mut-device.result.now c.write_register.new.self at (keeps_disk c.index_mut-device.result.now c.write_register.new.self _ c.write_register.ensures.device)
    (events.RegWrite c.args.dev c.args.offset c.args.width c.args.value) (out_reply (written_out c.index_mut-device.result.now.state.kind c.args.offset c.args.width c.args.value)) tt (c.ranges.dev.fits, c.ranges.offset.fits, c.ranges.width.fits, c.ranges.value.fits) (λ m. register_step m i.devices.items c.args.dev c.args.offset c.args.width c.args.value c.index_mut-device.result.now c.write_register.new.self at c.write_register.ensures.device)
    c.write_register.new.rings.items c.write_register.ensures.each c.write_register.ensures.fit

pub returns-clause-applied : goal.returns-clause-applied
returns-clause-applied g c =
    let i = c.self.inside in
    let at : IsAt i.devices.items c.args.dev c.index_mut-device.result.now = record { below = omega arith; is = c.index_mut-device.ensures.value } in
    rw (← c.self.view_is, c.write_register.ensures.out)
    (applies (g.M.GuestRam.known i.ram) i.shapes.items i.rings.items i.devices.items c.self.invariant c.args.dev c.index_mut-device.result.now c.write_register.new.self at (keeps_disk c.index_mut-device.result.now c.write_register.new.self _ c.write_register.ensures.device)
    (events.RegWrite c.args.dev c.args.offset c.args.width c.args.value) (out_reply (written_out c.index_mut-device.result.now.state.kind c.args.offset c.args.width c.args.value)) tt (c.ranges.dev.fits, c.ranges.offset.fits, c.ranges.width.fits, c.ranges.value.fits) (λ m. register_step m i.devices.items c.args.dev c.args.offset c.args.width c.args.value c.index_mut-device.result.now c.write_register.new.self at c.write_register.ensures.device))

pub returns-clause-sectors : goal.returns-clause-sectors
returns-clause-sectors g c =
    let i = c.self.inside in
    let at : IsAt i.devices.items c.args.dev c.index_mut-device.result.now = record { below = omega arith; is = c.index_mut-device.ensures.value } in
    rw (← c.self.view_is) (same_sectors (g.M.GuestRam.known i.ram) i.shapes.items i.rings.items i.devices.items c.self.invariant c.args.dev c.index_mut-device.result.now c.write_register.new.self at (keeps_disk c.index_mut-device.result.now c.write_register.new.self _ c.write_register.ensures.device)
    (events.RegWrite c.args.dev c.args.offset c.args.width c.args.value) (out_reply (written_out c.index_mut-device.result.now.state.kind c.args.offset c.args.width c.args.value)) tt (c.ranges.dev.fits, c.ranges.offset.fits, c.ranges.width.fits, c.ranges.value.fits) (λ m. register_step m i.devices.items c.args.dev c.args.offset c.args.width c.args.value c.index_mut-device.result.now c.write_register.new.self at c.write_register.ensures.device))

pub returns-clause-calls : goal.returns-clause-calls
returns-clause-calls g c =
    let i = c.self.inside in
    let at : IsAt i.devices.items c.args.dev c.index_mut-device.result.now = record { below = omega arith; is = c.index_mut-device.ensures.value } in
    rw (← c.self.view_is) (same_calls (g.M.GuestRam.known i.ram) i.shapes.items i.rings.items i.devices.items c.self.invariant c.args.dev c.index_mut-device.result.now c.write_register.new.self at (keeps_disk c.index_mut-device.result.now c.write_register.new.self _ c.write_register.ensures.device)
    (events.RegWrite c.args.dev c.args.offset c.args.width c.args.value) (out_reply (written_out c.index_mut-device.result.now.state.kind c.args.offset c.args.width c.args.value)) tt (c.ranges.dev.fits, c.ranges.offset.fits, c.ranges.width.fits, c.ranges.value.fits) (λ m. register_step m i.devices.items c.args.dev c.args.offset c.args.width c.args.value c.index_mut-device.result.now c.write_register.new.self at c.write_register.ensures.device))

pub returns-then-number-len-clause-applied : goal.returns-then-number-len-clause-applied
returns-then-number-len-clause-applied g c =
    let i = c.self.inside in
    rw (← c.self.view_is) (between_same (g.M.GuestRam.known i.ram) _ (λ m may.
    missing_write i.shapes.items m i.devices.items c.args.dev c.args.offset c.args.width c.args.value (held_at (g.M.GuestRam.known i.ram) i.shapes.items i.rings.items i.devices.items c.self.invariant m may) (c.ranges.dev.fits, c.ranges.offset.fits, c.ranges.width.fits, c.ranges.value.fits) (omega arith)))

pub write_register-requires : goal.write_register-requires
write_register-requires g c =
    let i = c.self.inside in
    let there = c.size-size.ensures.some in
    omega (arith, (kept_at (g.M.GuestRam.known i.ram) i.shapes.items i.rings.items i.devices.items c.self.invariant there.0 there.1).1.each)
