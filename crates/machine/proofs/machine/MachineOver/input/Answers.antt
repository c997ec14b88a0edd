use Rattle.std.proofs.Common.{arith, refl}
use Rattle.machine.specs.Direct.{accepted_reply}
use Rattle.machine.specs.Step.{input_of}
use Rattle.machine.specs.declared.event.Event.TheVariants as events
use Rattle.machine.proofs.At.{IsAt, input_step, missing_input}
use Rattle.machine.proofs.Known.{between_same}
use Rattle.machine.proofs.Over.{applies, held_at, keeps_disk, same_calls, same_sectors, stays_kept}
use Rattle.machine.proofs.machine.MachineOver.input.Goals as goal

pub invariant_of-self : goal.invariant_of-self
invariant_of-self g c =
    let i = c.self.inside in
    let at : IsAt i.devices.items c.args.dev c.index_mut.result.now = record { below = omega arith; is = c.index_mut.ensures.value } in
    stays_kept (g.M.GuestRam.known i.ram) i.shapes.items i.rings.items i.devices.items c.self.invariant c.args.dev c.index_mut.result.now c.input.new.self at (keeps_disk c.index_mut.result.now c.input.new.self _ c.input.ensures.device)
    (events.Input c.args.dev c.args.bytes.now) (accepted_reply (input_of c.index_mut.result.now.state.kind c.args.bytes.now)) tt (c.ranges.dev.fits, c.recall_bytes.ensures) (λ m. input_step m i.devices.items c.args.dev c.args.bytes.now c.index_mut.result.now c.input.new.self (input_of c.index_mut.result.now.state.kind c.args.bytes.now) refl at c.input.ensures.device)
    i.rings.items refl (λ m fit. fit)

pub returns-clause-applied : goal.returns-clause-applied
returns-clause-applied g c =
    let i = c.self.inside in
    let at : IsAt i.devices.items c.args.dev c.index_mut.result.now = record { below = omega arith; is = c.index_mut.ensures.value } in
    rw (← c.self.view_is, c.input.ensures.count)
    (applies (g.M.GuestRam.known i.ram) i.shapes.items i.rings.items i.devices.items c.self.invariant c.args.dev c.index_mut.result.now c.input.new.self at (keeps_disk c.index_mut.result.now c.input.new.self _ c.input.ensures.device)
    (events.Input c.args.dev c.args.bytes.now) (accepted_reply (input_of c.index_mut.result.now.state.kind c.args.bytes.now)) tt (c.ranges.dev.fits, c.recall_bytes.ensures) (λ m. input_step m i.devices.items c.args.dev c.args.bytes.now c.index_mut.result.now c.input.new.self (input_of c.index_mut.result.now.state.kind c.args.bytes.now) refl at c.input.ensures.device))

pub returns-clause-sectors : goal.returns-clause-sectors
returns-clause-sectors g c =
    let i = c.self.inside in
    let at : IsAt i.devices.items c.args.dev c.index_mut.result.now = record { below = omega arith; is = c.index_mut.ensures.value } in
    rw (← c.self.view_is) (same_sectors (g.M.GuestRam.known i.ram) i.shapes.items i.rings.items i.devices.items c.self.invariant c.args.dev c.index_mut.result.now c.input.new.self at (keeps_disk c.index_mut.result.now c.input.new.self _ c.input.ensures.device)
    (events.Input c.args.dev c.args.bytes.now) (accepted_reply (input_of c.index_mut.result.now.state.kind c.args.bytes.now)) tt (c.ranges.dev.fits, c.recall_bytes.ensures) (λ m. input_step m i.devices.items c.args.dev c.args.bytes.now c.index_mut.result.now c.input.new.self (input_of c.index_mut.result.now.state.kind c.args.bytes.now) refl at c.input.ensures.device))

pub returns-clause-calls : goal.returns-clause-calls
returns-clause-calls g c =
    let i = c.self.inside in
    let at : IsAt i.devices.items c.args.dev c.index_mut.result.now = record { below = omega arith; is = c.index_mut.ensures.value } in
    rw (← c.self.view_is) (same_calls (g.M.GuestRam.known i.ram) i.shapes.items i.rings.items i.devices.items c.self.invariant c.args.dev c.index_mut.result.now c.input.new.self at (keeps_disk c.index_mut.result.now c.input.new.self _ c.input.ensures.device)
    (events.Input c.args.dev c.args.bytes.now) (accepted_reply (input_of c.index_mut.result.now.state.kind c.args.bytes.now)) tt (c.ranges.dev.fits, c.recall_bytes.ensures) (λ m. input_step m i.devices.items c.args.dev c.args.bytes.now c.index_mut.result.now c.input.new.self (input_of c.index_mut.result.now.state.kind c.args.bytes.now) refl at c.input.ensures.device))

pub returns-then-dev-len-clause-applied : goal.returns-then-dev-len-clause-applied
returns-then-dev-len-clause-applied g c =
    let i = c.self.inside in
    rw (← c.self.view_is) (between_same (g.M.GuestRam.known i.ram) _ (λ m may.
    missing_input i.shapes.items m i.devices.items c.args.dev c.args.bytes.now (held_at (g.M.GuestRam.known i.ram) i.shapes.items i.rings.items i.devices.items c.self.invariant m may) (c.ranges.dev.fits, λ k. omega (arith, c.type_inv.bytes k)) (omega arith)))
