use Rattle.std.proofs.Common.{arith, refl}
use Rattle.machine.specs.Direct.{done_reply}
use Rattle.machine.specs.Step.{drop_of}
use Rattle.machine.specs.declared.event.Event.TheVariants as events
use Rattle.machine.proofs.At.{IsAt, drop_step, missing_drop}
use Rattle.machine.proofs.Known.{between_same}
use Rattle.machine.proofs.Over.{applies, held_at, keeps_disk, same_calls, same_sectors, stays_kept}
use Rattle.machine.proofs.machine.MachineOver.drop_input.Goals as goal

pub invariant_of-self : goal.invariant_of-self
invariant_of-self g c =
    let i = c.self.inside in
    let at : IsAt i.devices.items c.args.dev c.index_mut.result.now = record { below = omega arith; is = c.index_mut.ensures.value } in
    stays_kept (g.M.GuestRam.known i.ram) i.shapes.items i.rings.items i.devices.items c.self.invariant c.args.dev c.index_mut.result.now c.drop_input.new.self at (keeps_disk c.index_mut.result.now c.drop_input.new.self _ c.drop_input.ensures.device)
    (events.Drop c.args.dev) (done_reply (drop_of c.index_mut.result.now.state.kind)) tt c.ranges.dev.fits (λ m. drop_step m i.devices.items c.args.dev c.index_mut.result.now c.drop_input.new.self (drop_of c.index_mut.result.now.state.kind) refl at c.drop_input.ensures.device)
    i.rings.items refl (λ m fit. fit)

pub returns-clause-applied : goal.returns-clause-applied
returns-clause-applied g c =
    let i = c.self.inside in
    let at : IsAt i.devices.items c.args.dev c.index_mut.result.now = record { below = omega arith; is = c.index_mut.ensures.value } in
    rw (← c.self.view_is, c.drop_input.ensures.answer)
    (applies (g.M.GuestRam.known i.ram) i.shapes.items i.rings.items i.devices.items c.self.invariant c.args.dev c.index_mut.result.now c.drop_input.new.self at (keeps_disk c.index_mut.result.now c.drop_input.new.self _ c.drop_input.ensures.device)
    (events.Drop c.args.dev) (done_reply (drop_of c.index_mut.result.now.state.kind)) tt c.ranges.dev.fits (λ m. drop_step m i.devices.items c.args.dev c.index_mut.result.now c.drop_input.new.self (drop_of c.index_mut.result.now.state.kind) refl at c.drop_input.ensures.device))

pub returns-clause-sectors : goal.returns-clause-sectors
returns-clause-sectors g c =
    let i = c.self.inside in
    let at : IsAt i.devices.items c.args.dev c.index_mut.result.now = record { below = omega arith; is = c.index_mut.ensures.value } in
    rw (← c.self.view_is) (same_sectors (g.M.GuestRam.known i.ram) i.shapes.items i.rings.items i.devices.items c.self.invariant c.args.dev c.index_mut.result.now c.drop_input.new.self at (keeps_disk c.index_mut.result.now c.drop_input.new.self _ c.drop_input.ensures.device)
    (events.Drop c.args.dev) (done_reply (drop_of c.index_mut.result.now.state.kind)) tt c.ranges.dev.fits (λ m. drop_step m i.devices.items c.args.dev c.index_mut.result.now c.drop_input.new.self (drop_of c.index_mut.result.now.state.kind) refl at c.drop_input.ensures.device))

pub returns-clause-calls : goal.returns-clause-calls
returns-clause-calls g c =
    let i = c.self.inside in
    let at : IsAt i.devices.items c.args.dev c.index_mut.result.now = record { below = omega arith; is = c.index_mut.ensures.value } in
    rw (← c.self.view_is) (same_calls (g.M.GuestRam.known i.ram) i.shapes.items i.rings.items i.devices.items c.self.invariant c.args.dev c.index_mut.result.now c.drop_input.new.self at (keeps_disk c.index_mut.result.now c.drop_input.new.self _ c.drop_input.ensures.device)
    (events.Drop c.args.dev) (done_reply (drop_of c.index_mut.result.now.state.kind)) tt c.ranges.dev.fits (λ m. drop_step m i.devices.items c.args.dev c.index_mut.result.now c.drop_input.new.self (drop_of c.index_mut.result.now.state.kind) refl at c.drop_input.ensures.device))

pub returns-then-dev-len-clause-applied : goal.returns-then-dev-len-clause-applied
returns-then-dev-len-clause-applied g c =
    let i = c.self.inside in
    rw (← c.self.view_is) (between_same (g.M.GuestRam.known i.ram) _ (λ m may.
    missing_drop i.shapes.items m i.devices.items c.args.dev (held_at (g.M.GuestRam.known i.ram) i.shapes.items i.rings.items i.devices.items c.self.invariant m may) c.ranges.dev.fits (omega arith)))
