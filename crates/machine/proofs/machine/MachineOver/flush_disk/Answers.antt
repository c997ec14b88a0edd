use Rattle.std.proofs.Common.{arith}
use Rattle.machine.proofs.At.{IsAt}
use Rattle.machine.proofs.Flushing.{flushes_disk}
use Rattle.machine.proofs.Keeping.{rings_stay}
use Rattle.machine.proofs.Known.{between_same, for_each}
use Rattle.machine.proofs.Missing.{missing_flush, missing_over}
use Rattle.machine.proofs.Over.{kept_at}
use Rattle.machine.proofs.Reading.{held_so}
use Rattle.machine.proofs.Calling.{calls_over}
use Rattle.machine.proofs.machine.MachineOver.flush_disk.Goals as goal

pub invariant_of-self : goal.invariant_of-self
invariant_of-self g c =
    let i = c.self.inside in
    let at : IsAt i.devices.items c.args.dev c.index_mut.result.now = record { below = omega arith; is = c.index_mut.ensures.value } in
    for_each (g.M.GuestRam.known i.ram) _ (λ m may.
    let kept = kept_at (g.M.GuestRam.known i.ram) i.shapes.items i.rings.items i.devices.items c.self.invariant m may in
    (held_so i.shapes.items m i.devices.items c.args.dev c.index_mut.result.now c.flush.new.self at c.flush.ensures.state c.flush.ensures.sectors kept.0, rings_stay i.rings.items m i.devices.items c.args.dev c.flush.new.self kept.1))

pub returns-clause-flushed : goal.returns-clause-flushed
returns-clause-flushed g c =
    let i = c.self.inside in
    let at : IsAt i.devices.items c.args.dev c.index_mut.result.now = record { below = omega arith; is = c.index_mut.ensures.value } in
    rw (← c.self.view_is) (between_same (g.M.GuestRam.known i.ram) _ (λ m may.
    flushes_disk m i.devices.items c.args.dev c.index_mut.result.now c.flush.new.self c.flush.result
    (record { at = at; state = c.flush.ensures.state; sectors = c.flush.ensures.sectors; marks = c.flush.ensures.marks; unsteady = c.flush.ensures.unsteady; flushed = c.flush.ensures.flushed })))

pub returns-clause-whatever : goal.returns-clause-whatever
returns-clause-whatever g c =
    let i = c.self.inside in
    let at : IsAt i.devices.items c.args.dev c.index_mut.result.now = record { below = omega arith; is = c.index_mut.ensures.value } in
    rw (← c.self.view_is) (λ m.
    flushes_disk m i.devices.items c.args.dev c.index_mut.result.now c.flush.new.self c.flush.result
    (record { at = at; state = c.flush.ensures.state; sectors = c.flush.ensures.sectors; marks = c.flush.ensures.marks; unsteady = c.flush.ensures.unsteady; flushed = c.flush.ensures.flushed }))

pub returns-clause-calls : goal.returns-clause-calls
returns-clause-calls g c =
    let i = c.self.inside in
    let at : IsAt i.devices.items c.args.dev c.index_mut.result.now = record { below = omega arith; is = c.index_mut.ensures.value } in
    rw (← c.self.view_is) (calls_over g.D.Disk.called i.devices.items c.args.dev c.index_mut.result.now c.flush.new.self at c.flush.ensures.calls)

pub returns-then-dev-len-clause-flushed : goal.returns-then-dev-len-clause-flushed
returns-then-dev-len-clause-flushed g c =
    let i = c.self.inside in
    rw (← c.self.view_is) (between_same (g.M.GuestRam.known i.ram) _ (λ m may. missing_flush m i.devices.items c.args.dev tt (omega arith)))

pub returns-then-dev-len-clause-whatever : goal.returns-then-dev-len-clause-whatever
returns-then-dev-len-clause-whatever g c = rw (← c.self.view_is) (λ m. missing_flush m c.self.inside.devices.items c.args.dev tt (omega arith))

pub returns-then-dev-len-clause-calls : goal.returns-then-dev-len-clause-calls
returns-then-dev-len-clause-calls g c = rw (← c.self.view_is) (missing_over g.D.Disk.called c.self.inside.devices.items c.args.dev (omega arith))
