use Rattle.std.proofs.Common.{◌≡◌, arith, true}
use Rattle.machine.proofs.At.{IsAt}
use Rattle.machine.proofs.Beside.{ended_past, ended_there, raised_held}
use Rattle.machine.proofs.Keeping.{rings_stay}
use Rattle.machine.proofs.machine.lending.beside.MachineOver+D+ParkedRam.end.Goals as goal

pub invariant_of-self : goal.invariant_of-self
invariant_of-self g c m sound bytes count =
    let i = c.self.inside in
    let at : IsAt i.devices.items c.args.dev c.index_mut.result.now = record { below = omega arith; is = c.index_mut.ensures.value } in (
      raised_held i.shapes.items i.ram i.devices.items c.args.dev c.index_mut.result.now c.raise_used.new.self at c.raise_used.ensures (λ n is few same. (c.self.invariant n is few same).0) m sound bytes count,
      rings_stay i.rings.items m i.devices.items c.args.dev c.raise_used.new.self (c.self.invariant m sound bytes count).1,
    )

pub returns-then-dev-len : goal.returns-then-dev-len
returns-then-dev-len g c =
    let i = c.self.inside in
    rw (← c.self.view_is) (ended_past c.args.is_due i.ram i.devices.items c.args.dev (omega arith))

pub returns : goal.returns
returns g c =
    let i = c.self.inside in
    let at : IsAt i.devices.items c.args.dev c.index_mut.result.now = record { below = omega arith; is = c.index_mut.ensures.value } in
    let on : c.args.is_due ≡ true = c.if-not-is_due.false in
    rw (← c.self.view_is, on) (ended_there i.ram i.devices.items c.args.dev c.index_mut.result.now c.raise_used.new.self at c.raise_used.ensures)
