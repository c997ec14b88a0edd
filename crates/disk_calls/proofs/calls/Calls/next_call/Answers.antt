use Rattle.disk_calls.specs.Calls.{AllCalls}
use Rattle.disk_calls.proofs.Numbers.{none_at_all}
use Rattle.disk_calls.proofs.calls.Calls.next_call.Goals as goal

pub returns-clause-none : goal.returns-clause-none
returns-clause-none g c =
    let old : AllCalls = record { devices = c.self.inside.devices.items; turn = c.self.inside.turn; number = c.self.inside.number } in
    rw (← c.self.view_is) (λ is dev j _ below. none_at_all c.args.most old (g.T.Asks.asked c.args.machine.now) c.self.invariant.0 (rw (← c.self.view_is) at (c.first_in_turn.ensures.none is)) dev j below)
