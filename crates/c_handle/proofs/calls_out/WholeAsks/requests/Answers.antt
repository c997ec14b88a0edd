use Rattle.std.proofs.Common.{◌<◌, ◌≤◌, arith, length}
use Rattle.c_handle.proofs.Outs.{each_past, each_there, length-each}
use Rattle.c_handle.proofs.calls_out.WholeAsks.requests.Goals as goal

pub returns-then-dev-devices-clause-requests : goal.returns-then-dev-devices-clause-requests
returns-then-dev-devices-clause-requests g c =
    let asked = g.T.Asks.asked c.args.self.now.machine.now in
    let below : c.args.dev < 16 = omega (arith, c.requires, length-each 16 asked) in
    let past : length asked ≤ c.args.dev = omega (arith, c.if-dev-devices.true, c.devices.ensures) in
    each_past 16 asked c.args.dev below past

pub returns-clause-requests : goal.returns-clause-requests
returns-clause-requests g c =
    let asked = g.T.Asks.asked c.args.self.now.machine.now in
    let below : c.args.dev < 16 = omega (arith, c.requires, length-each 16 asked) in
    each_there 16 asked c.args.dev c.requests.result.now below c.requests.ensures.requests
