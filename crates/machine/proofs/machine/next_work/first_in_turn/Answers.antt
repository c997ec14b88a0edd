use Rattle.std.proofs.Common.{arith}
use Rattle.machine.proofs.NextWork.{from_start}
use Rattle.machine.proofs.machine.next_work.first_in_turn.Goals as goal

pub returns-then-first-devices-clause-order : goal.returns-then-first-devices-clause-order
returns-then-first-devices-clause-order c = λ p. from_start p c.args.last c.args.devices (omega (arith, c.if-first-devices.true))
