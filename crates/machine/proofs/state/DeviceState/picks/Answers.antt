use Rattle.std.proofs.Common.{ap, arith, length}
use Rattle.machine.proofs.NextWork.{no_work_past}
use Rattle.machine.proofs.Stepping.{held_device}
use Rattle.machine.proofs.state.DeviceState.picks.Goals as goal

pub returns-then-requests-queues : goal.returns-then-requests-queues
returns-then-requests-queues c = λ pick past.
    let i = c.self.inside in
    rw (← c.self.view_is)
    (no_work_past (held_device i.kind i.registers i.positions) pick (omega (arith, past, ap length c.queues-queues.ensures.value)) (omega (arith, past, c.if-requests-queues.true, c.outstanding-requests.ensures)))
