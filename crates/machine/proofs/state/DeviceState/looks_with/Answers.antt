use Rattle.std.proofs.Common.{◌∙◌}
use Rattle.machine.proofs.NextWork.{looks_some}
use Rattle.machine.proofs.Stepping.{held_device}
use Rattle.machine.proofs.state.DeviceState.looks_with.Goals as goal

pub returns : goal.returns
returns c =
    let i = c.self.inside in
    rw (← c.self.view_is)
    ((rw (← c.self.view_is) at c.looks.ensures) ∙ looks_some c.requires.sound.0 (held_device i.kind i.registers i.positions) c.args.pick c.queues-queues.result.now (rw (← c.self.view_is) at c.requires.sound.1) c.queues-queues.ensures.value c.if-number-queues.false)
