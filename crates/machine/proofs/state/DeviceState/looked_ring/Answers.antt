use Rattle.machine.proofs.Stepping.{made_above, made_look, made_ring}
use Rattle.machine.proofs.state.DeviceState.looked_ring.Goals as goal

pub renew-requires-clause-may : goal.renew-requires-clause-may
renew-requires-clause-may c =
    let i = c.self.inside in
    (made_ring c.requires.sound.0 i.kind i.registers i.positions c.args.pick c.queues-queues.result.now c.features-features.result c.ram_base-base.result (rw (← c.self.view_is) at c.requires.sound.1) c.queues-queues.ensures.value c.if-number-queues.false
    (rw (← c.self.view_is) at c.if-not-looks.ensures) c.features-features.ensures c.ram_base-base.ensures).may

pub renew-requires-clause-above : goal.renew-requires-clause-above
renew-requires-clause-above c =
    let i = c.self.inside in
    made_above c.requires.sound.0 i.kind i.registers i.positions c.args.pick c.queues-queues.result.now c.ram_base-base.result (rw (← c.self.view_is) at c.requires.sound.1) c.queues-queues.ensures.value c.if-number-queues.false
    (rw (← c.self.view_is) at c.if-not-looks.ensures) c.ram_base-base.ensures

pub returns-clause-ring : goal.returns-clause-ring
returns-clause-ring c =
    let i = c.self.inside in
    λ _. rw (← c.self.view_is, c.renew.ensures.ring)
    (made_look c.requires.sound.0 i.kind i.registers i.positions c.args.pick c.queues-queues.result.now c.features-features.result c.ram_base-base.result (rw (← c.self.view_is) at c.requires.sound.1) c.queues-queues.ensures.value c.if-number-queues.false
    (rw (← c.self.view_is) at c.if-not-looks.ensures) c.features-features.ensures c.ram_base-base.ensures)
