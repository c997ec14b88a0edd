use Rattle.machine.proofs.Stepping.{advanced_above, made_advanced}
use Rattle.machine.proofs.state.DeviceState.advanced_ring.Goals as goal

pub renew-requires-clause-may : goal.renew-requires-clause-may
renew-requires-clause-may c =
    let i = c.self.inside in
    (made_advanced c.requires.sound.0 i.kind i.registers i.positions c.args.pick c.queues.result.now c.features-features.result c.ram_base-base.result (rw (← c.self.view_is) at c.requires.sound.1) c.queues.ensures.value c.in-len1-up.len_at_least
    (rw (← c.self.view_is) at c.if-not-advances.ensures) c.features-features.ensures c.ram_base-base.ensures).may

pub renew-requires-clause-above : goal.renew-requires-clause-above
renew-requires-clause-above c =
    let i = c.self.inside in
    advanced_above c.requires.sound.0 i.kind i.registers i.positions c.args.pick c.queues.result.now c.features-features.result c.ram_base-base.result (rw (← c.self.view_is) at c.requires.sound.1) c.queues.ensures.value c.in-len1-up.len_at_least
    (rw (← c.self.view_is) at c.if-not-advances.ensures) c.features-features.ensures c.ram_base-base.ensures
