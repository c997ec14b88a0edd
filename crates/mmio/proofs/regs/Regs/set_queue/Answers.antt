use Rattle.std.proofs.Common.{◌<◌, arith}
use Rattle.std.proofs.lemmas.List.{length-take}
use Rattle.std.proofs.Math.Seq.{take-set-lt}
use Rattle.mmio.proofs.Keeping.{queues_kept}
use Rattle.mmio.proofs.regs.Regs.set_queue.Goals as goal

pub invariant_of-self : goal.invariant_of-self
invariant_of-self c =
    let below = rw (← c.self.view_is) at c.requires.below in
    let within : c.args.number < c.self.inside.count = omega (arith, below, length-take c.self.inside.count c.self.inside.queues) in
    (c.self.invariant.0, rw take-set-lt (queues_kept _ c.args.number c.args.queue c.self.invariant.1 (rw (← c.self.view_is) at c.requires.sound)))
