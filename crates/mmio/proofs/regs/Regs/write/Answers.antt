use Rattle.std.proofs.Common.{ap}
use Rattle.mmio.specs.State.{Registers}
use Rattle.mmio.specs.declared.effect.Effect.{Effect}
use Rattle.mmio.proofs.StayingReady.{write_stays}
use Rattle.mmio.proofs.regs.Regs.write.Goals as goal

pub returns-clause-ready : goal.returns-clause-ready
returns-clause-ready c = rw (ap (λ (p : Effect × Registers). p.1) c.write_at.ensures.value)
    (write_stays c.args.self.now c.args.offset c.args.width c.args.value c.common-sound.ensures.sound)
