use Rattle.std.proofs.Common.{refl}
use Rattle.guestmem.proofs.RisesLaws.{touches_none}
use Rattle.machine.proofs.Stepping.{idle_step}
use Rattle.machine.proofs.state.DeviceState.step_outside.Goals as goal

pub returns-then-not-advanced_ring-clause-step : goal.returns-then-not-advanced_ring-clause-step
returns-then-not-advanced_ring-clause-step g c = λ sent honest content whole.
    idle_step _ c.args.work.dev honest c.args.ram.now.bytes content c.args.self.now c.args.work.pick whole c.requires.unlooked (c.advanced_ring.ensures.none c.if-not-advanced_ring.true)
    (touches_none g.L.TouchLog.after c.args.log.now c.args.log.now c.args.ram.now c.args.ram.now refl refl)

pub returns-then-not-advanced_ring-clause-fits : goal.returns-then-not-advanced_ring-clause-fits
returns-then-not-advanced_ring-clause-fits g c = c.advanced_ring.ensures.fits c.args.ram.now c.requires.fits

pub advance_outside-requires-clause-fits : goal.advance_outside-requires-clause-fits
advance_outside-requires-clause-fits g c = rw c.in-Split.is at (c.advanced_ring.ensures.fits c.args.ram.now c.requires.fits)

pub advance_outside-requires-in-Packed-clause-fits : goal.advance_outside-requires-in-Packed-clause-fits
advance_outside-requires-in-Packed-clause-fits g c = rw c.in-Packed.is at (c.advanced_ring.ensures.fits c.args.ram.now c.requires.fits)
