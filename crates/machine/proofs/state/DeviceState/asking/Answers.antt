use Rattle.std.proofs.Common.{arith, length}
use Rattle.machine.specs.AnyRing.{ring_in}
use Rattle.machine.proofs.Stepping.{advanced_ring}
use Rattle.machine.proofs.state.DeviceState.asking.Goals as goal

pub asking_looked-requires-clause-fits : goal.asking_looked-requires-clause-fits
asking_looked-requires-clause-fits c = c.looked_ring.ensures.fits c.args.ram.now (c.new-ring.ensures c.args.ram.now)

pub asking_advanced-requires : goal.asking_advanced-requires
asking_advanced-requires c =
    let ring = advanced_ring (length c.args.ram.now.bytes) c.args.self.now c.args.pick (ring_in c.advanced_ring.new.ring) c.requires.sound (c.advanced_ring.ensures.ring c.if-not-advanced_ring.false) in
    record { near = omega (arith, ring.areas.driver.inside, c.recall.ensures.sound.pages, c.recall.ensures.sound.few) }
