use Rattle.machine.proofs.state.DeviceState.lacks.Goals as goal

pub lacks_looked-requires-clause-fits : goal.lacks_looked-requires-clause-fits
lacks_looked-requires-clause-fits c = c.looked_ring.ensures.fits c.args.ram.now (c.new-ring.ensures c.args.ram.now)
