use Rattle.machine.proofs.state.DeviceState.storing.Goals as goal

pub storing_looked-requires-clause-fits : goal.storing_looked-requires-clause-fits
storing_looked-requires-clause-fits c = c.looked_ring.ensures.fits c.args.ram.now (c.new-ring.ensures c.args.ram.now)
