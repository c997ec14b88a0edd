use Rattle.c_handle.proofs.Outs.{asker_same}
use Rattle.c_handle.proofs.calls_out.CallsOut.asker.Goals as goal

pub returns : goal.returns
returns g c = asker_same 16 (g.T.Asks.asked c.args.machine.now) c.args.place.dev c.args.place.call c.asker.result c.requires c.asker.ensures
