use Rattle.std.proofs.Common.{ap}
use Rattle.c_handle.specs.Kept.{state_in}
use Rattle.c_handle.proofs.Lent.{free_slot, free_still}
use Rattle.c_handle.proofs.lending.lent_in.Goals as goal

pub lent_as-requires-in-Ok-lent_live : goal.lent_as-requires-in-Ok-lent_live
lent_as-requires-in-Ok-lent_live g c = free_slot (state_in c.args.old) c.in-Moving.live c.args.ram.now.content (ap state_in c.in-Moving.is) c.requires

pub lent_as-requires : goal.lent_as-requires
lent_as-requires g c = free_still (state_in c.args.old) c.in-Still.machine c.args.ram.now.content (ap state_in c.in-Still.is) c.requires

pub lent_as-requires-in-Ok-lent_live-2 : goal.lent_as-requires-in-Ok-lent_live-2
lent_as-requires-in-Ok-lent_live-2 g c = free_slot (state_in c.args.old) c.in-Told.live c.args.ram.now.content (ap state_in c.in-Told.is) c.requires
