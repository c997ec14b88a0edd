use Rattle.std.proofs.Common.{ap, ◌∙◌}
use Rattle.machine.specs.First.{seen_devices}
use Rattle.machine.proofs.machine.room.Room.filled.Goals as goal

pub returns-clause-devices : goal.returns-clause-devices
returns-clause-devices g c = c.with_sectors.ensures ∙ ap (seen_devices c.args.states.items) c.all_marked-sectors.ensures
