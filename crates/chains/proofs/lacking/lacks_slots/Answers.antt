use Rattle.std.proofs.Common.{length, true}
use Rattle.chains.specs.Footprint.{whole_table}
use Rattle.chains.specs.RingCore.{core_state}
use Rattle.chains.proofs.LackLaws.{lacks_then}
use Rattle.chains.proofs.lacking.lacks_slots.Goals as goal

pub returns-in-Breaks : goal.returns-in-Breaks
returns-in-Breaks c = c.in-Breaks.ensures (whole_table c.args.ram.now.bytes (core_state true c.args.core.now))

pub returns-in-Ends : goal.returns-in-Ends
returns-in-Ends c =
    lacks_then (length c.args.ram.now.bytes) c.args.held.now c.lacks_entries.result (c.in-Ends.ensures (whole_table c.args.ram.now.bytes (core_state true c.args.core.now))) c.lacks_entries.ensures
