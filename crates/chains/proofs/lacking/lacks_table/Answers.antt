use Rattle.std.proofs.Common.{false}
use Rattle.chains.specs.Footprint.{no_piece}
use Rattle.chains.specs.RingCore.{core_state}
use Rattle.chains.proofs.Known.{some_table}
use Rattle.chains.proofs.lacking.lacks_table.Goals as goal

pub returns-in-Breaks : goal.returns-in-Breaks
returns-in-Breaks c = some_table c.args.held.now c.args.ram.now.bytes (core_state false c.args.core.now) c.args.last (c.in-Breaks.ensures no_piece)

pub returns-in-Ends : goal.returns-in-Ends
returns-in-Ends c = some_table c.args.held.now c.args.ram.now.bytes (core_state false c.args.core.now) c.args.last (c.in-Ends.ensures no_piece (λ b h. tt))
