use Rattle.std.proofs.Common.{true, refl, arith}
use Rattle.chains.specs.RingCore.{core_state}
use Rattle.chains.proofs.Known.{known_entries, many_entries}
use Rattle.chains.proofs.lacking.lacks_entries.Goals as goal

pub returns-then-entries-core : goal.returns-then-entries-core
returns-then-entries-core c = many_entries c.args.held.now c.args.ram.now.bytes (core_state true c.args.core.now) c.args.last (omega (arith, c.if-entries-core.true))

pub returns : goal.returns
returns c = known_entries c.args.held.now c.args.ram.now.bytes (core_state true c.args.core.now) c.args.last (c.if-not-is_held.ensures.known refl)
