use Rattle.std.proofs.Common.{false, length, refl}
use Rattle.chains.specs.RingCore.{core_state}
use Rattle.chains.proofs.Known.{known_chain}
use Rattle.chains.proofs.LackLaws.{lacks_then}
use Rattle.chains.proofs.lacking.lacks_split.Goals as goal

pub returns : goal.returns
returns c =
    lacks_then (length c.args.ram.now.bytes) c.args.held.now c.lacks_chain.result (known_chain c.args.held.now c.args.ram.now.bytes (core_state false c.args.core.now) (c.if-not-is_held.ensures.known refl)) c.lacks_chain.ensures
