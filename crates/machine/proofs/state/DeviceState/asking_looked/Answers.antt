use Rattle.std.proofs.Common.{length}
use Rattle.machine.specs.AnyRing.{ring_in}
use Rattle.machine.proofs.Asked.{chain_asking, empty_asking, malformed_asking}
use Rattle.machine.proofs.Looking.{looked_is}
use Rattle.machine.proofs.Rings.{looked_ring}
use Rattle.machine.proofs.state.DeviceState.asking_looked.Goals as goal

pub next_into-requires-clause-areas : goal.next_into-requires-clause-areas
next_into-requires-clause-areas c = (looked_ring (length c.args.ram.now.bytes) c.args.self.now c.args.pick (ring_in c.args.ring) c.requires.sound (looked_is c.args.self.now c.args.pick (ring_in c.args.ring) c.requires.looked)).areas

pub returns-in-Empty : goal.returns-in-Empty
returns-in-Empty c =
    empty_asking c.args.self.now c.args.ram.now.bytes c.args.pick (ring_in c.args.ring) c.requires.looked (rw c.in-Empty.is at c.next_into.ensures.gives)

pub returns-in-Malformed : goal.returns-in-Malformed
returns-in-Malformed c =
    malformed_asking c.args.self.now c.args.ram.now.bytes c.args.pick (ring_in c.args.ring) c.requires.looked (rw c.in-Malformed.is at c.next_into.ensures.gives)

pub returns : goal.returns
returns c =
    chain_asking c.args.self.now c.args.ram.now.bytes c.args.pick (ring_in c.args.ring) c.next_into.new.chain c.new.result c.requires.looked (rw c.in-Chain.is at c.next_into.ensures.gives) (rw (c.take.ensures, c.next_into.ensures.ring) at c.new.ensures)
