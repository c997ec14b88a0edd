use Rattle.std.proofs.Common.{◌≡◌, ap, arith, sym, length}
use Rattle.chains.specs.State.{RingState}
use Rattle.chains.specs.declared.next.Next.TheVariants.{Empty, Malformed}
use Rattle.chains.proofs.LackLaws.{all_known, lacks_then}
use Rattle.machine.specs.AnyRing.{ring_in}
use Rattle.machine.proofs.Lacking.{a_chain, knows_by}
use Rattle.machine.proofs.Looking.{looked_is}
use Rattle.machine.proofs.Rings.{looked_ring}
use Rattle.machine.proofs.state.DeviceState.lacks_looked.Goals as goal

pub lacks-requires : goal.lacks-requires
lacks-requires c = (looked_ring (length c.args.ram.now.bytes) c.args.self.now c.args.pick (ring_in c.args.ring.now) c.requires.sound (looked_is c.args.self.now c.args.pick (ring_in c.args.ring.now) c.requires.looked)).areas

pub next_into-requires-clause-areas : goal.next_into-requires-clause-areas
next_into-requires-clause-areas c = (looked_ring (length c.args.ram.now.bytes) c.args.self.now c.args.pick (ring_in c.args.ring.now) c.requires.sound (looked_is c.args.self.now c.args.pick (ring_in c.args.ring.now) c.requires.looked)).areas

pub returns-in-Empty : goal.returns-in-Empty
returns-in-Empty c =
    knows_by c.args.self.now c.args.held.now c.args.ram.now.bytes c.args.pick (ring_in c.args.ring.now) Empty c.requires.looked (rw c.in-Empty.is at c.next_into.ensures.gives) (all_known (length c.args.ram.now.bytes) c.args.held.now c.lacks.result c.in_default.is c.lacks.ensures) (λ e is. cc)

pub returns-in-Malformed : goal.returns-in-Malformed
returns-in-Malformed c =
    knows_by c.args.self.now c.args.held.now c.args.ram.now.bytes c.args.pick (ring_in c.args.ring.now) Malformed c.requires.looked (rw c.in-Malformed.is at c.next_into.ensures.gives) (all_known (length c.args.ram.now.bytes) c.args.held.now c.lacks.result c.in_default.is c.lacks.ensures) (λ e is. cc)

pub lacks_chain-requires : goal.lacks_chain-requires
lacks_chain-requires c =
    let q = ring_in c.args.ring.now in
    let look = looked_is c.args.self.now c.args.pick q c.requires.looked in
    let base : c.args.self.now.registers.ram_base ≡ q.base = ap (λ (r : RingState). r.base) (sym look.is) in
    let bounded = rw c.in-Chain.is at c.next_into.ensures.bounded in
    record { inside = rw base bounded.readable; total = omega (arith, bounded.total) }

pub returns : goal.returns
returns c =
    let q = ring_in c.args.ring.now in
    let look = looked_is c.args.self.now c.args.pick q c.requires.looked in
    let base : c.args.self.now.registers.ram_base ≡ q.base = ap (λ (r : RingState). r.base) (sym look.is) in
    let ram = c.args.ram.now.bytes in
    let held = c.args.held.now in
    let look_known = all_known (length ram) held c.lacks.result c.in_default.is c.lacks.ensures in
    lacks_then (length ram) held c.lacks_chain.result
    (a_chain c.args.self.now held ram c.args.pick q c.next_into.result c.next_into.new.chain c.requires.looked c.next_into.ensures.gives c.in-Chain.is look_known)
    (rw base at c.lacks_chain.ensures)
