use Rattle.std.proofs.Common.{◌≡◌, ◌∙◌, ap, arith, length, sym}
use Rattle.chains.specs.State.{RingState}
use Rattle.chains.specs.declared.next.Next.TheVariants.{Chain as Found}
use Rattle.machine.specs.AnyRing.{ring_in}
use Rattle.machine.specs.State.{DeviceState}
use Rattle.machine.proofs.Looking.{looked_is}
use Rattle.machine.proofs.Rings.{looked_ring}
use Rattle.machine.proofs.Writing.{looked_storing}
use Rattle.machine.proofs.state.DeviceState.storing_looked.Goals as goal

pub next_into-requires-clause-areas : goal.next_into-requires-clause-areas
next_into-requires-clause-areas c = (looked_ring (length c.args.ram.now.bytes) c.args.self.now c.args.pick (ring_in c.args.ring) c.requires.sound (looked_is c.args.self.now c.args.pick (ring_in c.args.ring) c.requires.looked)).areas

pub new-requires : goal.new-requires
new-requires c =
    let q = ring_in c.args.ring in
    let look = looked_is c.args.self.now c.args.pick q c.requires.looked in
    let ring = looked_ring (length c.args.ram.now.bytes) c.args.self.now c.args.pick q c.requires.sound look in
    let own : c.ram_base-base.result ≡ c.args.self.now.registers.ram_base = c.ram_base-base.ensures ∙ ap (λ (d : DeviceState). d.registers.ram_base) c.self.view_is in
    let base : c.ram_base-base.result ≡ q.base = own ∙ ap (λ (r : RingState). r.base) (sym look.is) in
    rw c.next_into.ensures.ring (record { len = length c.args.ram.now.bytes; few = omega (arith, c.recall.ensures.sound.pages, c.recall.ensures.sound.few); lies = (ring.areas, ring.may); base_is = base })

pub new-requires-in-Chain : goal.new-requires-in-Chain
new-requires-in-Chain c =
    let q = ring_in c.args.ring in
    let look = looked_is c.args.self.now c.args.pick q c.requires.looked in
    let areas = (looked_ring (length c.args.ram.now.bytes) c.args.self.now c.args.pick q c.requires.sound look).areas in
    let own : c.ram_base-base.result ≡ c.args.self.now.registers.ram_base = c.ram_base-base.ensures ∙ ap (λ (d : DeviceState). d.registers.ram_base) c.self.view_is in
    let base : c.ram_base-base.result ≡ q.base = own ∙ ap (λ (r : RingState). r.base) (sym look.is) in
    let bounded = rw c.in-Chain.is at c.next_into.ensures.bounded in
    rw c.next_into.ensures.ring (record { len = length c.args.ram.now.bytes; few = omega (arith, c.recall.ensures.sound.pages, c.recall.ensures.sound.few); lies = (areas, bounded.writable); base_is = base })

pub returns-in-Chain : goal.returns-in-Chain
returns-in-Chain c =
    looked_storing c.args.self.now c.args.ram.now.bytes c.args.pick (ring_in c.args.ring) (Found c.next_into.new.chain) c.new-in-Chain.result c.requires.looked (rw c.in-Chain.is at c.next_into.ensures.gives) (rw c.next_into.ensures.ring at c.new-in-Chain.ensures)
