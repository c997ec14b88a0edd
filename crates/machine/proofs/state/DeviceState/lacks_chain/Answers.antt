use Rattle.std.proofs.Common.{◌≡◌, ◌∙◌, ap, length, subst}
use Rattle.chains.proofs.LackLaws.{lacks_then}
use Rattle.machine.specs.Lacking.{CoversReads}
use Rattle.machine.specs.State.{DeviceState}
use Rattle.machine.specs.declared.kind.Kind.{Kind}
use Rattle.machine.proofs.state.DeviceState.lacks_chain.Goals as goal

pub lacks_bytes-requires : goal.lacks_bytes-requires
lacks_bytes-requires c =
    let base : c.ram_base-base.result ≡ c.args.self.now.registers.ram_base = c.ram_base-base.ensures ∙ ap (λ (d : DeviceState). d.registers.ram_base) c.self.view_is in
    record { inside = rw (base, c.as_slice.ensures) c.requires.inside }

pub returns : goal.returns
returns c =
    let d = c.args.self.now in
    let base : c.ram_base-base.result ≡ d.registers.ram_base = c.ram_base-base.ensures ∙ ap (λ (d : DeviceState). d.registers.ram_base) c.self.view_is in
    let covers : CoversReads d.kind c.args.pick c.most_read-count.result = subst (λ (k : Kind). CoversReads k c.args.pick c.most_read-count.result) (ap (λ (d : DeviceState). d.kind) c.self.view_is) c.most_read-count.ensures in
    lacks_then (length c.args.ram.now.bytes) c.args.held.now c.lacks_bytes.result
    (covers c.args.held.now c.args.ram.now.bytes d.registers.ram_base c.args.chain.now c.requires.total)
    (rw (base, c.as_slice.ensures) at c.lacks_bytes.ensures)
