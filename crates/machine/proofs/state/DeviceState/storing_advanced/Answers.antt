use Rattle.std.proofs.Common.{◌≡◌, ◌∙◌, ap, arith, length, sym}
use Rattle.std.specs.Prelude.{slice_get}
use Rattle.chains.specs.State.{RingState}
use Rattle.machine.specs.AnyRing.{ring_in}
use Rattle.machine.specs.DeviceStep.{requests_of}
use Rattle.machine.specs.State.{DeviceState}
use Rattle.machine.specs.Writing.{unread_in}
use Rattle.machine.proofs.Advancing.{advanced_is}
use Rattle.machine.proofs.Stepping.{advanced_ring}
use Rattle.machine.proofs.Writing.{request_inside}
use Rattle.machine.proofs.state.DeviceState.storing_advanced.Goals as goal

pub new-requires : goal.new-requires
new-requires c =
    let d = c.args.self.now in
    let len = length c.args.ram.now.bytes in
    let q = ring_in c.args.ring in
    let look = advanced_is len d c.args.pick q c.requires.sound c.requires.advanced in
    let areas = (advanced_ring len d c.args.pick q c.requires.sound c.requires.advanced).areas in
    let own : c.ram_base-base.result ≡ d.registers.ram_base = c.ram_base-base.ensures ∙ ap (λ (d : DeviceState). d.registers.ram_base) c.self.view_is in
    let base : c.ram_base-base.result ≡ q.base = own ∙ ap (λ (r : RingState). r.base) (sym look.is) in
    let inside = request_inside len d c.args.pick q c.saturating_sub-k.result c.in-Some.request c.requires.sound c.requires.advanced
    (sym c.in-Some.is ∙ c.in_ok-request.ensures ∙ ap (λ (d : DeviceState). unread_in (slice_get (requests_of d.kind) c.saturating_sub-k.result)) c.self.view_is) in
    record { len = len; few = omega (arith, c.recall.ensures.sound.pages, c.recall.ensures.sound.few); lies = (areas, inside); base_is = base }
