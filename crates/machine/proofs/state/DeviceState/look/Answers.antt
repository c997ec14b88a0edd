use Rattle.std.proofs.Common.{ap, sym, ◌∙◌, length}
use Rattle.chains.specs.State.{RingState}
use Rattle.machine.specs.Stepped.{reply_in}
use Rattle.machine.proofs.Looking.{looked_is}
use Rattle.machine.proofs.Rings.{looked_ring}
use Rattle.machine.proofs.Stepping.{held_device, looked_step_made}
use Rattle.machine.proofs.state.DeviceState.look.Goals as goal

pub serve-served-requires-clause-ready : goal.serve-served-requires-clause-ready
serve-served-requires-clause-ready g c =
    let ring = looked_ring (length c.args.ram.now.bytes) c.args.self.now c.args.pick (g.R.Ring.state c.args.ring.now) c.requires.sound (looked_is c.args.self.now c.args.pick (g.R.Ring.state c.args.ring.now) c.requires.looked) in
    record { areas = ring.areas; pages = c.requires.may; fits = c.requires.fits }

pub serve-served-requires-clause-base : goal.serve-served-requires-clause-base
serve-served-requires-clause-base g c =
    let i = c.self.inside in
    let look = looked_is (held_device i.kind i.registers i.positions) c.args.pick (g.R.Ring.state c.args.ring.now) (rw (← c.self.view_is) at c.requires.looked) in
    c.ram_base.ensures ∙ ap (λ (q : RingState). q.base) (sym look.is)

pub returns-clause-step : goal.returns-clause-step
returns-clause-step g c = λ number honest content whole.
    let i = c.self.inside in
    let s = c.serve-served in
    rw (← c.self.view_is, c.positions.ensures)
    (looked_step_made g.L.TouchLog.after c.args.log.now s.new.log c.args.ram.now s.new.ram number honest content i.kind s.new.self i.registers c.tell.new.registers i.positions c.args.pick (g.R.Ring.state c.args.ring.now) (g.R.Ring.state s.new.ring) s.result s.new.sent.items (reply_in c.of_served.result s.new.sent.items)
    (rw (← c.self.view_is) at c.requires.sound) whole (rw (← c.self.view_is) at c.requires.there) (rw (← c.self.view_is) at c.requires.looked)
    (rw c.features.ensures at s.ensures.served) (c.of_served.ensures s.new.sent.items) c.tell.ensures)
