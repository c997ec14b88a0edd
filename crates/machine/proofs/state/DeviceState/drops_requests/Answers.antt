use Rattle.std.proofs.Common.{◌≡◌, ap, length, sym, true, ◌∙◌, ltb}
use Rattle.std.specs.Prelude.{not}
use Rattle.mmio.specs.RegisterWrite.{register_write}
use Rattle.mmio.specs.State.{Registers}
use Rattle.machine.specs.Outside.{outside_requests}
use Rattle.machine.specs.Shapes.{device_id_of, offered_of}
use Rattle.machine.specs.Step.{is_first_ready}
use Rattle.machine.proofs.Stepping.{copied, held_device}
use Rattle.machine.proofs.state.DeviceState.drops_requests.Goals as goal

pub returns : goal.returns
returns c =
    let i = c.self.inside in
    let d = held_device i.kind i.registers i.positions in
    let made = c.new_at-registers.ensures in
    let copy : c.restore.new.self ≡ i.registers = c.restore.ensures ∙ rw made (copied c.args.ram_len d c.device_id.result c.offered.result c.ram_base.result c.common.result c.queues.result.now (rw (← c.self.view_is) at c.requires.sound)
    (c.device_id.ensures ∙ ap device_id_of c.shape-shape.ensures) (c.offered.ensures ∙ ap offered_of c.shape-shape.ensures) c.ram_base.ensures c.common.ensures.value c.queues.ensures.value) in
    let some : ltb 0 (length (outside_requests i.kind)) ≡ true = sym (rw (← c.self.view_is) at c.has_outside_requests.ensures) ∙ c.if-not-has_outside_requests.false in
    let after : c.write-effect.new.self ≡ (register_write i.registers c.args.offset c.args.width c.args.value).1 = ap (λ x. x.1) c.write-effect.ensures.value ∙ ap (λ (r : Registers). (register_write r c.args.offset c.args.width c.args.value).1) copy in
    rw (← c.self.view_is, some) (ap not (c.is_first_ready.ensures ∙ ap is_first_ready (c.queues-2.ensures.value ∙ ap (λ (r : Registers). r.queues) after)))
