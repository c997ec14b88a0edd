use Rattle.std.proofs.Common.{◌≡◌, Some, [], length, map, ap, sym, ◌∙◌, arith}
use Rattle.std.proofs.lemmas.List.{length-map, take_all}
use Rattle.std.specs.Prelude.{slice_get}
use Rattle.machine.specs.Seen.{DeviceSeen}
use Rattle.machine.specs.State.{DeviceState, base_of}
use Rattle.machine.proofs.At.{found}
use Rattle.wire.proofs.Saving.{no_devices}
use Rattle.sender.proofs.SavedLengths.{one_state, state_sound}
use Rattle.sender.proofs.measuring.devices_len.Goals as goal

pub loop-device-init : goal.loop-device-init
loop-device-init g c = record { low = omega arith; sum = sym (ap length (no_devices [])) }

pub device_len-len-requires : goal.device_len-len-requires
device_len-len-requires g c =
    let states = map (λ (d : DeviceSeen). d.state) c.args.devices.now in
    let there : slice_get states c.loop-device.device-index ≡ Some c.device-item.result.state = found c.args.devices.now c.loop-device.device-index c.device-item.result (record { below = c.loop-device-test.true; is = c.device-item.is }) in
    rw c.state.ensures (record { sound = (base_of states, c.requires.sound.0, state_sound states c.loop-device.device-index c.device-item.result.state c.requires.sound there) })

pub loop-device-preserved : goal.loop-device-preserved
loop-device-preserved g c =
    let states = map (λ (d : DeviceSeen). d.state) c.args.devices.now in
    let n = c.loop-device.device-index in
    let there : slice_get states n ≡ Some c.state.result.now = found c.args.devices.now n c.device-item.result (record { below = c.loop-device-test.true; is = c.device-item.is }) ∙ ap (λ (d : DeviceState). Some d) (sym c.state.ensures) in
    let more = one_state states n c.state.result.now there (rw length-map c.loop-device-test.true) in
    record {
      low = omega (arith, c.loop-device.invariant.low, c.device_len-len.ensures.short);
      sum = omega (arith, c.loop-device.invariant.sum, c.device_len-len.ensures.len n, more);
    }

pub returns-clause-len : goal.returns-clause-len
returns-clause-len g c =
    let states = map (λ (d : DeviceSeen). d.state) c.args.devices.now in
    rw (take_all c.loop-device.device-index states (rw length-map c.loop-device-test.false)) at c.loop-device.invariant.sum
