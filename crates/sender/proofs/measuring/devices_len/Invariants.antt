use Rattle.std.proofs.Common.{◌≡◌, ◌≤◌, ◌*◌, length, map, take}
use Rattle.machine.specs.Seen.{DeviceSeen}
use Rattle.wire.specs.Stream.{device_texts}
use Rattle.sender.proofs.measuring.devices_len.Given as goal

abbrev pub invariant-loop-device : goal.invariant-loop-device
invariant-loop-device g l = record {
  low : l.len ≤ 131078 * l.device-index;
  sum : l.len ≡ length (device_texts 0 (take l.device-index (map (λ (d : DeviceSeen). d.state) l.devices)));
}
