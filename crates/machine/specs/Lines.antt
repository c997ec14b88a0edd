-- The interrupt lines of a machine (VIRTIO 1.2, 4.2.2, InterruptStatus).
use Rattle.std.specs.Prelude.{ℕ, ◌+◌, ◌*◌, ◌==◌, List, [], ◌∷◌, if◌then◌else◌}
use Rattle.machine.specs.State.{DeviceState}

-- A device's interrupt line is 1 while an interrupt is not acknowledged, and otherwise 0.
abbrev pub line_of : DeviceState → ℕ
line_of d = if d.registers.common.interrupts == 0 then 0 else 1

-- One bit per device, the first device in the lowest bit.
unfoldable pub lines_of : List DeviceState → ℕ
lines_of [] = 0
lines_of (d ∷ ds) = line_of d + 2 * lines_of ds
