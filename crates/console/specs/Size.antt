-- The size of a console, and its configuration (VIRTIO 1.2, 5.3.4).
use Rattle.std.specs.Prelude.{ℕ, ◌==◌, ◌&&◌, ◌++◌, Bool, List, not, if◌then◌else◌, replicate}
use Rattle.guestmem.specs.Number.{little_bytes}
use Rattle.mmio.specs.State.{Registers, with_common}
use Rattle.mmio.specs.Interrupts.{configuration_changed}
use Rattle.console.specs.declared.size.ConsoleSize.{ConsoleSize}
use Rattle.console.specs.declared.shape.TheConstants.{SIZE}

-- The configuration: columns and rows, two bytes each; and the greatest number of ports and the emergency register, four
-- bytes each, which read 0.
abbrev pub configuration_of : ConsoleSize → List ℕ
configuration_of s = little_bytes 2 s.columns ++ little_bytes 2 s.rows ++ replicate 8 0

-- Whether two sizes differ.
abbrev pub differ : ConsoleSize → ConsoleSize → Bool
differ s t = not (s.columns == t.columns && s.rows == t.rows)

-- The registers of a console after it was given a size: if that differs from the old one the configuration changes, which
-- is reported to a driver that has negotiated the feature SIZE (VIRTIO 1.2, 5.3.6).
abbrev pub resized : ConsoleSize → ConsoleSize → Registers → Registers
resized old new r = if differ old new then with_common r (configuration_changed r.common SIZE) else r
