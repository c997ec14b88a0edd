-- The areas of a queue of either layout.
use Rattle.std.specs.Prelude.{ℕ, ◌+◌, ◌*◌, Bool, if◌then◌else◌}

-- The bytes of the driver area of a queue of `size` slots: flags, index, ring and event index in the split layout (VIRTIO 1.2, 2.7.6),
-- the event suppression structure in the packed one (VIRTIO 1.2, 2.8.14).
abbrev pub driver_bytes : Bool → ℕ → ℕ
driver_bytes is_packed size = if is_packed then 4 else 6 + 2 * size

-- The bytes of the device area: as above, with an id and a length for each slot (VIRTIO 1.2, 2.7.8 and 2.8.14).
abbrev pub device_bytes : Bool → ℕ → ℕ
device_bytes is_packed size = if is_packed then 4 else 6 + 8 * size

-- The alignment of the driver area (VIRTIO 1.2, 2.7 and 2.8.10.1).
abbrev pub driver_alignment : Bool → ℕ
driver_alignment is_packed = if is_packed then 4 else 2
