-- The body of a device's record: the registers that it has once, each queue with its positions, and its kind-specific state.
-- Every number is little-endian.
use Rattle.std.specs.Prelude.{◌≡◌, ◌^◌, ◌&&◌, ℕ, Bool, false, List, [], ◌∷◌, ◌++◌, length}
use Rattle.chains.specs.declared.position.Positions.{Positions}
use Rattle.console.specs.declared.size.ConsoleSize.{ConsoleSize}
use Rattle.mmio.specs.Bits.{has}
use Rattle.mmio.specs.declared.common.Common.{Common}
use Rattle.mmio.specs.declared.constants.TheConstants.{FEATURES_OK}
use Rattle.mmio.specs.declared.queue.Queue.{Queue}
use Rattle.wire.specs.Numbers.{spelled, digits, flag}
use Rattle.machine.specs.Shapes.{made_as}
use Rattle.machine.specs.Sound.{IsSoundDevice}
use Rattle.machine.specs.State.{DeviceState}
use Rattle.machine.specs.declared.kind.Kind.{Kind}
use Rattle.machine.specs.declared.kind.Kind.TheVariants.{Network, Block, Outside, Console, Entropy}
use Rattle.machine.specs.declared.shape.Shape.{Shape}
use Rattle.machine.specs.declared.shape.Shape.TheVariants as shapes
use Rattle.wire.specs.FrameText.{frames_text}
use Rattle.wire.specs.declared.decode_error.DecodeError.{DecodeError}
use Rattle.wire.specs.declared.decode_error.DecodeError.TheVariants.{BadBody, NoMemory}
use Rattle.wire.specs.RequestText.{requests_text}

-- The registers that a device has once, in 26 bytes: status and interrupt status, DeviceFeaturesSel, DriverFeaturesSel, the
-- driver's features, QueueSel and ConfigGeneration (VIRTIO 1.2, 4.2.2).
abbrev pub common_widths : List ℕ
common_widths = 1 ∷ 1 ∷ 4 ∷ 4 ∷ 8 ∷ 4 ∷ 4 ∷ []

abbrev pub common_numbers : Common → List ℕ
common_numbers c = c.status ∷ c.interrupts ∷ c.device_select ∷ c.driver_select ∷ c.features ∷ c.queue_select ∷ c.generation ∷ []

unfoldable pub common_text : Common → List ℕ
common_text c = spelled common_widths (common_numbers c)

-- A queue, in 36 bytes: its size, the addresses of its descriptor, driver and device areas, whether it is ready and notified,
-- and the positions where the next chain is taken and published: an index and a wrap counter each.
abbrev pub queue_widths : List ℕ
queue_widths = 4 ∷ 8 ∷ 8 ∷ 8 ∷ 1 ∷ 1 ∷ 2 ∷ 1 ∷ 2 ∷ 1 ∷ []

abbrev pub queue_numbers : Queue → Positions → List ℕ
queue_numbers q p =
    q.size ∷ q.descriptors ∷ q.driver ∷ q.device ∷ flag q.is_ready ∷ flag q.is_notified
    ∷ p.taking.place ∷ flag p.taking.wrap ∷ p.used.place ∷ flag p.used.wrap ∷ []

unfoldable pub queue_text : Queue → Positions → List ℕ
queue_text q p = spelled queue_widths (queue_numbers q p)

abbrev pub queues_text : List Queue → List Positions → List ℕ
queues_text (q ∷ qs) (p ∷ ps) = queue_text q p ++ queues_text qs ps
queues_text qs ps = []

-- Bytes, with their count before them in two bytes.
abbrev pub held_text : List ℕ → List ℕ
held_text bytes = digits 2 (length bytes) ++ bytes

-- The size of a console, in 4 bytes: its columns and its rows.
abbrev pub size_widths : List ℕ
size_widths = 2 ∷ 2 ∷ []

abbrev pub size_numbers : ConsoleSize → List ℕ
size_numbers s = s.columns ∷ s.rows ∷ []

unfoldable pub size_text : ConsoleSize → List ℕ
size_text s = spelled size_widths (size_numbers s)

-- The kind-specific state: of a network device the frames of its inbox, the oldest first; of a block device its outstanding
-- requests in the order of taking; of a console its size and the bytes held for its driver; of an entropy device the bytes of
-- its pool.
abbrev pub kind_text : Kind → List ℕ
kind_text (Network mac inbox) = frames_text inbox.frames
kind_text (Block block) = requests_text block.requests
kind_text (Outside block) = requests_text block.requests
kind_text (Console size held) = size_text size ++ held_text held
kind_text (Entropy pool) = held_text pool

abbrev pub body : DeviceState → List ℕ
body d = common_text d.registers.common ++ (queues_text d.registers.queues d.positions ++ kind_text d.kind)

-- Whether the driver of a block device accepted WRITE_ZEROES: bit 14 of the features, which FEATURES_OK settles (VIRTIO 1.2, 2.1
-- and 5.2.3).
abbrev pub has_zeroes : Shape → Common → Bool
has_zeroes (shapes.Block sectors read_only id) c = has c.status FEATURES_OK && has c.features (2 ^ 14)
has_zeroes (shapes.Outside sectors read_only id) c = has c.status FEATURES_OK && has c.features (2 ^ 14)
has_zeroes _ c = false

-- A version that has its shape has this device. In version 1 no block device has a driver that accepted WRITE_ZEROES, and so none
-- has a request to clear sectors.
abbrev pub IsDeviceOf : ℕ → DeviceState → Type 0
IsDeviceOf version d = version ≡ 1 → has_zeroes (made_as d.kind) d.registers.common ≡ false

-- The bytes are the body of this device in a version: the device has this shape, is sound in a machine with `ram_len` bytes of RAM
-- from the address `base` on, and the version has it. The bytes do not tell the base: the same ones may be the body of a device at
-- another base.
pub record IsBodyOf (version : ℕ) (shape : Shape) (base ram_len : ℕ) (bytes : List ℕ) (d : DeviceState) : Type 0 where
  pub shape_is : made_as d.kind ≡ shape
  pub sound : IsSoundDevice base ram_len d
  pub has : IsDeviceOf version d
  pub is : bytes ≡ body d

-- What an error says of the bytes: with `BadBody` they are the body of no such device; `NoMemory` says nothing of them.
abbrev pub RefusesBody : ℕ → Shape → ℕ → ℕ → List ℕ → DecodeError → Type 0
RefusesBody version shape base ram_len bytes BadBody = (d : DeviceState) → ¬ (IsBodyOf version shape base ram_len bytes d)
RefusesBody version shape base ram_len bytes NoMemory = Unit {0}
