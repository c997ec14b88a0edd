-- What holds of every machine.
use Rattle.std.specs.Prelude.{◌≡◌, ℕ, ◌+◌, ◌*◌, ◌/◌, ◌%◌, ◌^◌, ◌≤◌, List, length, map, All, IsSomeAnd}
use Rattle.guestmem.specs.Number.{IsBytes}
use Rattle.guestmem.specs.declared.limits.TheConstants.{PAGE_SIZE, PAGES_GREATEST}
use Rattle.mmio.specs.Sound.{IsSoundRegisters}
use Rattle.console.specs.Shape.{AreHostBytes, IsSoundConsole}
use Rattle.net.specs.Inbox.{AreFrames}
use Rattle.net.specs.Shape.{IsLongNet, IsMac}
use Rattle.blk.specs.Sectors.{AreWhole}
use Rattle.blk.specs.Block.{limits_of}
use Rattle.blk.specs.Shape.{IsBlockShape, IsOutsideShape}
use Rattle.blk.specs.Sound.{AreRequestsOf, AreSound}
use Rattle.chains.specs.State.{RingState}
use Rattle.blk.specs.declared.block.Block as blocks
use Rattle.mmio.specs.State.{Registers, queue_at}
use Rattle.machine.specs.State.{DeviceState, MachineState, base_of}
use Rattle.machine.specs.QueuePositions.{HavePositions, is_packed_by}
use Rattle.machine.specs.Shapes.{device_id_of, made_as, offered_of, queues_of, sector_count}
use Rattle.machine.specs.declared.machine.TheConstants.{DEVICES_MAX}
use Rattle.machine.specs.declared.kind.Kind.{Kind}
use Rattle.machine.specs.declared.kind.Kind.TheVariants as kinds
use Rattle.machine.specs.declared.shape.Shape.{Shape}
use Rattle.machine.specs.declared.shape.Shape.TheVariants.{Net, LongNet, Block, Outside}

-- What a device may be made as.
abbrev pub IsSoundShape : Shape → Type 0
IsSoundShape (Net mac) = IsMac mac
IsSoundShape (LongNet mac longest) = IsLongNet mac longest
IsSoundShape (Block sectors read_only id) = IsBlockShape sectors id
IsSoundShape (Outside sectors read_only id) = IsOutsideShape sectors id
IsSoundShape _ = Unit {0}

-- The outstanding requests of a block device can be so with these registers: they are those of its queue 0.
abbrev pub AreRequests : ℕ → Registers → blocks.Block → Type 0
AreRequests bytes r block = IsSomeAnd (queue_at r 0) (λ q. AreRequestsOf r.ram_base bytes (is_packed_by r.common) q (limits_of block r.common.features) block.requests)

-- What only its kind has is such as a device with these registers can have, in a machine with `bytes` bytes of RAM.
abbrev pub IsSoundKind : ℕ → Registers → Kind → Type 0
IsSoundKind bytes r (kinds.Network mac inbox) = AreFrames inbox
IsSoundKind bytes r (kinds.Block block) = AreRequests bytes r block
IsSoundKind bytes r (kinds.Outside block) = AreRequests bytes r block
IsSoundKind bytes r (kinds.Console size held) = IsSoundConsole size held
IsSoundKind bytes r (kinds.Entropy pool) = AreHostBytes pool

-- The outstanding requests of a block device are sound beside the ring of its queue, where the driver accepted these features.
abbrev pub AreSoundBeside : ℕ → RingState → ℕ → Kind → Type 0
AreSoundBeside len q features (kinds.Block block) = AreSound len q (limits_of block features) block.requests
AreSoundBeside len q features (kinds.Outside block) = AreSound len q (limits_of block features) block.requests
AreSoundBeside len q features kind = Unit {0}

-- RAM of `bytes` bytes may begin at this guest-physical address: a multiple of a page, with no byte past the last address.
pub record IsBase (base bytes : ℕ) : Type 0 where
  pub whole : base % PAGE_SIZE ≡ 0
  pub reach : base + bytes ≤ 2 ^ 64

-- A sound device in a machine with `bytes` bytes of RAM from the address `base` on: RAM may begin there, the device's shape is sound,
-- its registers agree with its shape and hold what accesses can bring about, and its positions and what only its kind has are such as
-- it can have.
pub record IsSoundDevice (base bytes : ℕ) (d : DeviceState) : Type 0 where
  pub shape : IsSoundShape (made_as d.kind)
  pub device_id : d.registers.device_id ≡ device_id_of (made_as d.kind)
  pub offered : d.registers.offered ≡ offered_of (made_as d.kind)
  pub queues : length d.registers.queues ≡ queues_of (made_as d.kind)
  pub based : IsBase base bytes
  pub ram_base : d.registers.ram_base ≡ base
  pub ram_len : d.registers.ram_len ≡ bytes
  pub registers : IsSoundRegisters d.registers
  pub positions : HavePositions (is_packed_by d.registers.common) d.registers.queues d.positions
  pub kind : IsSoundKind bytes d.registers d.kind

-- These are devices of a sound machine, whose RAM has some number of bytes.
abbrev pub AreSoundDevices : List DeviceState → Type 0
AreSoundDevices devices = (bytes : ℕ) × All (IsSoundDevice (base_of devices) bytes) devices

-- A machine is sound: 1 to 4,294,967,295 whole pages of RAM, 1 to 16 devices, each of them sound and of one base, and each disk of its device's size,
-- with sectors that are 512 bytes or bad.
pub record IsSound (m : MachineState) : Type 0 where
  pub whole_pages : length m.ram ≡ 4096 * (length m.ram / 4096)
  pub some_pages : 1 ≤ length m.ram / 4096
  pub few_pages : length m.ram / 4096 ≤ PAGES_GREATEST
  pub some_devices : 1 ≤ length m.devices
  pub few_devices : length m.devices ≤ DEVICES_MAX
  pub devices : All (IsSoundDevice (base_of m.devices) (length m.ram)) m.devices
  pub bytes : IsBytes m.ram
  pub disks : map length m.disks ≡ map (λ d. sector_count (made_as d.kind)) m.devices
  pub sectors : All AreWhole m.disks
