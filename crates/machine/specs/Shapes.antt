-- What the kind of a device determines, and what it was made as (its shape).
use Rattle.std.specs.Prelude.{ℕ, ◌+◌, ◌^◌, ◌==◌, ◌||◌, nat_lt, if◌then◌else◌, Bool, false, List, [], ◌∷◌, Option, Some, None, replicate}
use Rattle.blk.specs.Shape as blocks
use Rattle.blk.specs.declared.shape.TheConstants.{OUTSIDE_GREATEST}
use Rattle.blk.specs.Block.{first_block}
use Rattle.net.specs.Inbox.{no_frames}
use Rattle.net.specs.Shape as nets
use Rattle.net.specs.declared.limits.TheConstants.{FRAME_MAX, LONG_FRAME_MIN}
use Rattle.console.specs.Size as sizes
use Rattle.console.specs.declared.size.ConsoleSize.{ConsoleSize}
use Rattle.mmio.specs.State.{first_registers}
use Rattle.chains.specs.declared.position.Positions.{Positions}
use Rattle.mmio.specs.declared.common.Common.{Common}
use Rattle.mmio.specs.declared.queue.Queue.{Queue}
use Rattle.machine.specs.declared.kind.Kind.{Kind}
use Rattle.machine.specs.declared.kind.Kind.TheVariants as kinds
use Rattle.machine.specs.declared.limits.Limits.{Limits}
use Rattle.machine.specs.declared.shape.Shape.{Shape}
use Rattle.machine.specs.declared.shape.Shape.TheVariants.{Net, LongNet, Block, Outside, Console, Entropy}
use Rattle.machine.specs.State.{DeviceState}
use Rattle.machine.specs.QueuePositions.{first_positions}

-- What a network device was made as, whose longest frame has this many bytes: for long frames, unless these are the usual 1,514.
abbrev pub net_as : List ℕ → ℕ → Shape
net_as mac longest = if longest == FRAME_MAX then Net mac else LongNet mac longest

-- What a device of this kind was made as.
abbrev pub made_as : Kind → Shape
made_as (kinds.Network mac inbox) = net_as mac inbox.longest
made_as (kinds.Block block) = Block block.sectors block.read_only block.id
made_as (kinds.Outside block) = Outside block.sectors block.read_only block.id
made_as (kinds.Console size held) = Console
made_as (kinds.Entropy pool) = Entropy

-- The device ID (VIRTIO 1.2, 5). One whose disk is outside is a block device to its driver.
abbrev pub device_id_of : Shape → ℕ
device_id_of (Net mac) = 1
device_id_of (LongNet mac longest) = 1
device_id_of (Block sectors read_only id) = 2
device_id_of (Outside sectors read_only id) = 2
device_id_of Console = 3
device_id_of Entropy = 4

-- The feature bits that every device offers: INDIRECT_DESC 28, EVENT_IDX 29, VERSION_1 32 and RING_PACKED 34
-- (VIRTIO 1.2, 6).
abbrev pub common_features : ℕ
common_features = 2 ^ 28 + 2 ^ 29 + 2 ^ 32 + 2 ^ 34

-- The feature bits that the device offers: in addition to those that every device offers, a network device offers MAC 5, and MTU 3
-- where it is for long frames (VIRTIO 1.2, 5.1.3), a console SIZE 0 and EMERG_WRITE 2 (5.3.3), and a block device its own (5.2.3), with SEG_MAX 2
-- where its disk is outside.
abbrev pub offered_of : Shape → ℕ
offered_of (Net mac) = common_features + 2 ^ 5
offered_of (LongNet mac longest) = common_features + (2 ^ 3 + 2 ^ 5)
offered_of (Block sectors read_only id) = common_features + blocks.features_of read_only
offered_of (Outside sectors read_only id) = common_features + blocks.outside_features_of read_only
offered_of Console = common_features + (2 ^ 0 + 2 ^ 2)
offered_of Entropy = common_features

-- The number of its queues (VIRTIO 1.2, 5.1.2, 5.2.2, 5.3.2 and 5.4.2).
abbrev pub queues_of : Shape → ℕ
queues_of (Net mac) = 2
queues_of (LongNet mac longest) = 2
queues_of (Block sectors read_only id) = 1
queues_of (Outside sectors read_only id) = 1
queues_of Console = 2
queues_of Entropy = 1

-- The configuration space: of a network device its MAC, and its MTU where it is for long frames (VIRTIO 1.2, 5.1.4), of a block device
-- its own (5.2.4), with the limit of SEG_MAX where its disk is outside, of a console that of its size (5.3.4); an entropy device has none
-- (5.4.4).
abbrev pub configuration_of : Kind → List ℕ
configuration_of (kinds.Network mac inbox) = nets.configuration_of mac inbox.longest
configuration_of (kinds.Block block) = blocks.configuration_of block.sectors
configuration_of (kinds.Outside block) = blocks.outside_configuration_of block.sectors
configuration_of (kinds.Console size held) = sizes.configuration_of size
configuration_of (kinds.Entropy pool) = []

-- How many sectors its disk has, if it has one. A disk outside is not the machine's: none of its sectors is in the machine.
abbrev pub disk_size_of : Shape → Option ℕ
disk_size_of (Block sectors read_only id) = Some sectors
disk_size_of (Outside sectors read_only id) = None
disk_size_of _ = None

abbrev pub or_zero : Option ℕ → ℕ
or_zero None = 0
or_zero (Some n) = n

-- How many sectors of the machine a device of this shape has.
abbrev pub sector_count : Shape → ℕ
sector_count shape = or_zero (disk_size_of shape)

abbrev pub with_size : Option ℕ → List ℕ → List ℕ
with_size None sizes = sizes
with_size (Some n) sizes = n ∷ sizes

-- How many sectors the disks of these devices have, in the order of the devices that have one.
abbrev pub disk_sizes : List Shape → List ℕ
disk_sizes [] = []
disk_sizes (shape ∷ shapes) = with_size (disk_size_of shape) (disk_sizes shapes)

-- Whether a shape is beyond its limits: a block device has one to as many sectors as they allow, for which a disk outside has a limit of its
-- own, 2^54 at most, and the longest frame of a network device for long ones has 1,518 bytes at least, so that its MTU is 1,500 at least, and no
-- more than they allow; other devices have no such limit.
abbrev pub is_beyond : Limits → Shape → Bool
is_beyond limits (Block sectors read_only id) = sectors == 0 || nat_lt limits.sectors sectors
is_beyond limits (Outside sectors read_only id) = sectors == 0 || nat_lt OUTSIDE_GREATEST sectors || nat_lt limits.outside sectors
is_beyond limits (LongNet mac longest) = nat_lt longest LONG_FRAME_MIN || nat_lt limits.frame longest
is_beyond limits _ = false

-- A new console has 80 columns and 25 rows.
abbrev pub first_size : ConsoleSize
first_size = record { columns = 80; rows = 25 }

-- A new device that is made as this.
abbrev pub first_kind : Shape → Kind
first_kind (Net mac) = kinds.Network mac (no_frames FRAME_MAX)
first_kind (LongNet mac longest) = kinds.Network mac (no_frames longest)
first_kind (Block sectors read_only id) = kinds.Block (first_block sectors read_only id)
first_kind (Outside sectors read_only id) = kinds.Outside (first_block sectors read_only id)
first_kind Console = kinds.Console first_size []
first_kind Entropy = kinds.Entropy []

-- A new device in a machine with `ram_len` bytes of RAM from the address `ram_base` on.
abbrev pub first_device : ℕ → ℕ → Shape → DeviceState
first_device ram_base ram_len shape = record {
  kind = first_kind shape;
  registers = first_registers (device_id_of shape) (offered_of shape) (queues_of shape) ram_base ram_len;
  positions = replicate (queues_of shape) first_positions;
}

-- A device as it was saved, in such a machine.
abbrev pub saved_device : ℕ → ℕ → Kind → Common → List Queue → List Positions → DeviceState
saved_device ram_base ram_len kind common queues positions = record {
  kind = kind;
  registers = record { device_id = device_id_of (made_as kind); offered = offered_of (made_as kind); ram_base = ram_base; ram_len = ram_len; common = common; queues = queues };
  positions = positions;
}
