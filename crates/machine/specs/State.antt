-- The state of a machine: what two equal machines agree on.
use Rattle.std.specs.Prelude.{List, [], ◌∷◌, ℕ}
use Rattle.blk.specs.Sectors.{Sector}
use Rattle.mmio.specs.State.{Registers}
use Rattle.chains.specs.declared.position.Positions.{Positions}
use Rattle.machine.specs.declared.kind.Kind.{Kind}

-- A device: its kind (what it was made as, with the state that only its kind has), its registers with its queues, and its
-- positions in each queue.
pub record DeviceState : Type 0 where
  pub kind : Kind
  pub registers : Registers
  pub positions : List Positions

-- A machine: the bytes of its RAM, its devices in order, and for each device the sectors of its disk, each 512 bytes or bad. A
-- device without a disk has no sectors. Two machines are equal when all of this is.
pub record MachineState : Type 0 where
  pub ram : List ℕ
  pub devices : List DeviceState
  pub disks : List (List Sector)

-- The base of a machine: the guest-physical address at which its RAM begins. The registers of each device know it.
abbrev pub base_of : List DeviceState → ℕ
base_of [] = 0
base_of (d ∷ devices) = d.registers.ram_base
