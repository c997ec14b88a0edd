-- What `check` does: a stream is received over disks in memory, and one line says what machine it is of.
use Rattle.std.specs.Prelude.{◌≡◌, ◌⊎◌, ◌/◌, ℕ, Bool, true, false, List, [], length, map, replicate}
use Rattle.blk.specs.Disk.{DiskState}
use Rattle.guestmem.specs.declared.limits.TheConstants.{PAGE_SIZE}
use Rattle.machine.specs.Shapes.{disk_sizes}
use Rattle.machine.specs.State.{MachineState, base_of}
use Rattle.machine.specs.declared.shape.Shape.{Shape}
use Rattle.receiver.specs.Receiving.{IsReceived, RefusesSlice}
use Rattle.receiver.specs.declared.recv_error.RecvError.{RecvError}
use Rattle.traces.specs.Replies.{checked_line}
use Rattle.machine.specs.Limits.{AreWithin, IsWithinLimits}
use Rattle.machine.specs.declared.limits.Limits.{Limits}
use Rattle.wire.specs.Header.{Begins, Opening}
use Rattle.vmig.specs.Allowing.{program_limits, program_terms}
use Rattle.vmig.specs.Faults.{TellsOfFile, stream_fault}
use Rattle.vmig.specs.declared.fault.Fault.{Fault}
use Rattle.vmig.specs.declared.fault.Fault.TheVariants.{NoMemory}

-- Disks of zeros, one for each of these devices that has a disk.
abbrev pub zero_disks : List Shape → List (List (List ℕ))
zero_disks shapes = map (λ size. replicate size (replicate 512 0)) (disk_sizes shapes)

-- A disk of this many sectors that keeps nothing: it never fails, and a read gives zeros.
abbrev pub forgetful_state : ℕ → DiskState
forgetful_state count = record { sectors = replicate count (replicate 512 0); failures = 0; honest = false; steady = true; is_flushed = true }

-- The bytes are the stream of a machine whose RAM begins at the address 0, whose disks may be outside or not, and this is its line.
pub record IsStreamLine (outside : Bool) (bytes line : List ℕ) : Type 0 where
  pub machine : MachineState
  pub rounds : ℕ
  pub received : IsReceived bytes machine rounds
  pub based : base_of machine.devices ≡ 0
  pub within : IsWithinLimits (program_limits outside) machine
  pub spelled : line ≡ checked_line (length machine.ram / PAGE_SIZE) (length machine.devices) rounds

-- The machine of some stream, whose RAM begins at the address 0, in which `n` rounds ended. No contract says what the file of a stream holds.
pub record IsStreamMachine (outside : Bool) (machine : MachineState) (n : ℕ) : Type 0 where
  pub bytes : List ℕ
  pub received : IsReceived bytes machine n
  pub based : base_of machine.devices ≡ 0
  pub within : IsWithinLimits (program_limits outside) machine

-- The header of a machine within these limits, with disks of these sizes.
pub record TellsSizes (limits : Limits) (bytes sizes : List ℕ) : Type 0 where
  pub opening : Opening
  pub rest : List ℕ
  pub begins : Begins bytes opening rest
  pub within : AreWithin limits opening.pages opening.shapes
  pub sizes_are : sizes ≡ disk_sizes opening.shapes

-- The bytes begin with no header of a machine within these limits.
abbrev pub BeginsNot : Limits → List ℕ → Type 0
BeginsNot limits bytes = (opening : Opening) (rest : List ℕ) → AreWithin limits opening.pages opening.shapes → ¬ (Begins bytes opening rest)

pub record TellsNone (limits : Limits) (bytes sizes : List ℕ) : Type 0 where
  pub no_header : BeginsNot limits bytes
  pub none : sizes ≡ []

-- Disks of these sizes fit the header with which the bytes begin; there are none where they begin with no header.
abbrev pub AreSizesOf : Limits → List ℕ → List ℕ → Type 0
AreSizesOf limits bytes sizes = TellsSizes limits bytes sizes ⊎ TellsNone limits bytes sizes

-- What a fault says of bytes, for a machine whose RAM begins at the address 0 and whose disks have the sizes that the header gives and never fail: its number names
-- the first fault in the bytes, or they are an incomplete stream; or memory was refused.
pub record TellsOfBytes (outside : Bool) (bytes : List ℕ) (fault : Fault) : Type 0 where
  pub sizes : List ℕ
  pub fit : AreSizesOf (program_limits outside) bytes sizes
  pub refusal : RecvError
  pub refused : RefusesSlice (program_terms outside) sizes [] bytes refusal
  pub is : fault ≡ stream_fault refusal

abbrev pub TellsOfStream : Bool → List ℕ → Fault → Type 0
TellsOfStream outside bytes fault = (fault ≡ NoMemory) ⊎ TellsOfBytes outside bytes fault

-- What a fault says of the stream in the file of this name: the file could not be read, or it is about the bytes that were read.
abbrev pub TellsOfChecked : Bool → List ℕ → Fault → Type 0
TellsOfChecked outside stream fault = TellsOfFile stream fault ⊎ ((bytes : List ℕ) × TellsOfStream outside bytes fault)
