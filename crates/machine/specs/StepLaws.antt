-- What follows from the definition of a step.
use Rattle.std.specs.Prelude.{◌≡◌, ◌↔◌, ◌<◌, ◌^◌, ℕ, List, Some, slice_get, slice_set, bit_or}
use Rattle.guestmem.specs.Number.{IsBytes}
use Rattle.mmio.specs.State.{with_common}
use Rattle.machine.specs.Effect.{Effect, applied}
use Rattle.machine.specs.EffectLaws.{IsWithin, IsSameShape}
use Rattle.machine.specs.Looked.{LooksAtMalformed}
use Rattle.machine.specs.Outcome.{Outcome, fine}
use Rattle.machine.specs.Run.{IsRun}
use Rattle.machine.specs.Sound.{IsSound}
use Rattle.machine.specs.State.{MachineState, DeviceState}
use Rattle.machine.specs.Step.{HasEffect, IsStep}
use Rattle.machine.specs.declared.event.DiskAnswer.{DiskAnswer}
use Rattle.machine.specs.declared.event.DiskAnswer.TheVariants as answers
use Rattle.machine.specs.declared.event.Event.{Event}
use Rattle.machine.specs.declared.event.Event.TheVariants.{RegRead, RegWrite, MemRead, MemWrite, Step, Input, Resize, Drop, Disk}
use Rattle.machine.specs.declared.reply.Reply.{Reply}
use Rattle.machine.specs.declared.reply.Reply.TheVariants.{NeedsReset, NoMemory, Refused}

-- The machine, the event and the outcome determine the reply and the effect: what a device sees in a ring is determined by RAM.
abbrev pub EffectsAgree : Type 0
EffectsAgree = (m : MachineState) (e : Event) (o : Outcome) (r s : Reply) (f g : Effect) → HasEffect m e o r f → HasEffect m e o s g → (r ≡ s) × (f ≡ g)

-- So the machine, the event and the outcome determine the reply and the machine after the step.
abbrev pub StepsAgree : Type 0
StepsAgree = (m : MachineState) (e : Event) (o : Outcome) (r s : Reply) (a b : MachineState) → IsStep m e o r a → IsStep m e o s b → (r ≡ s) × (a ≡ b)

-- So the machine, the events and the outcomes determine the replies of a run and the machine after it.
abbrev pub RunsAgree : Type 0
RunsAgree = (m : MachineState) (es : List Event) (os : List Outcome) (rs ss : List Reply) (a b : MachineState) → IsRun m es os rs a → IsRun m es os ss b → (rs ≡ ss) × (a ≡ b)

abbrev pub AnswerFits : DiskAnswer → Type 0
AnswerFits (answers.Gave bytes) = IsBytes bytes
AnswerFits (answers.Did count) = count < 2 ^ 32
AnswerFits answers.Failed = Unit {0}

-- The numbers of an event fit their fields, and bytes are bytes.
abbrev pub Fits : Event → Type 0
Fits (RegRead dev off width) = (dev < 2 ^ 8) × (off < 2 ^ 32) × (width < 2 ^ 8)
Fits (RegWrite dev off width value) = (dev < 2 ^ 8) × (off < 2 ^ 32) × (width < 2 ^ 8) × (value < 2 ^ 32)
Fits (MemRead addr len) = (addr < 2 ^ 64) × (len < 2 ^ 32)
Fits (MemWrite addr bytes) = (addr < 2 ^ 64) × IsBytes bytes
Fits (Step dev pick) = (dev < 2 ^ 8) × (pick < 2 ^ 8)
Fits (Input dev bytes) = (dev < 2 ^ 8) × IsBytes bytes
Fits (Resize dev cols rows) = (dev < 2 ^ 8) × (cols < 2 ^ 16) × (rows < 2 ^ 16)
Fits (Drop dev) = dev < 2 ^ 8
Fits (Disk dev pick given) = (dev < 2 ^ 8) × (pick < 2 ^ 8) × AnswerFits given

-- The effect of a step of a sound machine lies within it: in its RAM, its disks and its devices.
abbrev pub StepStaysWithin : Type 0
StepStaysWithin = (m : MachineState) (e : Event) (o : Outcome) (r : Reply) (f : Effect) → IsSound m → HasEffect m e o r f → IsWithin m f

-- A step keeps the shape of a machine.
abbrev pub StepKeepsShape : Type 0
StepKeepsShape = (m : MachineState) (e : Event) (o : Outcome) (r : Reply) (f : Effect) → HasEffect m e o r f → IsSameShape m (applied m f)

-- A sound machine is sound after a step.
abbrev pub StepStaysSound : Type 0
StepStaysSound = (m : MachineState) (e : Event) (o : Outcome) (r : Reply) (f : Effect) → IsSound m → Fits e → HasEffect m e o r f → IsSound (applied m f)

-- An event that was refused, or for which memory was refused, changes nothing.
abbrev pub IsRefusal : Reply → Type 0
IsRefusal NoMemory = Unit {0}
IsRefusal (Refused refusal) = Unit {0}
IsRefusal _ = ⊥

abbrev pub RefusalsChangeNothing : Type 0
RefusalsChangeNothing = (m : MachineState) (e : Event) (o : Outcome) (r : Reply) (after : MachineState) → IsStep m e o r after → IsRefusal r → after ≡ m

-- One device has asked for a reset: its status has DEVICE_NEEDS_RESET, and its interrupt status the bit of a changed
-- configuration (VIRTIO 1.2, 2.1.2). Nothing else has changed, in any device, in RAM or on any disk.
pub record IsContained (m after : MachineState) (dev : ℕ) : Type 0 where
  pub device : DeviceState
  pub there : slice_get m.devices dev ≡ Some device
  pub after_is : after ≡ record m {
    devices = slice_set m.devices dev (record device {
      registers = with_common device.registers (record device.registers.common {
        status = bit_or device.registers.common.status 64;
        interrupts = bit_or device.registers.common.interrupts 2;
      });
    });
  }

-- A malformed chain stops its own device, and changes nothing else.
abbrev pub MalformedIsContained : Type 0
MalformedIsContained = (m : MachineState) (dev pick : ℕ) (o : Outcome) (after : MachineState) → IsStep m (Step dev pick) o NeedsReset after → IsContained m after dev

-- A step makes a device ask for a reset exactly if it looks at a queue that is malformed and the outcome is `fine`: memory was
-- not refused.
abbrev pub MalformedAsksForReset : Type 0
MalformedAsksForReset = (m : MachineState) (dev pick : ℕ) (o : Outcome) (r : Reply) (after : MachineState) → IsStep m (Step dev pick) o r after
    → (r ≡ NeedsReset) ↔ ((o ≡ fine) × LooksAtMalformed m dev pick)
