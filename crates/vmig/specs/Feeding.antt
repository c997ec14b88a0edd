-- A receiver is fed a stream as its file is read. No contract says what a file holds, so it is said of the bytes that were read:
-- a front of them, and those after it.
use Rattle.std.specs.Prelude.{◌≡◌, ◌⊎◌, ℕ, List, ◌++◌}
use Rattle.machine.specs.Limits.{IsWithinLimits}
use Rattle.machine.specs.Seen.{Marks}
use Rattle.machine.specs.State.{MachineState, base_of}
use Rattle.receiver.specs.Opened.{terms_at}
use Rattle.receiver.specs.Receiving.{HasBeenFed, IsArrived, IsReceived, NoFault, Received, RefusesSlice}
use Rattle.receiver.specs.declared.recv_error.RecvError.{RecvError}
use Rattle.receiver.specs.declared.terms.Terms.{Terms}
use Rattle.vmig.specs.Faults.{TellsOfFile, stream_fault}
use Rattle.vmig.specs.declared.fault.Fault.{Fault}

-- The receiver, of a machine as these terms say, was fed this front and maybe more, and there was no refusal.
pub record IsFedOn (terms : Terms) (r : Received) (front : List ℕ) : Type 0 where
  pub at : r.ram ≡ terms_at terms
  pub more : List ℕ
  pub fed : HasBeenFed r (front ++ more)

-- And these bytes have no fault.
pub record IsFedQuietly (terms : Terms) (r : Received) (front : List ℕ) : Type 0 where
  pub more : List ℕ
  pub fed : HasBeenFed r (front ++ more)
  pub quiet : NoFault (terms_at terms) r.sizes (front ++ more)

-- The front and what follows it are the stream of this machine, which is as these terms say, in which `n` rounds ended.
pub record IsReceivedOn (terms : Terms) (front : List ℕ) (m : MachineState) (n : ℕ) : Type 0 where
  pub more : List ℕ
  pub received : IsReceived (front ++ more) m n
  pub based : base_of m.devices ≡ terms.base
  pub within : IsWithinLimits terms.limits m

-- The front and what follows it are the stream of a machine with the RAM, the devices and the bad sectors of this one, which is as these
-- terms say.
pub record IsArrivedOn (terms : Terms) (front : List ℕ) (m : MachineState) : Type 0 where
  pub more : List ℕ
  pub arrived : IsArrived (front ++ more) m
  pub based : base_of m.devices ≡ terms.base
  pub within : IsWithinLimits terms.limits m

-- What a fault says of bytes with this front, received on these terms and over disks of these sizes and marks: they are refused.
pub record TellsOfBytesOn (front : List ℕ) (terms : Terms) (sizes : List ℕ) (marks : List Marks) (fault : Fault) : Type 0 where
  pub more : List ℕ
  pub refusal : RecvError
  pub refused : RefusesSlice terms sizes marks (front ++ more) refusal
  pub is : fault ≡ stream_fault refusal

-- What a fault says of the stream in the file of this name, whose front was read: the file could not be read, or the stream is
-- refused; or memory was.
abbrev pub TellsOfRest : List ℕ → List ℕ → Terms → List ℕ → List Marks → Fault → Type 0
TellsOfRest stream front terms sizes marks fault = TellsOfFile stream fault ⊎ TellsOfBytesOn front terms sizes marks fault
