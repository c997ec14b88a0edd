-- The laws of faults.
--
-- That what is saved is received is a law of its own, over `whole` and the faults, so that nobody has to put it together from
-- what `save` and `receive` promise.
use Rattle.std.specs.Prelude.{◌≡◌, ◌≤◌, ◌⊎◌, ℕ, List, ◌++◌, length, Result, Ok, Err}
use Rattle.wire.specs.Stream.{IsStream, rounds, shapes_in, whole}
use Rattle.machine.specs.Layout.{pages_of}
use Rattle.machine.specs.Limits.{IsWithinLimits}
use Rattle.machine.specs.Seen.{Marks}
use Rattle.machine.specs.Sound.{IsSound}
use Rattle.machine.specs.State.{MachineState, base_of}
use Rattle.machine.specs.Shapes.{disk_sizes}
use Rattle.receiver.specs.Disks.{IsUnsteady}
use Rattle.receiver.specs.Calls.{Feeds}
use Rattle.receiver.specs.Receiving.{HasBeenFed, NoFault, HasRounds, Received, RefusesSlice}
use Rattle.receiver.specs.Faults.{Fault}
use Rattle.receiver.specs.Opened.{HasPages}
use Rattle.receiver.specs.declared.ram_terms.RamTerms.{RamTerms}
use Rattle.receiver.specs.declared.recv_error.RecvError.{RecvError}
use Rattle.receiver.specs.declared.terms.Terms.{Terms}
use Rattle.receiver.specs.declared.recv_error.RecvError.TheVariants.{DiskFailed, NoMemory}

-- For what is said of RAM, a list of bytes has at most one fault, at one place: it is the first.
abbrev pub OneFault : Type 0
OneFault = (ram : RamTerms) (sizes bytes : List ℕ) (k j : RecvError) (at bt : ℕ) → Fault ram sizes bytes k at → Fault ram sizes bytes j bt → (k ≡ j) × (at ≡ bt)

-- A stream of a machine within the limits, with disks of these sizes, has no fault, where the machine's RAM begins at the address that is named, and has the
-- pages of the RAM that was handed in.
abbrev pub NoFaultInStream : Type 0
NoFaultInStream = (ram : RamTerms) (sizes bytes : List ℕ) (m : MachineState) → IsStream bytes m → base_of m.devices ≡ ram.base → HasPages ram (pages_of m) → IsWithinLimits ram.limits m → sizes ≡ disk_sizes (shapes_in m.devices) → NoFault ram sizes bytes

-- A fault in some bytes is a fault, at the same place, in every extension of them.
abbrev pub FaultsStay : Type 0
FaultsStay = (ram : RamTerms) (sizes b c : List ℕ) (k : RecvError) (at : ℕ) → Fault ram sizes b k at → Fault ram sizes (b ++ c) k at

-- A fault in some bytes is a fault, at the same place, in every prefix of them that reaches its place.
abbrev pub FaultsStandEarly : Type 0
FaultsStandEarly = (ram : RamTerms) (sizes b c : List ℕ) (k : RecvError) (at : ℕ) → at ≤ length b → Fault ram sizes (b ++ c) k at → Fault ram sizes b k at

-- The rounds that a stream has (`HasRounds`) are the ends of rounds among its records.
abbrev pub RoundsOfStream : Type 0
RoundsOfStream = (ram : RamTerms) (sizes bytes : List ℕ) (m : MachineState) (n : ℕ) (s : IsStream bytes m) → base_of m.devices ≡ ram.base → HasPages ram (pages_of m) → IsWithinLimits ram.limits m → sizes ≡ disk_sizes (shapes_in m.devices) → HasRounds ram sizes bytes n → rounds s.entries ≡ n

-- A refusal because memory was refused, or because a disk failed, where some disk is not steady.
abbrev pub IsSpoilt : List Marks → RecvError → Type 0
IsSpoilt marks NoMemory = Unit {0}
IsSpoilt marks DiskFailed = IsUnsteady marks
IsSpoilt marks _ = ⊥

-- A saved sound machine within the limits is received by who names the address at which its RAM begins, with disks of the sizes of its
-- own, unless memory is refused or a disk fails, where some disk is not steady. What is received is this machine and no other.
abbrev pub SavedIsReceived : Type 0
SavedIsReceived = (terms : Terms) (sizes : List ℕ) (marks : List Marks) (m : MachineState) → IsSound m → IsWithinLimits terms.limits m → base_of m.devices ≡ terms.base → sizes ≡ disk_sizes (shapes_in m.devices)
    → ((e : RecvError) → RefusesSlice terms sizes marks (whole m) e → IsSpoilt marks e) × ((k : MachineState) → IsStream (whole m) k → base_of k.devices ≡ terms.base → k ≡ m)

-- Memory was refused, or a disk failed.
abbrev pub IsWant : RecvError → Type 0
IsWant NoMemory = Unit {0}
IsWant DiskFailed = Unit {0}
IsWant _ = ⊥

-- Two answers are the same, but for memory and disks.
abbrev pub AreAlike : Result (Unit {0}) RecvError → Result (Unit {0}) RecvError → Type 0
AreAlike (Ok x) (Ok y) = Unit {0}
AreAlike (Ok x) (Err f) = IsWant f
AreAlike (Err e) (Ok y) = IsWant e
AreAlike (Err e) (Err f) = IsWant e ⊎ (IsWant f ⊎ (e ≡ f))

-- Two receivers that were fed the same bytes, told the same of RAM and with disks of the same sizes, answer the same piece alike, whoever
-- digests.
abbrev pub TellingIsDigesting : Type 0
TellingIsDigesting = (a b c d : Received) (bytes piece : List ℕ) (r s : Result (Unit {0}) RecvError) → b.ram ≡ a.ram → b.sizes ≡ a.sizes → HasBeenFed a bytes → HasBeenFed b bytes → Feeds a piece r c → Feeds b piece s d → AreAlike r s
