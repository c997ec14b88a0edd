-- A machine whose stream arrives in pieces.
use denote.RawPtr.{Ptr}
use Rattle.std.specs.Prelude.{◌≡◌, ◌≢◌, ℕ, ◌+◌, List, [], ◌++◌, length, map, Option, Some, None, Bool, true, false}
use Rattle.machine.specs.Seen.{Seen, no_marks, state_of}
use Rattle.machine.specs.State.{base_of}
use Rattle.receiver.specs.Calls.{IsUntouched, WantsDevice}
use Rattle.receiver.specs.Codes.{recv_code_of}
use Rattle.receiver.specs.Faults.{Fault}
use Rattle.receiver.specs.Receiving.{HasBeenFed, HasHeaderFor, HasRounds, IsFinish, MayTouch, end_error, IsWholeFor, NoFault, Received, TellsNow, place_aside, ram_len_in}
use Rattle.receiver.specs.Opened.{ram_at, told_by}
use Rattle.receiver.specs.declared.ram_terms.RamTerms.{RamTerms}
use Rattle.receiver.specs.declared.recv_error.RecvError.{RecvError}
use Rattle.receiver.specs.declared.recv_error.RecvError.TheVariants.{NoMemory, DiskFailed, AlreadyFailed}
use Rattle.wire.specs.Stream.{IsStream}
use Rattle.c_handle.specs.ArrivalSeen.{ArrivalSeen, AtHead, AtBody, Refused, Over}
use Rattle.c_handle.specs.Headed.{AreFitting, HasHeader, HasNoHeader}
use Rattle.c_machine.specs.Plain.{ArePlain}
use Rattle.c_handle.specs.declared.arrival.Arrived.{Arrived}
use Rattle.c_handle.specs.declared.arrival.Arrived.TheVariants as arrived
use Rattle.c_handle.specs.declared.arrival.Progress.{Progress}
use Rattle.c_handle.specs.declared.arrival.Progress.TheVariants.{Head, Body, Failed}
use Rattle.c_handle.specs.declared.arrival.Progress.TheVariants as progress

-- Nothing was fed, and these are the terms of RAM.
abbrev pub nothing_fed : RamTerms → Option Ptr → ArrivalSeen
nothing_fed ram place = AtHead ram place []

-- The stream was refused: no more is taken, and there will be no machine.
abbrev pub refused_for_good : ArrivalSeen
refused_for_good = Refused

-- What contracts see.
abbrev pub awaited_by : {S : Type 0} → Progress S → ArrivalSeen
awaited_by (Head terms ram held) = AtHead (told_by terms ram) (place_aside ram) held.items
awaited_by (Body r) = AtBody r
awaited_by (progress.Over r) = Over r
awaited_by Failed = Refused

-- The machine that has arrived, and whether its disks are images of the caller.
abbrev pub arrived_by : Arrived → Seen
arrived_by (arrived.Own m) = m
arrived_by (arrived.Mapped m) = m

abbrev pub are_images : Arrived → Bool
are_images (arrived.Own m) = false
are_images (arrived.Mapped m) = true

-- The header is incomplete.
abbrev pub IsAtHead : ArrivalSeen → Type 0
IsAtHead (AtHead ram place held) = Unit {0}
IsAtHead (AtBody r) = ⊥
IsAtHead Refused = ⊥
IsAtHead (Over r) = ⊥

-- These are all bytes that were fed, and there was no refusal. Once the header was read, the disks are of the sizes that it says.
abbrev pub HasCome : ArrivalSeen → List ℕ → Type 0
HasCome (AtHead ram place held) bytes = bytes ≡ held
HasCome (AtBody r) bytes = HasBeenFed r bytes × HasHeader r.ram.limits bytes r.sizes
HasCome Refused bytes = ⊥
HasCome (Over r) bytes = HasBeenFed r bytes

-- The sizes of the disks: until the header is whole there is none, but for images.
abbrev pub awaited_sizes : ArrivalSeen → List ℕ
awaited_sizes (AtHead ram place held) = []
awaited_sizes (AtBody r) = r.sizes
awaited_sizes Refused = []
awaited_sizes (Over r) = r.sizes

-- The address at which RAM will begin.
abbrev pub awaited_base : ArrivalSeen → ℕ
awaited_base (AtHead ram place held) = ram.base
awaited_base (AtBody r) = r.ram.base
awaited_base Refused = 0
awaited_base (Over r) = r.ram.base

-- What the host says: that address, the length of the RAM that was handed in, and how large the machine may be.
abbrev pub awaited_ram : ArrivalSeen → RamTerms
awaited_ram (AtHead ram place held) = ram
awaited_ram (AtBody r) = r.ram
awaited_ram Refused = ram_at 0
awaited_ram (Over r) = r.ram

-- Where its RAM will lie, if that is memory of the caller.
abbrev pub awaited_place : ArrivalSeen → Option Ptr
awaited_place (AtHead ram place held) = place
awaited_place (AtBody r) = r.place
awaited_place Refused = None
awaited_place (Over r) = r.place

-- How many bytes the RAM has of the machine that arrives, once its header was read.
abbrev pub ram_coming : ArrivalSeen → Option ℕ
ram_coming (AtHead ram place held) = None
ram_coming (AtBody r) = ram_len_in r.stage
ram_coming Refused = None
ram_coming (Over r) = ram_len_in r.stage

-- The disks lie in memory: none ever failed, or will.
abbrev pub AreSteady : Received → Type 0
AreSteady r = r.marks ≡ map (λ size. no_marks) r.sizes

-- A receiver with these terms of RAM, over disks in memory of these sizes, was fed these bytes, and there is no fault in them.
pub record IsFedTo (ram : RamTerms) (place : Option Ptr) (sizes bytes : List ℕ) (r : Received) : Type 0 where
  pub fed : HasBeenFed r bytes
  pub ram_is : r.ram ≡ ram
  pub place_is : r.place ≡ place
  pub sizes_are : r.sizes ≡ sizes
  pub steady : AreSteady r
  pub quiet : NoFault ram sizes bytes

abbrev pub IsComing : {S : Type 0} → Progress S → Type 0
IsComing (Head terms ram held) = HasNoHeader held.items
IsComing (Body r) = AreSteady r
IsComing (progress.Over r) = AreSteady r
IsComing Failed = Unit {0}

-- The disks are images of the caller.
abbrev pub is_over : ArrivalSeen → Bool
is_over (Over r) = true
is_over _ = false

-- Disks of the library are of the sizes that the header says. That images are of these sizes is known once the header is whole: another
-- header is a fault.
abbrev pub AreFittingFor : ArrivalSeen → List ℕ → Type 0
AreFittingFor (Over r) bytes = Unit {0}
AreFittingFor a bytes = AreFitting (awaited_ram a).limits bytes (awaited_sizes a)

-- These are all bytes that were fed, and there is no fault in them.
pub record GoesOnWith (bytes : List ℕ) (a : ArrivalSeen) : Type 0 where
  pub come : HasCome a bytes
  pub fit : AreFittingFor a bytes
  pub quiet : NoFault (awaited_ram a) (awaited_sizes a) bytes

-- There was no refusal.
abbrev pub IsOpen : ArrivalSeen → Type 0
IsOpen Refused = ⊥
IsOpen (Over r) = r.failed ≡ false
IsOpen a = Unit {0}

-- After a refusal: no more of the stream is taken, and there will be no machine. Images are still held.
abbrev pub IsClosed : ArrivalSeen → ArrivalSeen → Type 0
IsClosed (Over r) (Over next) = (next.failed ≡ true) × (next.sizes ≡ r.sizes)
IsClosed (Over r) next = ⊥
IsClosed a next = next ≡ Refused

-- Images hold what they held.
abbrev pub HasSameDisks : ArrivalSeen → ArrivalSeen → Type 0
HasSameDisks (Over r) (Over next) = next.disks ≡ r.disks
HasSameDisks (Over r) next = ⊥
HasSameDisks a next = Unit {0}

-- Until a header for these images and this RAM is whole, they hold what they held.
abbrev pub WaitsForHeader : ArrivalSeen → List ℕ → ArrivalSeen → Type 0
WaitsForHeader (Over r) piece (Over next) = (b : List ℕ) → HasBeenFed r b → ¬ (HasHeaderFor r.ram r.sizes (b ++ piece)) → IsUntouched r next
WaitsForHeader (Over r) piece next = ⊥
WaitsForHeader a piece next = Unit {0}

-- A piece that is refused for this reason changes neither after an earlier refusal, nor before what allows to touch them is whole.
pub record TouchesLate (r : Received) (piece : List ℕ) (error : RecvError) (next : Received) : Type 0 where
  pub gone : r.failed ≡ true → IsUntouched r next
  pub before : (b : List ℕ) → HasBeenFed r b → ¬ (MayTouch r.ram r.sizes (b ++ piece) error) → IsUntouched r next

abbrev pub RefusesUntouched : ArrivalSeen → List ℕ → RecvError → ArrivalSeen → Type 0
RefusesUntouched (Over r) piece error (Over next) = TouchesLate r piece error next
RefusesUntouched (Over r) piece error next = ⊥
RefusesUntouched a piece error next = Unit {0}

-- The next piece was taken.
pub record IsFed (a : ArrivalSeen) (piece : List ℕ) (next : ArrivalSeen) : Type 0 where
  pub went_on : IsOpen a
  pub goes_on : (b : List ℕ) → HasCome a b → GoesOnWith (b ++ piece) next
  pub waits : WaitsForHeader a piece next
  pub ram : awaited_ram next ≡ awaited_ram a
  pub place : awaited_place next ≡ awaited_place a

-- There is a fault in the bytes, for these terms of RAM, and disks of the sizes that the header says.
pub record IsFaulty (ram : RamTerms) (bytes : List ℕ) (error : RecvError) : Type 0 where
  pub sizes : List ℕ
  pub fit : AreFitting ram.limits bytes sizes
  pub at : ℕ
  pub fault : Fault ram sizes bytes error at

-- Why bytes are refused: memory was refused, which is wanted for a header and for the records of devices, or there is a fault in them.
abbrev pub TellsWhy : RamTerms → List ℕ → RecvError → Type 0
TellsWhy ram bytes NoMemory = Unit {0}
TellsWhy ram bytes error = IsFaulty ram bytes error

-- Why a piece is refused over images: as their receiver says, which knows the length of the RAM that was handed in, and never
-- because a disk failed. After the header memory is refused only where a record of a device is wanted.
pub record IsToldOver (r : Received) (piece : List ℕ) (error : RecvError) : Type 0 where
  pub already : r.failed ≡ true → error ≡ AlreadyFailed
  pub why : (b : List ℕ) → HasBeenFed r b → TellsNow r.ram r.sizes b piece error
  pub steady : error ≢ DiskFailed
  pub memory : error ≡ NoMemory → WantsDevice r piece

-- The same over disks of the library.
pub record IsToldOf (r : Received) (piece : List ℕ) (error : RecvError) : Type 0 where
  pub why : (b : List ℕ) → HasCome (AtBody r) b → TellsWhy r.ram (b ++ piece) error
  pub memory : error ≡ NoMemory → WantsDevice r piece

-- Why a piece is refused: a refusal came before, or all bytes up to the end of the piece are refused.
abbrev pub TellsOf : ArrivalSeen → List ℕ → RecvError → Type 0
TellsOf Refused piece error = error ≡ AlreadyFailed
TellsOf (Over r) piece error = IsToldOver r piece error
TellsOf (AtBody r) piece error = IsToldOf r piece error
TellsOf (AtHead ram place held) piece error = (b : List ℕ) → b ≡ held → TellsWhy ram (b ++ piece) error

-- Why no machine is made of all bytes: a refusal came before, or they are not yet the stream of a machine. It is never that memory was
-- refused.
abbrev pub TellsEnd : ArrivalSeen → RecvError → Type 0
TellsEnd Refused error = error ≡ AlreadyFailed
TellsEnd (Over r) error = (error ≡ end_error r.failed) × ((b : List ℕ) → HasBeenFed r b → IsFinish b error)
TellsEnd (AtBody r) error = (error ≡ end_error r.failed) × ((b : List ℕ) → HasCome (AtBody r) b → IsFinish b error)
TellsEnd (AtHead ram place held) error = (b : List ℕ) → b ≡ held → IsFinish b error

-- The bytes are the stream of this machine, whose RAM begins where it was to, and lies where it was to. Its disks lie in memory.
pub record HasArrived (a : ArrivalSeen) (m : Seen) : Type 0 where
  pub went_on : IsOpen a
  pub stream : (b : List ℕ) → HasCome a b → IsStream b (state_of m)
  pub base : base_of (state_of m).devices ≡ awaited_base a
  pub place : m.memory.place ≡ awaited_place a
  pub ram_len : ram_coming a ≡ Some (length m.memory.bytes)
  pub plain : ArePlain m

-- This number of rounds ended in the bytes so far; after a refusal it is 0.
abbrev pub CountsRounds : ArrivalSeen → ℕ → Type 0
CountsRounds Refused n = n ≡ 0
CountsRounds (Over r) n = (r.failed ≡ true → n ≡ 0) × ((b : List ℕ) → HasBeenFed r b → HasRounds r.ram r.sizes b n)
CountsRounds a n = (b : List ℕ) → HasCome a b → HasRounds (awaited_ram a) (awaited_sizes a) b n

-- Whether the bytes so far are a whole stream, up to the digest of all of it, and nothing was refused.
abbrev pub IsWholeIf : Bool → RamTerms → List ℕ → List ℕ → Type 0
IsWholeIf true ram sizes bytes = IsWholeFor ram sizes bytes
IsWholeIf false ram sizes bytes = ¬ (IsWholeFor ram sizes bytes)

abbrev pub TellsWhole : ArrivalSeen → Bool → Type 0
TellsWhole Refused whole = whole ≡ false
TellsWhole (Over r) whole = (r.failed ≡ true → whole ≡ false) × ((b : List ℕ) → HasBeenFed r b → IsWholeIf whole r.ram r.sizes b)
TellsWhole a whole = (b : List ℕ) → HasCome a b → IsWholeIf whole (awaited_ram a) (awaited_sizes a) b

-- The status of a piece, or an end, that is refused: it always names the stream's refusal, also if memory was refused, since
-- nothing is taken after it.
abbrev pub stream_status : RecvError → ℕ
stream_status error = 32 + recv_code_of error
