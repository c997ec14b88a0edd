-- What a receiver knows of the bytes that it was fed.
use Rattle.std.specs.Prelude.{◌≡◌, ◌<◌, ◌≤◌, ℕ, List, [], ◌++◌, length, Bool, true, false, Option, Some, None}
use denote.RawPtr.{Ptr}
use Rattle.receiver.specs.Sums.{Sums}
use Rattle.sha2.specs.Sha256.{sha256}
use Rattle.receiver.specs.Sums.{Summed}
use Rattle.guestmem.specs.Memory.{Memory}
use Rattle.guestmem.specs.Number.{IsBytes}
use Rattle.wire.specs.Header as told
use Rattle.wire.specs.Records.{Record, commit, device, spelled_record}
use Rattle.wire.specs.Stream.{IsStream, rounds, texts}
use Rattle.blk.specs.Disk.{DiskState}
use Rattle.machine.specs.BadSectors.{bad_on}
use Rattle.machine.specs.Room.{RoomSeen}
use Rattle.machine.specs.Seen.{Marks}
use Rattle.machine.specs.State.{MachineState}
use Rattle.receiver.specs.Disks.{IsUnsteady, all_marks_in, sizes_in}
use Rattle.receiver.specs.Opened.{Opened, opened_header, terms_at}
use Rattle.receiver.specs.Good.{IsNextRecord}
use Rattle.receiver.specs.Faults.{Fault, IsComplete, IsFront, WaitsHead}
use Rattle.receiver.specs.Fed.{IsKnownIn, Tells}
use Rattle.receiver.specs.Waiting.{LacksBytes}
use Rattle.receiver.specs.declared.ram_terms.RamTerms.{RamTerms}
use Rattle.receiver.specs.declared.stage.Stage.{Stage}
use Rattle.receiver.specs.declared.terms.Terms.{Terms}
use Rattle.receiver.specs.declared.stage.Stage.TheVariants as stages
use Rattle.receiver.specs.declared.recv_error.RecvError.{RecvError}
use Rattle.receiver.specs.declared.recv_error.RecvError.TheVariants.{AlreadyFailed, DiskFailed, NoMemory, Truncated}

-- What a receiver that was told this of RAM, with these disks, at this stage, knows of the bytes: those of `front` are worked off, and those after it are held.
-- The digest is that of the front.
abbrev pub IsKnown : RamTerms → List DiskState → Summed → List ℕ → List ℕ → Stage → Type 0
IsKnown ram disks digest front held stages.Head = (front ≡ []) × Sums digest [] × WaitsHead ram.limits held
IsKnown ram disks digest front held (stages.Records i) = IsKnownIn i.ended ram disks digest front held i
IsKnown ram disks digest front held stages.Failed = ⊥

-- What contracts see of all of a receiver but the bytes that it holds: what it was told of RAM; its disks; the RAM that stands aside; the
-- memory that is reserved for the machine; the digest of the bytes that were worked off; and how far it has come.
pub record ReaderSeen : Type 0 where
  pub ram : RamTerms
  pub disks : List DiskState
  pub aside : Option Memory
  pub room : Option RoomSeen
  pub digest : Summed
  pub stage : Stage

abbrev pub Knows : ReaderSeen → List ℕ → List ℕ → Type 0
Knows r front held = IsKnown r.ram r.disks r.digest front held r.stage

-- These are all bytes that were fed, and what of them is not worked off is held.
pub record IsTaken (ram : RamTerms) (disks : List DiskState) (digest : Summed) (bytes held : List ℕ) (stage : Stage) : Type 0 where
  pub front : List ℕ
  pub whole : bytes ≡ front ++ held
  pub known : IsKnown ram disks digest front held stage

-- The header was read.
abbrev pub IsPastHead : Stage → Type 0
IsPastHead stages.Head = ⊥
IsPastHead (stages.Records i) = Unit {0}
IsPastHead stages.Failed = ⊥

-- The bytes have no fault.
abbrev pub NoFault : RamTerms → List ℕ → List ℕ → Type 0
NoFault ram sizes bytes = (k : RecvError) (at : ℕ) → ¬ (Fault ram sizes bytes k at)

-- The refusal is a fault of the bytes, unless memory was refused or a disk failed.
abbrev pub TellsFault : RamTerms → List ℕ → List ℕ → RecvError → Type 0
TellsFault ram sizes bytes e = Tells e ((at : ℕ) × Fault ram sizes bytes e at)

-- The refusal is a fault of the bytes `b`, which were fed before, followed by `piece`, at a place after `b`, unless memory was
-- refused or a disk failed.
abbrev pub TellsNow : RamTerms → List ℕ → List ℕ → List ℕ → RecvError → Type 0
TellsNow ram sizes b piece e = Tells e ((at : ℕ) × (length b < at) × Fault ram sizes (b ++ piece) e at)

-- The number of rounds that ended in what was read.
abbrev pub rounds_in : Stage → ℕ
rounds_in stages.Head = 0
rounds_in (stages.Records i) = i.rounds
rounds_in stages.Failed = 0

-- How many bytes the RAM has of the machine that arrives, once its header was read.
abbrev pub ram_len_in : Stage → Option ℕ
ram_len_in stages.Head = None
ram_len_in (stages.Records i) = Some (length i.ram.bytes)
ram_len_in stages.Failed = None

abbrev pub is_head : Stage → Bool
is_head stages.Head = true
is_head (stages.Records i) = false
is_head stages.Failed = false

abbrev pub has_failed : Stage → Bool
has_failed stages.Head = false
has_failed (stages.Records i) = false
has_failed stages.Failed = true

-- The digest was read: the stream is complete.
abbrev pub has_ended : Stage → Bool
has_ended stages.Head = false
has_ended (stages.Records i) = i.ended
has_ended stages.Failed = false

-- The header was read, and nothing was refused.
abbrev pub reads_in : Stage → Bool
reads_in stages.Head = false
reads_in (stages.Records i) = true
reads_in stages.Failed = false

-- Where a RAM lies that stands aside, if that is memory of the caller.
abbrev pub place_aside : Option Memory → Option Ptr
place_aside None = None
place_aside (Some ram) = ram.place

-- The same of the RAM of a receiver: what it was given stands aside until the header is read, and whatever it has does after a
-- refusal.
abbrev pub place_in : Option Memory → Stage → Option Ptr
place_in aside stages.Head = place_aside aside
place_in aside (stages.Records i) = i.ram.place
place_in aside stages.Failed = place_aside aside

-- The length of a RAM that stands aside.
abbrev pub length_aside : Option Memory → Option ℕ
length_aside None = None
length_aside (Some ram) = Some (length ram.bytes)

-- What contracts see of a receiver: the address at which the RAM of the machine begins and the length of the RAM that was handed in,
-- which no call changes; the sizes of its disks and what else is known of them, the number of rounds that ended, and whether there
-- was a refusal; its disks, how far it has come, the digest of the bytes that were worked off, and the bytes that it
-- holds: those that were fed since the end of the last whole header or record; the RAM that stands aside, which until the header is
-- read is the one that was handed in; and where its RAM lies, if that is memory of the caller.
pub record Received : Type 0 where
  pub ram : RamTerms
  pub sizes : List ℕ
  pub marks : List Marks
  pub rounds : ℕ
  pub failed : Bool
  pub disks : List DiskState
  pub stage : Stage
  pub digest : Summed
  pub held : List ℕ
  pub aside : Option Memory
  pub place : Option Ptr

-- A receiver with this reader, which holds these bytes.
abbrev pub received_with : ReaderSeen → List ℕ → Received
received_with r held = record {
  ram = r.ram;
  sizes = sizes_in r.disks;
  marks = all_marks_in r.disks;
  rounds = rounds_in r.stage;
  failed = has_failed r.stage;
  disks = r.disks;
  stage = r.stage;
  digest = r.digest;
  held = held;
  aside = r.aside;
  place = place_in r.aside r.stage;
}

-- The receiver was fed these bytes, and there was no refusal.
pub record HasBeenFed (r : Received) (b : List ℕ) : Type 0 where
  pub goes_on : r.failed ≡ false
  pub bytes : IsBytes b
  pub taken : IsTaken r.ram r.disks r.digest b r.held r.stage

-- It takes no more, and has the same disks and the same RAM, which holds what it held where the header was not read.
pub record IsGivenUp (old new : Received) : Type 0 where
  pub failed : new.failed ≡ true
  pub ram : new.ram ≡ old.ram
  pub disks : new.disks ≡ old.disks
  pub aside : ¬ (IsPastHead old.stage) → new.aside ≡ old.aside
  pub sizes : new.sizes ≡ old.sizes
  pub marks : new.marks ≡ old.marks
  pub place : new.place ≡ old.place

-- What holds of each receiver. Bytes that wait for the rest of a record are fewer than the longest record has, and there is room for such
-- a record once the header was read. After a refusal nothing is held. `lacking` bytes of the record at the front are still to come.
pub record IsReceiver (r : ReaderSeen) (held : List ℕ) (room lacking : ℕ) : Type 0 where
  pub known : has_failed r.stage ≡ false → (front : List ℕ) × Knows r front held
  pub few : length held ≤ 131077
  pub gone : has_failed r.stage ≡ true → held ≡ []
  pub roomy : IsPastHead r.stage → 131078 ≤ room
  pub lacks : 0 < lacking → LacksBytes r.stage held lacking

-- Why there is no machine at the end: there was a refusal before, or the stream is cut off.
abbrev pub end_error : Bool → RecvError
end_error true = AlreadyFailed
end_error false = Truncated

-- A refusal at the end of the bytes: they are not a stream of any machine.
abbrev pub IsFinish : List ℕ → RecvError → Type 0
IsFinish b Truncated = (m : MachineState) → ¬ (IsStream b m)
IsFinish b _ = ⊥

-- A record of a device is whole in these bytes, behind whole good records, and none of its bytes is among the first `from`.
pub record HasDevice (ram : RamTerms) (sizes bytes : List ℕ) (from : ℕ) : Type 0 where
  pub opening : Opened
  pub before : List Record
  pub number : ℕ
  pub body : List ℕ
  pub more : List ℕ
  pub front : IsFront ram sizes bytes opening before (spelled_record (device number body) ++ more)
  pub behind : from ≤ length (opened_header opening ++ texts before)

-- The bytes begin with a header for these disks and this RAM.
pub record HasHeaderFor (ram : RamTerms) (sizes bytes : List ℕ) : Type 0 where
  pub opening : Opened
  pub before : List Record
  pub tail : List ℕ
  pub front : IsFront ram sizes bytes opening before tail

-- Only after such a header may bytes that are refused have touched a disk or RAM. Where memory is refused, only after a record of a device
-- is whole: the memory that a header wants is taken before anything is touched.
abbrev pub MayTouch : RamTerms → List ℕ → List ℕ → RecvError → Type 0
MayTouch ram sizes bytes NoMemory = HasDevice ram sizes bytes 0
MayTouch ram sizes bytes e = HasHeaderFor ram sizes bytes

-- What a refusal of a whole slice means: a fault of the bytes; or (`Truncated`) that they have no fault but are not a stream of
-- any machine; or that a disk failed, where some disk is not steady; or that memory was refused.
abbrev pub RefusesSlice : Terms → List ℕ → List Marks → List ℕ → RecvError → Type 0
RefusesSlice terms sizes marks bytes NoMemory = Unit {0}
RefusesSlice terms sizes marks bytes DiskFailed = IsUnsteady marks
RefusesSlice terms sizes marks bytes Truncated = NoFault (terms_at terms) sizes bytes × ((m : MachineState) → ¬ (IsStream bytes m))
RefusesSlice terms sizes marks bytes e = (at : ℕ) × Fault (terms_at terms) sizes bytes e at

-- The bytes do not continue with a whole record that may follow the good ones.
abbrev pub NoNext : Opened → List Record → List ℕ → Type 0
NoNext opening before tail = (r : Record) (y : List ℕ) → IsNextRecord opening before r → ¬ (tail ≡ spelled_record r ++ y)

-- `n` rounds ended among the whole good records of the bytes, and none if the header is not whole.
pub record HasRounds (ram : RamTerms) (sizes b : List ℕ) (n : ℕ) : Type 0 where
  pub none : ((heading : told.Opening) (rest : List ℕ) → ¬ (told.Begins b heading rest)) → n ≡ 0
  pub some : (opening : Opened) (before : List Record) (tail : List ℕ) → IsFront ram sizes b opening before tail → NoNext opening before tail → n ≡ rounds before

-- The bytes are a stream of a machine with the RAM and the devices of this one, on whose disks the same sectors are bad. What the good
-- ones hold no contract tells where the disks are not honest.
pub record IsArrived (bytes : List ℕ) (m : MachineState) : Type 0 where
  pub sent : MachineState
  pub stream : IsStream bytes sent
  pub ram : m.ram ≡ sent.ram
  pub devices : m.devices ≡ sent.devices
  pub bad : bad_on m.disks ≡ bad_on sent.disks

-- The bytes are a stream of this machine, in which `n` rounds ended.
pub record IsReceived (bytes : List ℕ) (m : MachineState) (n : ℕ) : Type 0 where
  pub stream : IsStream bytes m
  pub rounds_are : rounds stream.entries ≡ n

-- A header for disks of these sizes, whole good records that name every item and have every device, the digest of all bytes
-- before it, and nothing more.
pub record IsWholeFor (ram : RamTerms) (sizes b : List ℕ) : Type 0 where
  pub opening : Opened
  pub before : List Record
  pub front : IsFront ram sizes b opening before (spelled_record (commit (sha256 (opened_header opening ++ texts before))))
  pub complete : IsComplete opening before 5
