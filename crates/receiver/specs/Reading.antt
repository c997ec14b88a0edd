-- What the calls of a reader promise: all of a receiver but the bytes that it holds.
use Rattle.std.specs.Prelude.{◌≡◌, ◌≤◌, ℕ, ◌+◌, List, [], ◌++◌, length, take, drop, true, Result, Ok, Err, IfOk, IfErr, OnOk, OnErr, Option, Some}
use denote.RawPtr.{Ptr}
use Rattle.blk.specs.Disk.{DiskState}
use Rattle.guestmem.specs.Memory.{Memory}
use Rattle.machine.specs.Room.{RoomSeen}
use Rattle.machine.specs.Shapes.{disk_sizes}
use Rattle.receiver.specs.Disks.{AreKept, AreRefused, sizes_in}
use Rattle.receiver.specs.Faults.{Fault, WaitsHead}
use Rattle.receiver.specs.Fed.{IsUpTo, Tells}
use Rattle.receiver.specs.Receiving.{HasDevice, IsPastHead, IsTaken, Knows, MayTouch, ReaderSeen, has_failed, length_aside, place_in}
use Rattle.receiver.specs.Standing.{IsSized}
use Rattle.receiver.specs.Sums.{IsClear, SaysOn}
use Rattle.receiver.specs.declared.ram_terms.RamTerms.{RamTerms}
use Rattle.receiver.specs.declared.recv_error.RecvError.{RecvError}
use Rattle.receiver.specs.declared.recv_error.RecvError.TheVariants.{AlreadyFailed, NoMemory}
use Rattle.receiver.specs.declared.stage.Stage.{Stage}
use Rattle.receiver.specs.declared.stage.Stage.TheVariants as stages

-- What holds of each reader, whatever was fed. Until the header is read, the RAM that was handed in stands aside, and no other. From then
-- on the intake is of the header's sizes, and so are the disks, and all memory is reserved that the machine will need.
abbrev pub IsReader : RamTerms → List DiskState → Option Memory → Option RoomSeen → Stage → Type 0
IsReader ram disks aside room stages.Head = ram.len ≡ length_aside aside
IsReader ram disks aside room (stages.Records i) = IsSized i × (sizes_in disks ≡ disk_sizes i.shapes.items) × (room ≡ Some (record { devices = length i.shapes.items; disks = length disks }))
IsReader ram disks aside room stages.Failed = Unit {0}

-- Where its RAM lies, if that is memory of the caller.
abbrev pub place_of : ReaderSeen → Option Ptr
place_of r = place_in r.aside r.stage

-- The disks hold what they held, and so does the RAM that stands aside.
pub record HasSameStore (old new : ReaderSeen) : Type 0 where
  pub disks : new.disks ≡ old.disks
  pub aside : new.aside ≡ old.aside

-- The header was awaited, and still is: nothing was touched.
abbrev pub WaitsOn : ReaderSeen → ReaderSeen → Type 0
WaitsOn old new = new.stage ≡ stages.Head → (old.stage ≡ stages.Head) × HasSameStore old new

-- Nothing was fed.
pub record IsFirst (terms : RamTerms) (ds : List DiskState) (ram_aside : Option Memory) (new : ReaderSeen) : Type 0 where
  pub ram : new.ram ≡ terms
  pub disks : new.disks ≡ ds
  pub aside : new.aside ≡ ram_aside
  pub stage : new.stage ≡ stages.Head
  pub known : Knows new [] []

-- It takes no more: its RAM stands aside.
pub record StandsAside (old new : ReaderSeen) : Type 0 where
  pub ram : new.ram ≡ old.ram
  pub disks : new.disks ≡ old.disks
  pub stage : new.stage ≡ stages.Failed
  pub place : place_of new ≡ place_of old
  pub aside : ¬ (IsPastHead old.stage) → new.aside ≡ old.aside

-- After a look for the header of the bytes: it was read, and has `at` bytes; or it was read before, or is not whole; or it is refused.
abbrev pub HeaderAt : ReaderSeen → List ℕ → Result ℕ RecvError → ReaderSeen → Stage → Type 0
HeaderAt old bytes (Ok at) new stages.Head = (at ≡ 0) × WaitsHead new.ram.limits bytes × (new.digest ≡ old.digest)
HeaderAt old bytes (Ok at) new (stages.Records i) = IsUpTo i.ended new.ram new.disks new.digest (take at bytes) i
HeaderAt old bytes (Ok at) new stages.Failed = ⊥
HeaderAt old bytes (Err e) new stage = AreRefused old.disks new.disks e × Tells e ((at : ℕ) × Fault old.ram (sizes_in old.disks) bytes e at)

pub record ReadsHeader (old : ReaderSeen) (bytes : List ℕ) (result : Result ℕ RecvError) (new : ReaderSeen) : Type 0 where
  pub ram : new.ram ≡ old.ram
  pub disks : new.disks ≡ old.disks
  pub within : IfOk result (λ at. at ≤ length bytes)
  pub few : OnOk result (new.stage ≡ stages.Head → length bytes ≤ 495)
  pub place : place_of new ≡ place_of old
  pub later : IsPastHead old.stage → (result ≡ Ok 0) × (new ≡ old)
  pub failed : has_failed old.stage ≡ true → (result ≡ Ok 0) × (new ≡ old)
  pub stays : OnErr result (new ≡ old)
  pub waits : OnOk result (new.stage ≡ stages.Head → new ≡ old)
  pub says : OnOk result (SaysOn old.digest new.digest)
  pub opened : (held : List ℕ) → old.stage ≡ stages.Head → Knows old [] held → HeaderAt old bytes result new new.stage

-- After a look at bytes that follow those that were worked off: some of them are worked off, or they are refused.
abbrev pub LookedAt : ReaderSeen → List ℕ → List ℕ → Result ℕ RecvError → ReaderSeen → Type 0
LookedAt old front bytes (Ok at) new = AreKept old.disks new.disks × Knows new (front ++ take at bytes) (drop at bytes)
LookedAt old front bytes (Err e) new = AreRefused old.disks new.disks e × Tells e ((at : ℕ) × Fault old.ram (sizes_in old.disks) (front ++ bytes) e at)

pub record Looks (old : ReaderSeen) (bytes : List ℕ) (result : Result ℕ RecvError) (new : ReaderSeen) : Type 0 where
  pub ram : new.ram ≡ old.ram
  pub within : IfOk result (λ at. at ≤ length bytes)
  pub few : IfOk result (λ at. length bytes ≤ 131077 + at)
  pub failed : OnErr result (new.stage ≡ stages.Failed)
  pub past : IsPastHead old.stage → OnOk result (IsPastHead new.stage)
  pub place : place_of new ≡ place_of old
  pub says : OnOk result (SaysOn old.digest new.digest)
  pub memory : (front held : List ℕ) → Knows old front held → IsClear old.digest old.ram (sizes_in old.disks) (front ++ bytes) → IsPastHead old.stage → result ≡ Err NoMemory → HasDevice old.ram (sizes_in old.disks) (front ++ bytes) (length front)
  pub waits : OnOk result (WaitsOn old new)
  pub untouched : IfErr result (λ e. (front held : List ℕ) → Knows old front held → IsClear old.digest old.ram (sizes_in old.disks) (front ++ bytes) → ¬ (MayTouch old.ram (sizes_in old.disks) (front ++ bytes) e) → HasSameStore old new)
  pub looked : (front held : List ℕ) → Knows old front held → IsClear old.digest old.ram (sizes_in old.disks) (front ++ bytes) → LookedAt old front bytes result new

-- After more bytes, which make these bytes in all.
abbrev pub TookBytes : {A : Type 0} → ReaderSeen → List ℕ → Result A RecvError → ReaderSeen → List ℕ → Type 0
TookBytes old bytes (Ok x) new held = AreKept old.disks new.disks × IsTaken new.ram new.disks new.digest bytes held new.stage
TookBytes old bytes (Err e) new held = AreRefused old.disks new.disks e × Tells e ((at : ℕ) × Fault old.ram (sizes_in old.disks) bytes e at)

-- Bytes were taken behind those that were held, or refused.
pub record TakesBytes (old : ReaderSeen) (before bytes : List ℕ) (result : Result (Unit {0}) RecvError) (new : ReaderSeen) (held : List ℕ) : Type 0 where
  pub ram : new.ram ≡ old.ram
  pub few : OnOk result (length held ≤ 131077)
  pub shorter : OnOk result (length held ≤ length before + length bytes)
  pub failed : OnErr result (new.stage ≡ stages.Failed)
  pub past : IsPastHead old.stage → OnOk result (IsPastHead new.stage)
  pub place : place_of new ≡ place_of old
  pub says : OnOk result (SaysOn old.digest new.digest)
  pub memory : (front : List ℕ) → Knows old front before → IsClear old.digest old.ram (sizes_in old.disks) (front ++ (before ++ bytes)) → IsPastHead old.stage → result ≡ Err NoMemory
      → HasDevice old.ram (sizes_in old.disks) (front ++ (before ++ bytes)) (length front)
  pub waits : OnOk result (WaitsOn old new)
  pub untouched : IfErr result (λ e. (front : List ℕ) → Knows old front before → IsClear old.digest old.ram (sizes_in old.disks) (front ++ (before ++ bytes))
      → ¬ (MayTouch old.ram (sizes_in old.disks) (front ++ (before ++ bytes)) e) → HasSameStore old new)
  pub took : (front : List ℕ) → Knows old front before → IsClear old.digest old.ram (sizes_in old.disks) (front ++ (before ++ bytes)) → TookBytes old (front ++ (before ++ bytes)) result new held

-- A whole piece was. `had` and `has` are the room of the buffer, before and after.
pub record TakesPiece (old : ReaderSeen) (before : List ℕ) (had : ℕ) (piece : List ℕ) (result : Result ℕ RecvError) (new : ReaderSeen) (held : List ℕ) (has : ℕ) : Type 0 where
  pub ram : new.ram ≡ old.ram
  pub few : OnOk result (length held ≤ 131077)
  pub shorter : OnOk result (length held ≤ length before + length piece)
  pub roomy : (IsPastHead old.stage → 131078 ≤ had) → OnOk result (IsPastHead new.stage → 131078 ≤ has)
  pub failed : OnErr result (has_failed new.stage ≡ true)
  pub place : place_of new ≡ place_of old
  pub already : has_failed old.stage ≡ true → (result ≡ Err AlreadyFailed) × (new ≡ old)
  pub says : OnOk result (SaysOn old.digest new.digest)
  pub memory : (IsPastHead old.stage → 131078 ≤ had) → (front : List ℕ) → Knows old front before → IsClear old.digest old.ram (sizes_in old.disks) (front ++ (before ++ piece)) → IsPastHead old.stage → result ≡ Err NoMemory
      → HasDevice old.ram (sizes_in old.disks) (front ++ (before ++ piece)) (length front)
  pub waits : OnOk result (new.stage ≡ stages.Head → HasSameStore old new)
  pub untouched : IfErr result (λ e. (IsPastHead old.stage → 131078 ≤ had) → (front : List ℕ) → Knows old front before → IsClear old.digest old.ram (sizes_in old.disks) (front ++ (before ++ piece))
      → ¬ (MayTouch old.ram (sizes_in old.disks) (front ++ (before ++ piece)) e) → HasSameStore old new)
  pub took : (front : List ℕ) → Knows old front before → IsClear old.digest old.ram (sizes_in old.disks) (front ++ (before ++ piece)) → TookBytes old (front ++ (before ++ piece)) result new held
