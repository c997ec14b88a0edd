-- What the calls of a receiver promise, each in one record. What is said of bytes is said of each list that may have been fed.
use Rattle.std.specs.Prelude.{◌≡◌, ◌<◌, ◌≤◌, ℕ, ◌+◌, List, [], ◌∷◌, ◌++◌, take, drop, length, map, true, false, Result, Ok, Err, IfOk, IfErr, OnOk, OnErr, Option, Some}
use Rattle.blk.specs.Disk.{DiskState}
use Rattle.guestmem.specs.Memory.{Memory}
use Rattle.machine.specs.First.{dealt_marks}
use Rattle.machine.specs.Limits.{IsWithinLimits}
use Rattle.machine.specs.Seen.{Seen, all_marks, state_of}
use Rattle.machine.specs.Shapes.{disk_sizes}
use Rattle.machine.specs.State.{base_of}
use Rattle.wire.specs.Header as told
use Rattle.wire.specs.Stream.{IsStream, shapes_in}
use Rattle.receiver.specs.Disks.{AreHonestDisks, MarksAfter, disk_marks_of, sizes_of}
use Rattle.receiver.specs.Opened.{terms_at}
use Rattle.receiver.specs.Receiving.{HasBeenFed, has_ended, reads_in, HasDevice, HasHeaderFor, IsArrived, IsFinish, IsGivenUp, IsReceived, IsWholeFor, MayTouch, NoFault, Received, RefusesSlice, TellsNow, end_error, place_aside, ram_len_in}
use Rattle.receiver.specs.declared.receiver.Fed.{Fed}
use Rattle.receiver.specs.declared.ram_terms.RamTerms.{RamTerms}
use Rattle.receiver.specs.declared.recv_error.RecvError.{RecvError}
use Rattle.receiver.specs.declared.terms.Terms.{Terms}
use Rattle.receiver.specs.declared.recv_error.RecvError.TheVariants.{AlreadyFailed, NoMemory, Truncated}

-- A receiver that was fed nothing, with these disks and the RAM that was handed in, of which the host says this.
pub record IsNew {D : Type 0} (state : D → DiskState) (given : List D) (terms : RamTerms) (handed : Option Memory) (new : Received) : Type 0 where
  pub fed : HasBeenFed new []
  pub ram : new.ram ≡ terms
  pub sizes : new.sizes ≡ sizes_of state given
  pub marks : new.marks ≡ disk_marks_of state given
  pub disks : new.disks ≡ map state given
  pub aside : new.aside ≡ handed
  pub place : new.place ≡ place_aside handed

-- After the header memory is refused only where a device's record is whole that ends in this piece.
abbrev pub WantsDevice : Received → List ℕ → Type 0
WantsDevice old piece = (b : List ℕ) → HasBeenFed old b → (opening : told.Opening) (rest : List ℕ) → told.Begins b opening rest
    → (from : ℕ) → from + length old.held ≡ length b → HasDevice old.ram old.sizes (b ++ piece) from

-- The disks hold what they held, and so does the RAM that was handed in.
pub record IsUntouched (old new : Received) : Type 0 where
  pub disks : new.disks ≡ old.disks
  pub aside : new.aside ≡ old.aside

-- A piece was fed, and taken or refused. Until a header for these disks and this RAM is whole, neither is touched.
pub record Feeds (old : Received) (piece : List ℕ) (result : Result (Unit {0}) RecvError) (new : Received) : Type 0 where
  pub ram : new.ram ≡ old.ram
  pub sizes : new.sizes ≡ old.sizes
  pub marks : MarksAfter old.marks result new.marks
  pub fed : OnOk result ((b : List ℕ) → HasBeenFed old b → HasBeenFed new (b ++ piece))
  pub quiet : OnOk result ((b : List ℕ) → HasBeenFed old b → NoFault old.ram old.sizes (b ++ piece))
  pub told : IfErr result (λ e. (b : List ℕ) → HasBeenFed old b → TellsNow old.ram old.sizes b piece e)
  pub failed : OnErr result (new.failed ≡ true)
  pub place : new.place ≡ old.place
  pub already : old.failed ≡ true → result ≡ Err AlreadyFailed
  pub memory : result ≡ Err NoMemory → WantsDevice old piece
  pub gone : old.failed ≡ true → IsUntouched old new
  pub waits : OnOk result ((b : List ℕ) → HasBeenFed old b → ¬ (HasHeaderFor old.ram old.sizes (b ++ piece)) → IsUntouched old new)
  pub untouched : IfErr result (λ e. (b : List ℕ) → HasBeenFed old b → ¬ (MayTouch old.ram old.sizes (b ++ piece) e) → IsUntouched old new)

-- The record of the digest has begun, or begins with these bytes.
pub record IsDue (r : Received) (rest : List ℕ) : Type 0 where
  pub reads : reads_in r.stage ≡ true
  pub goes_on : has_ended r.stage ≡ false
  pub more : List ℕ
  pub begins : r.held ++ rest ≡ 5 ∷ more

-- The first bytes of a piece were taken, as far as the record of the digest: the others, if there are some, begin or go on with that record.
-- Where none was taken nothing changed, and else no byte of the record was.
pub record TakesSome (old : Received) (piece : List ℕ) (fed : Fed) (new : Received) : Type 0 where
  pub within : fed.used ≤ length piece
  pub feeds : Feeds old (take fed.used piece) (Ok tt) new
  pub all : fed.is_due ≡ false → fed.used ≡ length piece
  pub due : fed.is_due ≡ true → IsDue new (drop fed.used piece)
  pub same : fed.used ≡ 0 → new ≡ old
  pub before : 0 < fed.used → (b : List ℕ) → HasBeenFed old b → ¬ (IsDue new [])

-- A piece was fed as far as that record, or refused.
abbrev pub FeedsSome : Received → List ℕ → Result Fed RecvError → Received → Type 0
FeedsSome old piece (Ok fed) new = TakesSome old piece fed new
FeedsSome old piece (Err e) new = Feeds old piece (Err e) new

-- The result is a refusal for this reason. `why` reads it off what the refusal gives.
abbrev pub FailsAs : {T E : Type 0} → (E → RecvError) → Result T E → RecvError → Type 0
FailsAs why (Ok m) e = ⊥
FailsAs why (Err x) e = why x ≡ e

-- The end: a machine, or a refusal that gives this back.
pub record EndsWith {E : Type 0} (why : E → RecvError) (Gives : E → Type 0) (old : Received) (result : Result Seen E) : Type 0 where
  pub arrived : IfOk result (λ m. (b : List ℕ) → HasBeenFed old b → IsArrived b (state_of m))
  pub received : IfOk result (λ m. AreHonestDisks old.marks → (b : List ℕ) → HasBeenFed old b → IsStream b (state_of m))
  pub marks : IfOk result (λ m. all_marks m ≡ dealt_marks (shapes_in (state_of m).devices) old.marks)
  pub based : IfOk result (λ m. base_of (state_of m).devices ≡ old.ram.base)
  pub within : IfOk result (λ m. IsWithinLimits old.ram.limits (state_of m))
  pub ram_len : IfOk result (λ m. ram_len_in old.stage ≡ Some (length m.memory.bytes))
  pub fits : IfOk result (λ m. old.sizes ≡ disk_sizes (shapes_in (state_of m).devices))
  pub refused : IfErr result (λ x. (b : List ℕ) → HasBeenFed old b → IsFinish b (why x))
  pub whole : OnOk result ((b : List ℕ) → HasBeenFed old b → IsWholeFor old.ram old.sizes b)
  pub told : IfErr result (λ x. why x ≡ end_error old.failed)
  pub lacking : FailsAs why result Truncated → (b : List ℕ) → HasBeenFed old b → ¬ (IsWholeFor old.ram old.sizes b)
  pub place : IfOk result (λ m. m.memory.place ≡ old.place)
  pub already : old.failed ≡ true → FailsAs why result AlreadyFailed
  pub goes_on : OnOk result (old.failed ≡ false)
  pub back : IfErr result Gives

abbrev pub Finishes : Received → Result Seen RecvError → Type 0
Finishes old result = EndsWith (λ e. e) (λ e. Unit {0}) old result

-- A refusal gives the receiver back.
abbrev pub FinishesOrBack : Received → Result Seen (RecvError × Received) → Type 0
FinishesOrBack old result = EndsWith (λ x. x.0) (λ x. IsGivenUp old x.1) old result

-- A whole slice was received, or refused.
pub record Receives {D : Type 0} (state : D → DiskState) (disks : List D) (terms : Terms) (bytes : List ℕ) (result : Result (Seen × ℕ) RecvError) : Type 0 where
  pub arrived : IfOk result (λ x. IsArrived bytes (state_of x.0))
  pub received : IfOk result (λ x. AreHonestDisks (disk_marks_of state disks) → IsReceived bytes (state_of x.0) x.1)
  pub marks : IfOk result (λ x. all_marks x.0 ≡ dealt_marks (shapes_in (state_of x.0).devices) (disk_marks_of state disks))
  pub based : IfOk result (λ x. base_of (state_of x.0).devices ≡ terms.base)
  pub within : IfOk result (λ x. IsWithinLimits terms.limits (state_of x.0))
  pub fits : IfOk result (λ x. sizes_of state disks ≡ disk_sizes (shapes_in (state_of x.0).devices))
  pub whole : OnOk result (IsWholeFor (terms_at terms) (sizes_of state disks) bytes)
  pub refused : IfErr result (λ e. RefusesSlice terms (sizes_of state disks) (disk_marks_of state disks) bytes e)
