-- The arrival of a machine of a handle, call by call.
use Rattle.std.specs.Prelude.{◌≡◌, ◌⊎◌, ℕ, ◌+◌, ◌-◌, ◌*◌, ◌^◌, ◌==◌, ◌||◌, if◌then◌else◌, min, nat_lt, Bool, true, false, List, length, Option, Some, None}
use Rattle.guestmem.specs.declared.limits.TheConstants.{PAGE_SIZE}
use Rattle.machine.specs.Seen.{Seen}
use Rattle.receiver.specs.declared.recv_error.RecvError.{RecvError}
use Rattle.receiver.specs.declared.recv_error.RecvError.TheVariants.{AlreadyFailed}
use Rattle.c_handle.specs.Admission.{Admits, first_refusal}
use Rattle.c_handle.specs.AdmissionSeen.{AdmissionSeen, Denied}
use Rattle.c_handle.specs.ArrivalSeen.{ArrivalSeen}
use Rattle.c_handle.specs.Awaited.{HasArrived, HasSameDisks, IsClosed, IsFed, RefusesUntouched, TellsEnd, TellsOf, TellsWhole, ram_coming, stream_status}
use Rattle.c_handle.specs.OnHandle.{Refuses, Unless}
use Rattle.c_handle.specs.declared.told_feeding.Telling.{Telling}
use Rattle.c_machine.specs.Status.{done, in_use, no_machine, not_asked, stream_too_large, whole}
use Rattle.c_handle.specs.Kept.{KeptSeen, State, Still, Moving, Arriving, Lent}

-- The status of a piece that was taken, by whether the stream has ended with it.
abbrev pub taken_status : Bool → ℕ
taken_status true = whole
taken_status false = done

-- A piece was let in and taken.
pub record HasFed (admission : AdmissionSeen) (r : ArrivalSeen) (piece : List ℕ) (status : ℕ) (after : AdmissionSeen) (next : ArrivalSeen) : Type 0 where
  pub admitted : Admits admission piece None after
  pub fed : IsFed r piece next
  pub ended : Bool
  pub tells : TellsWhole next ended
  pub status_is : status ≡ taken_status ended

-- A piece was let in and refused, and the stream with it, for good.
pub record HasNotFed (admission : AdmissionSeen) (r : ArrivalSeen) (piece : List ℕ) (status : ℕ) (after : AdmissionSeen) (next : ArrivalSeen) : Type 0 where
  pub let_in : AdmissionSeen
  pub admitted : Admits admission piece None let_in
  pub error : RecvError
  pub why : TellsOf r piece error
  pub untouched : RefusesUntouched r piece error next
  pub status_is : status ≡ stream_status error
  pub failed : IsClosed r next
  pub denied : after ≡ Denied status

-- A piece was not let in, and the stream was refused with it, for good: nothing else changed.
pub record HasDenied (admission : AdmissionSeen) (r : ArrivalSeen) (piece : List ℕ) (status : ℕ) (after : AdmissionSeen) (next : ArrivalSeen) : Type 0 where
  pub denied : Admits admission piece (Some status) after
  pub same : next ≡ r

abbrev pub FeedsWithin : AdmissionSeen → ArrivalSeen → List ℕ → ℕ → AdmissionSeen → ArrivalSeen → Type 0
FeedsWithin admission r piece status after next =
    HasFed admission r piece status after next ⊎ (HasNotFed admission r piece status after next ⊎ HasDenied admission r piece status after next)

-- A handle that has a machine is in use, and nothing changed; so below.
abbrev pub FeedsKept : AdmissionSeen → State → List ℕ → ℕ → AdmissionSeen → State → Type 0
FeedsKept admission (Arriving r) piece status after (Arriving next) = FeedsWithin admission r piece status after next
FeedsKept admission (Still m) piece status after (Still next) = Refuses status next m in_use × (after ≡ admission)
FeedsKept admission (Moving l) piece status after (Moving next) = Refuses status next l in_use × (after ≡ admission)
FeedsKept admission (Lent x) piece status after (Lent next) = Refuses status next x in_use × (after ≡ admission)
FeedsKept admission _ piece status after _ = ⊥

-- How many bytes were taken: none of a piece that was refused. The count ends at the greatest 64-bit number.
abbrev pub is_taken : ℕ → Bool
is_taken status = status == done || status == whole

abbrev pub fed_after : ℕ → ℕ → List ℕ → ℕ
fed_after status fed piece = if is_taken status then min (fed + length piece) (2 ^ 64 - 1) else fed

pub record DoesFed (k : KeptSeen) (piece : List ℕ) (status : ℕ) (after : Option KeptSeen) : Type 0 where
  pub next : State
  pub admission : AdmissionSeen
  pub is_next : after ≡ Some (record k { state = next; admission = admission; fed = fed_after status k.fed piece })
  pub does : FeedsKept k.admission k.state piece status admission next

-- Why nothing is done for an arrival: its stream was refused before.
abbrev pub refused_before : Option ℕ → Option ℕ
refused_before (Some first) = Some (stream_status AlreadyFailed)
refused_before None = None

-- The first reason, or else the other one.
abbrev pub or_else : Option ℕ → Option ℕ → Option ℕ
or_else (Some reason) other = Some reason
or_else None other = other

-- A host that tells the digest feeds pieces by another call (`specs/ToldFeeding`): this one is refused, and nothing changed.
abbrev pub feed_refusal : Option Telling → AdmissionSeen → Option ℕ
feed_refusal None admission = None
feed_refusal (Some telling) admission = or_else (refused_before (first_refusal admission)) (Some not_asked)

-- A piece was fed to the contents of a handle.
abbrev pub Fed : Option KeptSeen → List ℕ → ℕ → Option KeptSeen → Type 0
Fed None piece status after = (status ≡ no_machine) × (after ≡ None)
Fed (Some k) piece status after = Unless (feed_refusal k.telling k.admission) (λ reason. (status ≡ reason) × (after ≡ Some k)) (DoesFed k piece status after)

-- The machine has arrived.
pub record HasFinished (r : ArrivalSeen) (status : ℕ) (m : Seen) : Type 0 where
  pub status_is : status ≡ done
  pub arrived : HasArrived r m

-- The end was refused, and the stream with it. Images are as they were.
pub record HasNotFinished (r : ArrivalSeen) (status : ℕ) (next : ArrivalSeen) : Type 0 where
  pub error : RecvError
  pub why : TellsEnd r error
  pub status_is : status ≡ stream_status error
  pub failed : IsClosed r next
  pub same_disks : HasSameDisks r next

abbrev pub Ends : ArrivalSeen → ℕ → State → Type 0
Ends r status (Still m) = HasFinished r status m
Ends r status (Arriving next) = HasNotFinished r status next
Ends r status (Moving l) = ⊥
Ends r status (Lent x) = ⊥

abbrev pub IsArriving : State → Type 0
IsArriving (Arriving r) = Unit {0}
IsArriving _ = ⊥

abbrev pub FinishesState : State → ℕ → State → Type 0
FinishesState (Arriving r) status next = Ends r status next
FinishesState _ status next = ⊥

-- Why no arrival is finished: the handle has a machine, or the stream was refused before.
abbrev pub finish_refusal : AdmissionSeen → State → Option ℕ
finish_refusal admission (Arriving r) = refused_before (first_refusal admission)
finish_refusal admission _ = Some in_use

-- An end that was refused is so for good.
abbrev pub after_finish : ℕ → AdmissionSeen → AdmissionSeen
after_finish status admission = if status == done then admission else Denied status

pub record HasEnded (admission : AdmissionSeen) (k : State) (status : ℕ) (after : AdmissionSeen) (next : State) : Type 0 where
  pub ends : FinishesState k status next
  pub admission_is : after ≡ after_finish status admission

-- The machine that arrives has more pages than its log may have places. No such machine is let in, so that is never; it is asked before the
-- end, so that a log has a place for each page of a machine whatever came before.
abbrev pub has_more : ℕ → Option ℕ → Bool
has_more places None = false
has_more places (Some bytes) = nat_lt (PAGE_SIZE * places) bytes

abbrev pub outgrows : ℕ → State → Bool
outgrows places (Arriving r) = has_more places (ram_coming r)
outgrows places _ = false

-- It is refused for good, as one that is larger than is allowed, and nothing else changed.
pub record HasOutgrown (k : State) (status : ℕ) (after : AdmissionSeen) (next : State) : Type 0 where
  pub status_is : status ≡ stream_too_large
  pub admission_is : after ≡ Denied status
  pub same : next ≡ k

abbrev pub EndsIf : Bool → AdmissionSeen → State → ℕ → AdmissionSeen → State → Type 0
EndsIf true admission k status after next = HasOutgrown k status after next
EndsIf false admission k status after next = HasEnded admission k status after next

abbrev pub FinishesKept : ℕ → AdmissionSeen → State → ℕ → AdmissionSeen → State → Type 0
FinishesKept places admission k status after next =
    Unless (finish_refusal admission k) (λ reason. Refuses status next k reason × (after ≡ admission)) (EndsIf (outgrows places k) admission k status after next)

-- A machine that has arrived has no digest to be told.
abbrev pub telling_finished : ℕ → Option Telling → Option Telling
telling_finished status telling = if status == done then None else telling

pub record DoesFinish (k : KeptSeen) (status : ℕ) (after : Option KeptSeen) : Type 0 where
  pub next : State
  pub admission : AdmissionSeen
  pub is_next : after ≡ Some (record k { state = next; admission = admission; telling = telling_finished status k.telling })
  pub does : FinishesKept k.places k.admission k.state status admission next

-- A call to finish the arrival of the machine of a handle.
abbrev pub Finished : Option KeptSeen → ℕ → Option KeptSeen → Type 0
Finished None status after = (status ≡ no_machine) × (after ≡ None)
Finished (Some k) status after = DoesFinish k status after
