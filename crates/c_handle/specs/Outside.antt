-- Calls of disks outside of the machine of a handle, by its state.
use Rattle.std.specs.Prelude.{◌≡◌, ◌⊎◌, ℕ, ◌+◌, ◌≤◌, ◌<◌, ◌&&◌, Bool, true, false, List, [], Option, Some, None, slice_get, if◌then◌else◌}
use Rattle.guestmem.specs.Maybe.{after_if}
use Rattle.blk.specs.declared.outside.DiskCall.{DiskCall}
use Rattle.disk_calls.specs.Calls.{AllCalls, without}
use Rattle.disk_calls.specs.declared.calls.Place.{Place}
use Rattle.machine.specs.PageLog.{noted}
use Rattle.machine.specs.Parked.{parked_states}
use Rattle.machine.specs.Refusal.{code_of}
use Rattle.machine.specs.Seen.{state_of}
use Rattle.machine.specs.State.{DeviceState}
use Rattle.machine.specs.declared.event.DiskAnswer.{DiskAnswer}
use Rattle.machine.specs.declared.event.DiskAnswer.TheVariants as answers
use Rattle.machine.specs.declared.event.Event.TheVariants.{Disk}
use Rattle.machine.specs.declared.reply.Refusal.TheVariants.{TooLong}
use Rattle.sender.specs.Calls.{Serves}
use Rattle.sender.specs.LiveState.{HasPlaces, LiveSeen}
use Rattle.sender.specs.Logged.{ServesLogged}
use Rattle.sender.specs.Parked.{LiveParkedSeen}
use Rattle.sender.specs.ParkedCalls.{ServesParked}
use Rattle.sender.specs.declared.event.LiveEvent.TheVariants.{Guest}
use Rattle.sender.specs.declared.event.LiveReply.{LiveReply}
use Rattle.c_machine.specs.Status as statuses
use Rattle.c_handle.specs.DiskCalls.{HandsUnless, HasHandedNone, IsNotOut, IsOut, MeetsParked, MeetsStill, asker_lent, asker_of, counted_as, counts_in, done_with, fits_done, puts_bytes}
use Rattle.c_handle.specs.Kept.{KeptSeen, LoanSeen, State, StillLent, MovingLent, Still, Moving, Arriving, Lent, is_lost, parked_in}
use Rattle.c_handle.specs.OnHandle.{OfState, Unless}
use Rattle.c_handle.specs.Resetting.{state_refusal, stop_refusal}
use Rattle.c_handle.specs.declared.outside.Call.{Call}

-- A machine that was stopped asks for nothing; so does what arrives, and one that has lent its RAM.
abbrev pub HandsKept : State → AllCalls → ℕ → Call → Call → List ℕ → List ℕ → AllCalls → Type 0
HandsKept k calls status call old_call buf new_buf after =
    OfState (HasHandedNone calls status call old_call buf new_buf after) (λ m. HandsUnless None (state_of m) calls status call old_call buf new_buf after)
    (λ l. HandsUnless (stop_refusal l.phase) (state_of l.machine) calls status call old_call buf new_buf after) k

pub record DoesHand (k : KeptSeen) (status : ℕ) (call old_call : Call) (buf new_buf : List ℕ) (after : Option KeptSeen) : Type 0 where
  pub calls : AllCalls
  pub is_next : after ≡ Some (record k { calls = calls })
  pub hands : HandsKept k.state k.calls status call old_call buf new_buf calls

-- The next call of a disk outside of the machine of a handle is handed out.
abbrev pub HandsCall : Option KeptSeen → ℕ → Call → Call → List ℕ → List ℕ → Option KeptSeen → Type 0
HandsCall None status call old_call buf new_buf after = (status ≡ statuses.no_machine) × (call ≡ old_call) × (new_buf ≡ buf) × (after ≡ None)
HandsCall (Some k) status call old_call buf new_buf after = DoesHand k status call old_call buf new_buf after

-- As above, for a machine that is being migrated.
abbrev pub ServesAnswer : DiskAnswer → LiveSeen → Option (List Bool) → ℕ → ℕ → LiveSeen → Option (List Bool) → Type 0
ServesAnswer (answers.Gave bytes) l log dev pick next new_log = (reply : LiveReply) × HasPlaces l × ServesLogged (after_if noted) l log (Disk dev pick (answers.Gave bytes)) reply next new_log
ServesAnswer (answers.Did count) l log dev pick next new_log = (reply : LiveReply) × HasPlaces l × Serves l (Guest (Disk dev pick (answers.Did count))) reply next × (new_log ≡ log)
ServesAnswer answers.Failed l log dev pick next new_log = (reply : LiveReply) × HasPlaces l × Serves l (Guest (Disk dev pick answers.Failed)) reply next × (new_log ≡ log)

-- So it goes to the request that asked.
abbrev pub MeetsMoving : Option ℕ → DiskAnswer → LiveSeen → Option (List Bool) → ℕ → LiveSeen → Option (List Bool) → Type 0
MeetsMoving None answer l log dev next new_log = (next ≡ l) × (new_log ≡ log)
MeetsMoving (Some k) answer l log dev next new_log = ServesAnswer answer l log dev (k + 1) next new_log

abbrev pub MeetsLiveParked : Option ℕ → DiskAnswer → LiveParkedSeen → ℕ → LiveParkedSeen → Type 0
MeetsLiveParked None answer l dev next = next ≡ l
MeetsLiveParked (Some k) answer l dev next = (reply : LiveReply) × ServesParked l (Disk dev (k + 1) answer) reply next

abbrev pub MeetsLent : Place → DiskAnswer → LoanSeen → LoanSeen → Type 0
MeetsLent place answer (StillLent p) (StillLent next) = MeetsParked (asker_lent p place) answer p place.dev next
MeetsLent place answer (MovingLent l) (MovingLent next) = MeetsLiveParked (asker_lent l.machine place) answer l place.dev next
MeetsLent place answer _ _ = ⊥

abbrev pub Meets : Place → DiskAnswer → State → Option (List Bool) → State → Option (List Bool) → Type 0
Meets place answer (Still m) log (Still next) new_log = MeetsStill (asker_of (state_of m) place) answer m log place.dev next new_log
Meets place answer (Moving l) log (Moving next) new_log = MeetsMoving (asker_of (state_of l.machine) place) answer l log place.dev next new_log
Meets place answer (Lent x) log (Lent next) new_log = MeetsLent place answer x next × (new_log ≡ log)
Meets place answer _ log _ new_log = ⊥

-- The devices of a machine, also of one whose RAM is lent.
abbrev pub devices_of : State → List DeviceState
devices_of (Still m) = (state_of m).devices
devices_of (Moving l) = (state_of l.machine).devices
devices_of (Arriving r) = []
devices_of (Lent x) = parked_states (parked_in x)

-- The answer of a call, as it counts: of a disk that is lost none says that something is durable.
abbrev pub counted_answer : KeptSeen → Place → DiskAnswer → DiskAnswer
counted_answer k place answer = counted_as (counts_in (is_lost k place.dev) (slice_get (devices_of k.state) place.dev) place.call) answer

-- A call was answered: it is out no more.
pub record HasAnswered (k : KeptSeen) (place : Place) (answer : DiskAnswer) (status : ℕ) (next : State) (log : Option (List Bool)) (calls : AllCalls) : Type 0 where
  pub status_is : status ≡ statuses.done
  pub meets : Meets place (counted_answer k place answer) k.state k.written next log
  pub calls_are : calls ≡ without k.calls place.dev place.i

-- None was: this status, and all is as it was.
pub record HasNotAnswered (k : KeptSeen) (status : ℕ) (next : State) (log : Option (List Bool)) (calls : AllCalls) (reason : ℕ) : Type 0 where
  pub status_is : status ≡ reason
  pub state_same : next ≡ k.state
  pub log_same : log ≡ k.written
  pub calls_same : calls ≡ k.calls

-- What is no answer to it is refused; so is the answer of a read while RAM is lent.
abbrev pub misfit : Bool → Option ℕ
misfit true = None
misfit false = Some (code_of TooLong)

abbrev pub is_lent : State → Bool
is_lent (Lent x) = true
is_lent _ = false

abbrev pub unfit : State → DiskAnswer → Bool → Option ℕ
unfit k answer fits = if is_lent k && puts_bytes answer then Some statuses.lent else misfit fits

pub record AnswersAt (k : KeptSeen) (number : ℕ) (fits : DiskCall → Bool) (answer : DiskCall → DiskAnswer) (status : ℕ) (next : State) (log : Option (List Bool)) (calls : AllCalls) : Type 0 where
  pub place : Place
  pub is_out : IsOut k.calls number place
  pub answered : Unless (unfit k.state (answer place.call) (fits place.call)) (HasNotAnswered k status next log calls) (HasAnswered k place (answer place.call) status next log calls)

abbrev pub AnswersIf : KeptSeen → ℕ → (DiskCall → Bool) → (DiskCall → DiskAnswer) → ℕ → State → Option (List Bool) → AllCalls → Type 0
AnswersIf k number fits answer status next log calls =
    AnswersAt k number fits answer status next log calls ⊎ (IsNotOut k.calls number × HasNotAnswered k status next log calls statuses.not_out)

-- No call of this number is found, for this reason: the state, or that none is out.
abbrev pub Unfound : Option ℕ → AllCalls → ℕ → ℕ → Type 0
Unfound (Some reason) calls number status = status ≡ reason
Unfound None calls number status = (status ≡ statuses.not_out) × IsNotOut calls number

abbrev pub AnswersKept : KeptSeen → ℕ → (DiskCall → Bool) → (DiskCall → DiskAnswer) → ℕ → State → Option (List Bool) → AllCalls → Type 0
AnswersKept k number fits answer status next log calls =
    Unless (state_refusal k.state) (HasNotAnswered k status next log calls) (AnswersIf k number fits answer status next log calls)

pub record DoesAnswer (k : KeptSeen) (number : ℕ) (fits : DiskCall → Bool) (answer : DiskCall → DiskAnswer) (status : ℕ) (after : Option KeptSeen) : Type 0 where
  pub next : State
  pub log : Option (List Bool)
  pub calls : AllCalls
  pub is_next : after ≡ Some (record k { state = next; written = log; calls = calls })
  pub answers : AnswersKept k number fits answer status next log calls

abbrev pub Answers : Option KeptSeen → ℕ → (DiskCall → Bool) → (DiskCall → DiskAnswer) → ℕ → Option KeptSeen → Type 0
Answers None number fits answer status after = (status ≡ statuses.no_machine) × (after ≡ None)
Answers (Some k) number fits answer status after = DoesAnswer k number fits answer status after

abbrev pub Done : Option KeptSeen → ℕ → ℕ → List ℕ → ℕ → Option KeptSeen → Type 0
Done k number count bytes status after = Answers k number (fits_done count bytes) (done_with count bytes) status after

-- A call failed.
abbrev pub FailsCall : Option KeptSeen → ℕ → ℕ → Option KeptSeen → Type 0
FailsCall k number status after = Answers k number (λ call. true) (λ call. answers.Failed) status after

-- A status from 1 to 63 says that no call was handed out, or that the answer was refused: nothing changed, and the buffer is as it was.
abbrev pub RefusedHandsNothing : Type 0
RefusedHandsNothing = (k : State) (calls after : AllCalls) (status : ℕ) (call old_call : Call) (buf new_buf : List ℕ) → HandsKept k calls status call old_call buf new_buf after → 1 ≤ status → status < 64 → (after ≡ calls) × (call ≡ old_call) × (new_buf ≡ buf)

abbrev pub RefusedAnswersNothing : Type 0
RefusedAnswersNothing = (k : KeptSeen) (number : ℕ) (fits : DiskCall → Bool) (answer : DiskCall → DiskAnswer) (status : ℕ) (next : State) (log : Option (List Bool)) (calls : AllCalls) → AnswersKept k number fits answer status next log calls → 1 ≤ status
    → (next ≡ k.state) × (log ≡ k.written) × (calls ≡ k.calls)
