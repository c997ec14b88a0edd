-- A turn of the devices in one call: the steps that `vmig_next` names, one after another, as `vmig_step` makes them, and why it ends.
use Rattle.std.specs.Prelude.{◌≡◌, ◌≢◌, ◌≤◌, ◌<◌, ◌⊎◌, ℕ, ◌-◌, ◌==◌, ◌&&◌, ◌||◌, if◌then◌else◌, nat_lt, not, Bool, true, false, List, [], ◌∷◌, ◌++◌, length, map, Option, Some, None, slice_get}
use Rattle.machine.specs.Seen.{state_of}
use Rattle.machine.specs.Shapes.{made_as}
use Rattle.machine.specs.State.{DeviceState, MachineState}
use Rattle.machine.specs.Turn.{is_entropy, step_of}
use Rattle.machine.specs.declared.reply.Reply.TheVariants as replies
use Rattle.machine.specs.declared.work.Work.{Work}
use Rattle.sender.specs.History.{History}
use Rattle.sender.specs.LiveState.{LiveSeen}
use Rattle.sender.specs.declared.mig_error.MigError.TheVariants.{AlreadyStopped}
use Rattle.c_machine.specs.Description.{message_of}
use Rattle.c_machine.specs.Named.{are_zeros}
use Rattle.c_machine.specs.Status.{idle, not_known, status_of, sync, too_small, work}
use Rattle.c_handle.specs.Durable.{owed_lost}
use Rattle.c_handle.specs.Kept.{KeptSeen, State, Still, Moving}
use Rattle.c_handle.specs.Mirror.{away_status, is_away, is_stopped}
use Rattle.c_handle.specs.NextWork.{FindsWork}
use Rattle.c_handle.specs.OnHandle.{OnLoggedHandle, Unless}
use Rattle.c_handle.specs.Refused.{ArePlainIn, IsSameKept}
use Rattle.c_handle.specs.SendStatus.{mig_status}
use Rattle.c_handle.specs.Sent.{GoesOnSent, IsSent}
use Rattle.c_handle.specs.Stepped.{StepsOwing}
use Rattle.c_handle.specs.declared.turning.Turn.{Turn}
use Rattle.c_handle.specs.declared.turning.Outcome.{Outcome}
use Rattle.c_handle.specs.declared.turning.Outcome.TheVariants as outcomes

-- The turn after one step more.
abbrev pub counted : Turn → Work → Turn
counted t w = record t { dev = w.dev; pick = w.pick; left = t.left - 1 }

abbrev pub is_known_turn : Turn → Bool
is_known_turn t = (t.zero == 0) && (t.zero2 == 0) && are_zeros t.reserved

-- A status from 1 to 63 says that nothing was done.
abbrev pub is_refused : ℕ → Bool
is_refused status = nat_lt 0 status && nat_lt status 64

-- A turn goes on after an answer that no host has to know. An entropy device that completed a chain has room for bytes, and a host may put
-- some in.
abbrev pub goes_on : Bool → ℕ → Bool
goes_on entropy status = (status == idle) || (status == status_of replies.Taken) || (status == status_of replies.Moved) || ((status == status_of (replies.Completed 0)) && not entropy)

-- The devices of a machine that makes steps.
abbrev pub devices_in : State → List DeviceState
devices_in (Still m) = (state_of m).devices
devices_in (Moving l) = (state_of l.machine).devices
devices_in _ = []

-- The size of a buffer that is enough for every step of the machine.
abbrev pub message_in : State → ℕ
message_in k = message_of (map (λ d. made_as d.kind) (devices_in k))

-- Why no step is made: there is no machine here whose guest runs, a word of the turn is not known, or a step might send more than the
-- buffer holds.
abbrev pub turn_refusal : State → Turn → ℕ → Option ℕ
turn_refusal k t room =
    if is_away k then Some (away_status k)
    else if is_stopped k then Some (mig_status AlreadyStopped)
    else if not (is_known_turn t) then Some not_known
    else if nat_lt room (message_in k) then Some too_small
    else None

-- What `vmig_next` tells after the last step of the turn.
abbrev pub IsNamed : KeptSeen → Turn → ℕ → Work → Type 0
IsNamed k t status w = FindsWork k status w.dev t.dev w.pick t.pick

-- A step that it named was made by `vmig_step`.
pub record IsStep (k : KeptSeen) (t : Turn) (w : Work) (status number : ℕ) (buf new_buf : List ℕ) (next : KeptSeen) : Type 0 where
  pub named : IsNamed k t work w
  pub made : StepsOwing (owed_lost k w.dev w.pick) k.state k.written w.dev w.pick status number t.len buf new_buf next.state next.written
  pub rest : next ≡ record k { state = next.state; written = next.written }

-- It was, and the turn goes on: the next step of a turn.
pub record MakesNext (k : KeptSeen) (t : Turn) (w : Work) (buf new_buf : List ℕ) (next : KeptSeen) : Type 0 where
  pub status : ℕ
  pub number : ℕ
  pub step : IsStep k t w status number buf new_buf next
  pub some : 1 ≤ t.left
  pub on : goes_on (is_entropy (slice_get (devices_in k.state) w.dev)) status ≡ true

-- Steps were made, one after another.
abbrev pub AreMade : KeptSeen → Turn → List Work → List ℕ → List ℕ → KeptSeen → Turn → Type 0
AreMade k t [] buf new_buf next at = (next ≡ k) × (at ≡ t) × (new_buf ≡ buf)
AreMade k t (w ∷ ws) buf new_buf next at = (mid : KeptSeen) × (mid_buf : List ℕ) × MakesNext k t w buf mid_buf mid × AreMade mid (counted t w) ws mid_buf new_buf next at

-- No step changed anything.
abbrev pub IsAsBefore : KeptSeen → List ℕ → List ℕ → KeptSeen → Type 0
IsAsBefore k buf new_buf next = (next ≡ k) × (new_buf ≡ buf)

-- The next step of a turn that has some left, by its outcome.
abbrev pub Once : KeptSeen → Turn → Outcome → List ℕ → List ℕ → KeptSeen → Turn → Type 0
Once k t outcomes.Made buf new_buf next after = (w : Work) × MakesNext k t w buf new_buf next × (after ≡ counted t w)
Once k t (outcomes.NoneNamed status) buf new_buf next after = (w : Work) × IsNamed k t status w × (status ≢ work) × (status ≢ sync) × IsAsBefore k buf new_buf next × (after ≡ t)
Once k t outcomes.PassedOver buf new_buf next after = (w : Work) × IsNamed k t sync w × IsAsBefore k buf new_buf next × (after ≡ counted t w)
Once k t (outcomes.Refused status) buf new_buf next after = (w : Work) × (number : ℕ) × IsStep k t w status number buf new_buf next × (is_refused status ≡ true) × (after ≡ t)
Once k t (outcomes.Answered status) buf new_buf next after = (w : Work) × (number : ℕ) × IsStep k t w status number buf new_buf next × (is_refused status ≡ false)
    × (goes_on (is_entropy (slice_get (devices_in k.state) w.dev)) status ≡ false) × (after ≡ record (counted t w) { len = number })

-- What C gets for the outcome that ends a turn. A step that was refused memory is told where it is the first of a call, and else as more to
-- do: it is the first of the next call.
abbrev pub status_by : ℕ → Outcome → ℕ
status_by made outcomes.Made = work
status_by made (outcomes.NoneNamed status) = status
status_by made outcomes.PassedOver = sync
status_by made (outcomes.Refused status) = if made == 0 then status else work
status_by made (outcomes.Answered status) = status

abbrev pub ends_it : Outcome → Bool
ends_it outcomes.Made = false
ends_it _ = true

-- A turn has steps left, and the outcome of the next one ends it.
pub record IsEnded (made : ℕ) (k : KeptSeen) (t : Turn) (status : ℕ) (buf new_buf : List ℕ) (next : KeptSeen) (after : Turn) : Type 0 where
  pub outcome : Outcome
  pub some : 1 ≤ t.left
  pub once : Once k t outcome buf new_buf next after
  pub ends : ends_it outcome ≡ true
  pub status_is : status ≡ status_by made outcome

-- What is told where none is left: a step that owes a sync is more to do too.
abbrev pub more_or_none : ℕ → ℕ
more_or_none named = if named == sync then work else named

-- It has none left. Whether there is more to do is told.
pub record IsUsedUp (k : KeptSeen) (t : Turn) (status : ℕ) (buf new_buf : List ℕ) (next : KeptSeen) (after : Turn) : Type 0 where
  pub none_left : t.left ≡ 0
  pub named_status : ℕ
  pub step : Work
  pub named : IsNamed k t named_status step
  pub status_is : status ≡ more_or_none named_status
  pub same : IsAsBefore k buf new_buf next
  pub turn_same : after ≡ t

-- A turn: the steps that were made and went on, and what ended it.
pub record EndsTurn (k : KeptSeen) (t : Turn) (status : ℕ) (buf new_buf : List ℕ) (next : KeptSeen) (after : Turn) : Type 0 where
  pub works : List Work
  pub between : KeptSeen
  pub at : Turn
  pub mid_buf : List ℕ
  pub made : AreMade k t works buf mid_buf between at
  pub ended : IsUsedUp between at status mid_buf new_buf next after ⊎ IsEnded (length works) between at status mid_buf new_buf next after

abbrev pub TurnsKept : KeptSeen → Turn → ℕ → List ℕ → List ℕ → KeptSeen → Turn → Type 0
TurnsKept k t status buf new_buf next after =
    Unless (turn_refusal k.state t (length buf)) (λ reason. (status ≡ reason) × IsAsBefore k buf new_buf next × (after ≡ t)) (EndsTurn k t status buf new_buf next after)

-- A turn of the devices of a handle's machine.
abbrev pub Worked : Option KeptSeen → Turn → ℕ → List ℕ → List ℕ → Turn → Option KeptSeen → Type 0
Worked k t status buf new_buf after kept_after =
    OnLoggedHandle (λ reason. (status ≡ reason) × (new_buf ≡ buf) × (after ≡ t)) (λ old next log. TurnsKept old t status buf new_buf (record old { state = next; written = log }) after) k kept_after

-- A status from 1 to 63 says that the turn was refused, or that memory was: nothing changed, and no byte is sent.
abbrev pub RefusedTurnsNothing : Type 0
RefusedTurnsNothing = (k next : KeptSeen) (t after : Turn) (status : ℕ) (buf new_buf : List ℕ) → ArePlainIn k.state → TurnsKept k t status buf new_buf next after → 1 ≤ status → status < 64
    → IsSameKept k.state next.state × (new_buf ≡ buf) × (after ≡ t)

-- The step that ended a turn, if one did: the one that `vmig_next` named then, as `vmig_step` made it. One that was refused before the machine was no step.
abbrev pub EndsBy : KeptSeen → Turn → List ℕ → List ℕ → KeptSeen → List Work → Type 0
EndsBy k t buf new_buf next [] = IsAsBefore k buf new_buf next
EndsBy k t buf new_buf next (w ∷ []) = (status : ℕ) × (number : ℕ) × IsStep k t w status number buf new_buf next
EndsBy k t buf new_buf next ws = ⊥

-- The steps of a turn: those that were made and went on, and the one that ended it. One that is refused as a whole makes none.
abbrev pub HasSteps : KeptSeen → Turn → ℕ → List ℕ → List ℕ → KeptSeen → Turn → List Work → Type 0
HasSteps k t status buf new_buf next after works =
    Unless (turn_refusal k.state t (length buf)) (λ reason. works ≡ [])
    ((e : EndsTurn k t status buf new_buf next after) × (ws : List Work) × EndsBy e.between e.at e.mid_buf new_buf next ws × (works ≡ e.works ++ ws))

-- The steps of a turn, all of them and no others, are added to the history of a machine that is being migrated. Of a disk that is lost those
-- that make a flush are steps whose disk failed.
abbrev pub TurnsStaySent : Type 0
TurnsStaySent = (m : MachineState) (h : History) (taken pages : List ℕ) (k next : KeptSeen) (t after : Turn) (status : ℕ) (buf new_buf : List ℕ) (l : LiveSeen) → k.state ≡ Moving l → IsSent m h taken pages l → TurnsKept k t status buf new_buf next after
    → (works : List Work) × (live : LiveSeen) × HasSteps k t status buf new_buf next after works × (next.state ≡ Moving live) × GoesOnSent m h taken (map step_of works) pages live
