-- A turn of the devices while the RAM is lent: the host makes each step over a window. It asks before the step which one is next, and tells after
-- it what was answered; then the turn continues, or has ended.
use Rattle.std.specs.Prelude.{◌≡◌, ℕ, ◌≤◌, Bool, true, false, List, [], Option, Some, None, Result, Ok, Err, slice_get, if◌then◌else◌}
use Rattle.region.specs.declared.region.Region.{Region}
use Rattle.machine.specs.Beside.{IsMadeOver, ended}
use Rattle.machine.specs.NextWork.{next_work}
use Rattle.machine.specs.Parked.{ParkedSeen, parked_states}
use Rattle.machine.specs.State.{DeviceState}
use Rattle.machine.specs.Stepped.{reply_in}
use Rattle.machine.specs.Turn.{Once, counted, goes_on, is_entropy, owes_end, step_of}
use Rattle.machine.specs.declared.event.Event.{Event}
use Rattle.machine.specs.declared.event.Event.TheVariants.{Step}
use Rattle.machine.specs.declared.reply.Reply.{Reply}
use Rattle.machine.specs.declared.stepped.Stepped.{Stepped}
use Rattle.machine.specs.declared.stepped.Stepped.TheVariants as stepped
use Rattle.machine.specs.declared.turn.Plan.{Plan}
use Rattle.machine.specs.declared.turn.Turn.{Turn}
use Rattle.machine.specs.declared.turn.TurnEnd.{TurnEnd}
use Rattle.machine.specs.declared.turn.TurnEnd.TheVariants as ends
use Rattle.machine.specs.declared.work.Work.{Work}

-- The step is the next one of a turn that has some left, and owes no end of a write.
pub record IsPlanned (devices : List DeviceState) (turn : Turn) (plan : Plan) : Type 0 where
  pub left : 1 ≤ turn.left
  pub next : next_work devices turn.last ≡ Some plan.work
  pub due : owes_end (slice_get devices plan.work.dev) plan.work.pick ≡ false
  pub entropy : plan.is_entropy ≡ is_entropy (slice_get devices plan.work.dev)

-- The next step of a turn, or why the turn ends without one.
abbrev pub Plans : List DeviceState → Turn → Result Plan TurnEnd → Turn → Type 0
Plans devices turn (Ok plan) after = IsPlanned devices turn plan × (after ≡ turn)
Plans devices turn (Err ends.Idle) after = (next_work devices turn.last ≡ None) × (after ≡ turn)
Plans devices turn (Err ends.Unfinished) after = (turn.left ≡ 0) × ((w : Work) × (next_work devices turn.last ≡ Some w)) × (after ≡ turn)
Plans devices turn (Err ends.SyncOwed) after = (1 ≤ turn.left) × ((w : Work) × (next_work devices turn.last ≡ Some w) × (owes_end (slice_get devices w.dev) w.pick ≡ true) × (after ≡ counted turn w))
Plans devices turn (Err end) after = ⊥

-- Memory was refused to the step.
abbrev pub is_refused : Stepped → Bool
is_refused stepped.NoMemory = true
is_refused _ = false

-- Why the turn ends after the step of this plan with this answer, if it does.
abbrev pub end_after : Plan → Stepped → Option TurnEnd
end_after plan s = if is_refused s then Some ends.NoMemory else if goes_on plan.is_entropy (reply_in s []) then None else Some (ends.Answer s)

-- The turn then. A step to which memory was refused is not counted: it is the next one again.
abbrev pub turn_after : Turn → Plan → Stepped → Turn
turn_after turn plan s = if is_refused s then turn else counted turn plan.work

-- A step that was made over a window, and ended.
pub record IsMadeBeside (p : ParkedSeen) (dev pick : ℕ) (reply : Reply) (next : ParkedSeen) : Type 0 where
  pub window : Region
  pub left : Region
  pub mid : ParkedSeen
  pub made : IsMadeOver p window dev pick reply left mid
  pub due : Bool
  pub is_ended : next ≡ ended due dev mid

abbrev pub MakesBeside : ParkedSeen → Event → Reply → ParkedSeen → Type 0
MakesBeside p (Step dev pick) reply next = IsMadeBeside p dev pick reply next
MakesBeside p e reply next = ⊥

-- The plan, the step and what comes after it are one step of a turn, as a machine makes it whose RAM is in.
abbrev pub BesideIsOnce : Type 0
BesideIsOnce = (old new : ParkedSeen) (turn : Turn) (plan : Plan) (s : Stepped) (sent : List ℕ) → IsPlanned (parked_states old) turn plan → MakesBeside old (step_of plan.work) (reply_in s sent) new
    → Once parked_states MakesBeside old turn (end_after plan s) sent new (turn_after turn plan s)
