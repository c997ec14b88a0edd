-- A turn of the devices: steps that the next work names, one after another, and why it ends.
--
-- What is a step, and which is next, is given: of a machine, of one that is being migrated, or of a handle of the library for C.
use Rattle.std.specs.Prelude.{◌≡◌, ◌≢◌, ℕ, ◌-◌, ◌≤◌, ◌⊎◌, Bool, true, false, not, List, [], ◌∷◌, Option, Some, None, length, slice_get}
use Rattle.machine.specs.NextWork.{is_end_owed, next_work}
use Rattle.machine.specs.State.{DeviceState}
use Rattle.machine.specs.Stepped.{reply_in}
use Rattle.machine.specs.Unsynced.{owed}
use Rattle.machine.specs.declared.event.Event.{Event}
use Rattle.machine.specs.declared.event.Event.TheVariants.{Step}
use Rattle.machine.specs.declared.kind.Kind.{Kind}
use Rattle.machine.specs.declared.kind.Kind.TheVariants as kinds
use Rattle.machine.specs.declared.reply.Reply.{Reply}
use Rattle.machine.specs.declared.reply.Reply.TheVariants as replies
use Rattle.machine.specs.declared.turn.Turn.{Turn}
use Rattle.machine.specs.declared.turn.TurnEnd.{TurnEnd}
use Rattle.machine.specs.declared.turn.TurnEnd.TheVariants as ends
use Rattle.machine.specs.declared.work.Work.{Work}

abbrev pub step_of : Work → Event
step_of w = Step w.dev w.pick

-- The turn after one step more.
abbrev pub counted : Turn → Work → Turn
counted t w = record { last = w; left = t.left - 1 }

abbrev pub is_entropy_kind : Kind → Bool
is_entropy_kind (kinds.Entropy pool) = true
is_entropy_kind (kinds.Outside block) = false
is_entropy_kind kind = false

abbrev pub is_entropy : Option DeviceState → Bool
is_entropy None = false
is_entropy (Some d) = is_entropy_kind d.kind

-- A turn goes on after an answer that no host has to know: there was nothing to do, or a request was taken, moved or completed. An entropy
-- device that completed a chain has room for bytes, and a host may put some in.
abbrev pub goes_on : Bool → Reply → Bool
goes_on entropy replies.Idle = true
goes_on entropy replies.Taken = true
goes_on entropy replies.Moved = true
goes_on entropy (replies.Completed len) = not entropy
goes_on entropy _ = false

-- The step ends a write of a driver that did not accept FLUSH: what was written has to be durable before it.
abbrev pub owes_end : Option DeviceState → ℕ → Bool
owes_end None pick = false
owes_end (Some d) pick = is_end_owed (owed d pick)

-- The next step of a turn over the devices of a state: it is the one that the next work names, it owes no end of a write, and with this reply it
-- makes this of the state.
pub record MakesNext {S : Type 0} (devices : S → List DeviceState) (makes : S → Event → Reply → S → Type 0) (old : S) (last w : Work) (reply : Reply) (new : S) : Type 0 where
  pub next : next_work (devices old) last ≡ Some w
  pub due : owes_end (slice_get (devices old) w.dev) w.pick ≡ false
  pub made : makes old (step_of w) reply new

-- Steps were made one after another, each the next work after the one before it, with answers that no host has to know.
abbrev pub AreMade : {S : Type 0} → (S → List DeviceState) → (S → Event → Reply → S → Type 0) → S → Turn → List Work → List Reply → S → Turn → Type 0
AreMade devices makes old turn [] [] new at = (new ≡ old) × (at ≡ turn)
AreMade {S} devices makes old turn (w ∷ ws) (r ∷ rs) new at = (mid : S) × MakesNext devices makes old turn.last w r mid × (1 ≤ turn.left) × (goes_on (is_entropy (slice_get (devices old) w.dev)) r ≡ true)
    × AreMade devices makes mid (counted turn w) ws rs new at
AreMade devices makes old turn ws rs new at = ⊥

-- One step of a turn that has some left: it was made and the turn goes on, or the turn ends so.
abbrev pub Once : {S : Type 0} → (S → List DeviceState) → (S → Event → Reply → S → Type 0) → S → Turn → Option TurnEnd → List ℕ → S → Turn → Type 0
Once devices makes old turn None sent new after = (w : Work) × (r : Reply) × MakesNext devices makes old turn.last w r new × (goes_on (is_entropy (slice_get (devices old) w.dev)) r ≡ true) × (after ≡ counted turn w)
Once devices makes old turn (Some ends.Idle) sent new after = (next_work (devices old) turn.last ≡ None) × (new ≡ old) × (after ≡ turn)
Once devices makes old turn (Some ends.Unfinished) sent new after = ⊥
Once devices makes old turn (Some ends.SyncOwed) sent new after = (w : Work) × (next_work (devices old) turn.last ≡ Some w) × (owes_end (slice_get (devices old) w.dev) w.pick ≡ true) × (new ≡ old) × (after ≡ counted turn w)
Once devices makes old turn (Some ends.NoMemory) sent new after = (w : Work) × MakesNext devices makes old turn.last w replies.NoMemory new × (after ≡ turn)
Once devices makes old turn (Some (ends.Answer s)) sent new after = (w : Work) × MakesNext devices makes old turn.last w (reply_in s sent) new × (goes_on (is_entropy (slice_get (devices old) w.dev)) (reply_in s sent) ≡ false)
    × (reply_in s sent ≢ replies.NoMemory) × (after ≡ counted turn w)

-- Why a turn ends that has made this many steps: it has none left, and whether there is more to do is told; or its next step says so. Where
-- memory was refused to that step, and others were made before it, it is told as more to do.
abbrev pub Ends : {S : Type 0} → (S → List DeviceState) → (S → Event → Reply → S → Type 0) → ℕ → S → Turn → TurnEnd → List ℕ → S → Turn → Type 0
Ends devices makes made old turn ends.Idle sent new after = (next_work (devices old) turn.last ≡ None) × (new ≡ old) × (after ≡ turn)
Ends devices makes made old turn ends.Unfinished sent new after = ((turn.left ≡ 0) × ((w : Work) × (next_work (devices old) turn.last ≡ Some w)) × (new ≡ old) × (after ≡ turn))
    ⊎ ((1 ≤ turn.left) × (1 ≤ made) × Once devices makes old turn (Some ends.NoMemory) sent new after)
Ends devices makes made old turn ends.NoMemory sent new after = (1 ≤ turn.left) × (made ≡ 0) × Once devices makes old turn (Some ends.NoMemory) sent new after
Ends devices makes made old turn end sent new after = (1 ≤ turn.left) × Once devices makes old turn (Some end) sent new after

-- A turn, by its end: the steps that were made and went on, and then what ended it.
pub record Turns {S : Type 0} (devices : S → List DeviceState) (makes : S → Event → Reply → S → Type 0) (old : S) (turn : Turn) (end : TurnEnd) (sent : List ℕ) (new : S) (after : Turn) : Type 0 where
  pub works : List Work
  pub replies : List Reply
  pub between : S
  pub at : Turn
  pub made : AreMade devices makes old turn works replies between at
  pub ended : Ends devices makes (length works) between at end sent new after

-- The step that ended a turn, if one did, with its reply: it is the next work then. What is replied is why the turn ended; a message has the bytes
-- that were sent. A step that owes an end of a write was passed over, and one to which memory was refused is still to be made.
abbrev pub EndsBy : List DeviceState → Turn → TurnEnd → List ℕ → List Work → List Reply → Turn → Type 0
EndsBy devices at ends.Idle sent ws rs after = (ws ≡ []) × (rs ≡ []) × (after ≡ at)
EndsBy devices at ends.Unfinished sent ws rs after = ((ws ≡ []) × (rs ≡ []) × (after ≡ at))
    ⊎ ((w : Work) × (next_work devices at.last ≡ Some w) × (ws ≡ w ∷ []) × (rs ≡ replies.NoMemory ∷ []) × (after ≡ at))
EndsBy devices at ends.SyncOwed sent ws rs after = (w : Work) × (next_work devices at.last ≡ Some w) × (ws ≡ []) × (rs ≡ []) × (after ≡ counted at w)
EndsBy devices at ends.NoMemory sent ws rs after = (w : Work) × (next_work devices at.last ≡ Some w) × (ws ≡ w ∷ []) × (rs ≡ replies.NoMemory ∷ []) × (after ≡ at)
EndsBy devices at (ends.Answer s) sent ws rs after = (w : Work) × (next_work devices at.last ≡ Some w) × (ws ≡ w ∷ []) × (rs ≡ reply_in s sent ∷ []) × (after ≡ counted at w)
