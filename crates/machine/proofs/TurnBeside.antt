-- A turn beside the guest is a turn.
use Rattle.std.proofs.Common.{◌≡◌, ℕ, Bool, true, false, List, slice_get, refl}
use Rattle.machine.specs.Parked.{ParkedSeen, parked_states}
use Rattle.machine.specs.Stepped.{reply_in}
use Rattle.machine.specs.Turn.{MakesNext, Once, counted, goes_on, is_entropy, step_of}
use Rattle.machine.specs.TurnBeside.{BesideIsOnce, IsPlanned, MakesBeside, end_after, turn_after}
use Rattle.machine.specs.declared.reply.Reply.{Reply}
use Rattle.machine.specs.declared.reply.Reply.TheVariants as replies
use Rattle.machine.specs.declared.stepped.Stepped.{Stepped}
use Rattle.machine.specs.declared.stepped.Stepped.TheVariants as stepped
use Rattle.machine.specs.declared.turn.Plan.{Plan}
use Rattle.machine.specs.declared.turn.Turn.{Turn}

module _ (old new : ParkedSeen) (turn : Turn) (plan : Plan) (sent : List ℕ) (planned : IsPlanned (parked_states old) turn plan) where
  next : (reply : Reply) → MakesBeside old (step_of plan.work) reply new → MakesNext parked_states MakesBeside old turn.last plan.work reply new
  next reply made = record { next = planned.next; due = planned.due; made = made }

  goes : (s : Stepped) (b : Bool) → goes_on plan.is_entropy (reply_in s sent) ≡ b → goes_on (is_entropy (slice_get (parked_states old) plan.work.dev)) (reply_in s sent) ≡ b
  goes s b is = rw (← planned.entropy) is

  completed : (len : ℕ) (b : Bool) → goes_on plan.is_entropy (replies.Completed len) ≡ b → MakesBeside old (step_of plan.work) (replies.Completed len) new → Once parked_states MakesBeside old turn (end_after plan (stepped.Completed len)) sent new (counted turn plan.work)
  completed len true is made = rw is (plan.work, replies.Completed len, next (replies.Completed len) made, goes (stepped.Completed len) true is, refl)
  completed len false is made = rw is (plan.work, next (replies.Completed len) made, goes (stepped.Completed len) false is, λ same. cc, refl)

  once : (s : Stepped) → MakesBeside old (step_of plan.work) (reply_in s sent) new → Once parked_states MakesBeside old turn (end_after plan s) sent new (turn_after turn plan s)
  once stepped.Idle made = (plan.work, replies.Idle, next replies.Idle made, refl, refl)
  once stepped.Taken made = (plan.work, replies.Taken, next replies.Taken made, refl, refl)
  once stepped.Moved made = (plan.work, replies.Moved, next replies.Moved made, refl, refl)
  once stepped.BadSector made = (plan.work, next replies.BadSector made, refl, λ is. cc, refl)
  once stepped.DiskFailed made = (plan.work, next replies.DiskFailed made, refl, λ is. cc, refl)
  once (stepped.Completed len) made = completed len (goes_on plan.is_entropy (replies.Completed len)) refl made
  once stepped.Sent made = (plan.work, next (replies.Sent sent) made, refl, λ is. cc, refl)
  once stepped.Dropped made = (plan.work, next replies.Dropped made, refl, λ is. cc, refl)
  once stepped.NeedsReset made = (plan.work, next replies.NeedsReset made, refl, λ is. cc, refl)
  once stepped.NoMemory made = (plan.work, next replies.NoMemory made, refl)
  once (stepped.Refused refusal) made = (plan.work, next (replies.Refused refusal) made, refl, λ is. cc, refl)

pub beside_is_once : BesideIsOnce
beside_is_once old new turn plan s sent planned made = once old new turn plan sent planned s made
